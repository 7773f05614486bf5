use Rattle.std.proofs.Common.{◌∙◌}
use Rattle.pep508_tree.specs.Meaning.{diagram_of}
use Rattle.pep508_simplification.specs.Simplified.{is_listed, with_named}
use Rattle.reqs_c_markers.proofs.NormalTexts.{gives_text}
use Rattle.reqs_c_algebra.specs.Simplified.{HoldsWith}
use Rattle.reqs_c_algebra.proofs.Simplifying.{kept}
use Rattle.reqs_c_algebra.proofs.extras.text_with.Goals as goal

pub normal_text-requires : goal.normal_text-requires
normal_text-requires c = rw c.in-Ok.ensures.same at c.simplify_extras-made.ensures.made

pub returns-in-Ok : goal.returns-in-Ok
returns-in-Ok c = λ bytes is.
    let old = c.args.interner.now.nodes in
    let new = c.simplify_extras-made.new.interner.nodes in
    gives_text c.args.bounds bytes (HoldsWith c.args.names.now) is.marker (diagram_of new c.in-Ok.simple) _ is.is_marker
    (kept c.args.bounds.nodes old new c.args.tree bytes c.simplify_extras-made.ensures.keeps c.in-Ok.ensures.few is)
    c.normal_text.ensures.normal
    (λ v. (rw c.in-Ok.ensures.same at c.simplify_extras-made.ensures.truth) v
    ∙ is.is_tree.truth (with_named (is_listed c.args.names.now) v))
    c.normal_text.ensures.ends
