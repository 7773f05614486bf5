use Rattle.reqs_c_algebra.proofs.Simplifying.{kept, text_between}
use Rattle.reqs_c_algebra.proofs.within.text_between.Goals as goal

pub normal_text-requires : goal.normal_text-requires
normal_text-requires c = rw c.in-Ok.ensures.same at c.simplify_python_versions-made.ensures.made

pub returns-in-Ok : goal.returns-in-Ok
returns-in-Ok c = λ bytes is.
    let old = c.args.interner.now.nodes in
    let new = c.simplify_python_versions-made.new.interner.nodes in
    text_between c.args.bounds old new c.args.tree c.in-Ok.simple c.args.least.now c.args.end.now _ _ _
    c.lower_bound-lower.ensures c.upper_bound-upper.ensures
    (rw c.in-Ok.ensures.same at c.simplify_python_versions-made.ensures.truth)
    c.normal_text.ensures.normal c.normal_text.ensures.ends bytes
    (kept c.args.bounds.nodes old new c.args.tree bytes c.simplify_python_versions-made.ensures.keeps
    c.in-Ok.ensures.few is) is
