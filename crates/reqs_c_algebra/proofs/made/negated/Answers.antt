use Rattle.std.proofs.Common.{◌∙◌, not, ap}
use Rattle.pep508_tree.specs.Meaning.{diagram_of}
use Rattle.pep508_tree.specs.Tree.{negation}
use Rattle.reqs_c_markers.proofs.NormalTexts.{gives_text, no_tree}
use Rattle.reqs_c_algebra.specs.Made.{HoldsElsewhere}
use Rattle.reqs_c_algebra.proofs.made.negated.Goals as goal

pub normal_text-requires : goal.normal_text-requires
normal_text-requires c = rw c.negate.ensures c.in-Ok.ensures.tree.is_tree.made

pub returns-in-Ok : goal.returns-in-Ok
returns-in-Ok c =
    let read = c.in-Ok.ensures.tree in
    let nodes = c.read_marker.new.interner.nodes in
    let tree = c.in-Ok.tree in
    gives_text c.args.bounds c.args.bytes.now HoldsElsewhere read.marker (diagram_of nodes (negation tree)) _
    read.is_marker (record { nodes = nodes; tree = tree; are_few = c.in-Ok.ensures.few; is_tree = read })
    (rw c.negate.ensures at c.normal_text.ensures.normal)
    (λ v. c.negation_means_not.ensures nodes tree v ∙ ap not (read.is_tree.truth v))
    (rw c.negate.ensures at c.normal_text.ensures.ends)

pub returns : goal.returns
returns c = no_tree c.args.bounds c.args.bytes.now HoldsElsewhere _ c.in-Err.ensures.none
