use Rattle.std.proofs.Common.{ap}
use Rattle.pep508_diagram.specs.Question.{truth}
use Rattle.pep508_diagram.proofs.Somewhere.{marker_holds_somewhere}
use Rattle.pep508_tree.specs.Meaning.{diagram_of}
use Rattle.pep508_tree.proofs.OneTree.{canonical_trees, never_true}
use Rattle.pep508_tree_laws.proofs.a_tree_holds_somewhere.Goals as goal

pub returns : goal.returns
returns c = λ tree made other.
    let nodes = c.args.interner.now.nodes in
    let sound = c.are_sound.ensures in
    let false_is_never = (never_true nodes sound tree made).1 in
    marker_holds_somewhere (diagram_of nodes tree) (canonical_trees nodes sound tree made)
    (λ e. other (false_is_never (λ v. ap (λ d. truth d v) e)))
