use Rattle.pep508_tree.proofs.OneTree.{always_true, never_true}
use Rattle.pep508_tree_laws.proofs.constants_are_named.Goals as goal

pub returns-clause-truth : goal.returns-clause-truth
returns-clause-truth c = always_true c.args.interner.now.nodes c.are_sound.ensures

pub returns-clause-falsehood : goal.returns-clause-falsehood
returns-clause-falsehood c = never_true c.args.interner.now.nodes c.are_sound.ensures
