use Rattle.std.proofs.Common.{sym, subst}
use Rattle.pep508_diagram.specs.Text.{text_cmp}
use Rattle.pep508_diagram.specs.Branches.{RisingBranches, NeighboursDiffer}
use Rattle.pep508_diagram.proofs.Chains.{turns_rise, turns_differ}
use Rattle.pep508_tree.proofs.interner.Interner.texts_tree.Goals as goal

pub leaf-requires-clause-rises : goal.leaf-requires-clause-rises
leaf-requires-clause-rises c =
    subst (RisingBranches text_cmp) (sym c.in_ok-later.ensures)
    (turns_rise text_cmp c.args.starts_held c.args.boundaries.now c.requires)

pub leaf-requires-clause-joined : goal.leaf-requires-clause-joined
leaf-requires-clause-joined c =
    subst (NeighboursDiffer c.args.starts_held) (sym c.in_ok-later.ensures)
    (turns_differ c.args.starts_held c.args.boundaries.now)
