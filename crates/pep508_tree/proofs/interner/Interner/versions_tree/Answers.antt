use Rattle.std.proofs.Common.{◌∙◌, ap, sym, subst}
use Rattle.std.proofs.lemmas.Result.{IfOk-weaker}
use Rattle.version_ranges.specs.Held.{holds_at}
use Rattle.pep440_version.specs.OrderLaws.{version_cmp_total}
use Rattle.pep440_version.specs.Order.{version_cmp}
use Rattle.pep508_diagram.specs.Branches.{RisingBranches, NeighboursDiffer, branch_at}
use Rattle.pep508_diagram.proofs.Chains.{turns_held, turns_rise, turns_differ}
use Rattle.pep508_tree.proofs.interner.Interner.versions_tree.Goals as goal

pub leaf-requires-clause-rises : goal.leaf-requires-clause-rises
leaf-requires-clause-rises c =
    subst (RisingBranches version_cmp) (sym c.in_ok-later.ensures)
    (turns_rise version_cmp c.turns-starts_held.result.0 c.turns-starts_held.result.1.now
    c.turns-starts_held.ensures.rising)

pub leaf-requires-clause-joined : goal.leaf-requires-clause-joined
leaf-requires-clause-joined c =
    subst (NeighboursDiffer c.turns-starts_held.result.0) (sym c.in_ok-later.ensures)
    (turns_differ c.turns-starts_held.result.0 c.turns-starts_held.result.1.now)

pub returns-clause-truth : goal.returns-clause-truth
returns-clause-truth c =
    IfOk-weaker c.leaf.result _ _
    (λ tree is v. is v
    ∙ ap (λ later. branch_at version_cmp c.turns-starts_held.result.0 later (v.version c.args.key))
    c.in_ok-later.ensures
    ∙ turns_held version_cmp_total c.turns-starts_held.result.0 c.turns-starts_held.result.1.now
    (v.version c.args.key) c.turns-starts_held.ensures.rising
    ∙ ap (λ set. holds_at version_cmp set (v.version c.args.key)) c.turns-starts_held.ensures.turns)
    c.leaf.ensures.truth
