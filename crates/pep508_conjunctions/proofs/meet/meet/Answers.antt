use Rattle.std.proofs.Common.{sym, subst}
use Rattle.pep508_diagram.specs.Branches.{RisingBranches, NeighboursDiffer}
use Rattle.pep508_conjunctions.proofs.Meets.{met_rises, met_differs, meet_points}
use Rattle.pep508_conjunctions.proofs.meet.meet.Goals as goal

pub returns-clause-points : goal.returns-clause-points
returns-clause-points g c =
    meet_points g.met.T.Ord.total c.args.a.now c.args.b.now c.both-first.result c.in_ok-later.later.items
    c.in_ok-pairs.pairs.items c.deref.result.now c.deref-2.result.now c.deref.ensures.value c.deref-2.ensures.value
    c.both-first.ensures c.in_ok-later.ensures c.in_ok-pairs.ensures.rises c.in_ok-pairs.ensures.points

pub returns-clause-rises : goal.returns-clause-rises
returns-clause-rises g c =
    subst (RisingBranches g.T.Ord.cmp) (sym c.in_ok-later.ensures)
    (met_rises g.met.T.Ord.total c.both-first.result c.in_ok-pairs.pairs.items c.in_ok-pairs.ensures.rises)

pub returns-clause-differ : goal.returns-clause-differ
returns-clause-differ g c =
    subst (NeighboursDiffer c.both-first.result) (sym c.in_ok-later.ensures)
    (met_differs g.met.T.Ord.total c.both-first.result c.in_ok-pairs.pairs.items)
