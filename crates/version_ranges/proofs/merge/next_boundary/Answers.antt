use Rattle.std.proofs.Common.{sym}
use Rattle.version_ranges.specs.OrderLaws.{boundaries_total}
use Rattle.version_ranges.proofs.Turning.{no_more}
use Rattle.version_ranges.proofs.Pass.{first_alone_a, first_alone_b, first_less, first_equal, first_greater}
use Rattle.version_ranges.proofs.merge.next_boundary.Goals as goal

pub returns-in-None-Some : goal.returns-in-None-Some
returns-in-None-Some g c =
    let arm = c.in-None-Some in
    first_alone_b (boundaries_total g.T.Ord.cmp g.met.T.Ord.total) arm.boundary.now _ _ arm.behind.now
    arm.ensures'.cases.0 (no_more c.args.first.now arm.ensures.cases)

pub returns-in-Some-None : goal.returns-in-Some-None
returns-in-Some-None g c =
    let arm = c.in-Some-None in
    first_alone_a (boundaries_total g.T.Ord.cmp g.met.T.Ord.total) arm.boundary.now _ arm.behind.now _
    arm.ensures.cases.0 (no_more c.args.second.now arm.ensures'.cases)

pub returns-in-Less : goal.returns-in-Less
returns-in-Less g c =
    let arm = c.in-Some-Some in
    first_less (boundaries_total g.T.Ord.cmp g.met.T.Ord.total) arm.boundary.now arm.other.now _ _
    arm.behind.now
    arm.other_behind.now arm.ensures.cases.0 arm.ensures'.cases.0 (sym c.in-Less.ensures)

pub returns-in-Equal : goal.returns-in-Equal
returns-in-Equal g c =
    let arm = c.in-Some-Some in
    first_equal (boundaries_total g.T.Ord.cmp g.met.T.Ord.total) arm.boundary.now arm.other.now _ _
    arm.behind.now
    arm.other_behind.now arm.ensures.cases.0 arm.ensures'.cases.0 (sym c.in-Equal.ensures)

pub returns-in-Greater : goal.returns-in-Greater
returns-in-Greater g c =
    let arm = c.in-Some-Some in
    first_greater (boundaries_total g.T.Ord.cmp g.met.T.Ord.total) arm.boundary.now arm.other.now _ _
    arm.behind.now
    arm.other_behind.now arm.ensures.cases.0 arm.ensures'.cases.0 (sym c.in-Greater.ensures)
