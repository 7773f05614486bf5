use Rattle.std.proofs.Common.{◌∙◌, ap, subst}
use Rattle.reqtable_range.specs.Together as together
use Rattle.reqtable_cases.specs.Usable.{IsRangeOfMembers}
use Rattle.reqtable_packages.specs.Packages.{lent}
use Rattle.reqtable_conflicts.proofs.Agreed.{some_point}
use Rattle.reqtable_conflicts.proofs.doubtful.meet.Goals as goal

pub returns-in-Some : goal.returns-in-Some
returns-in-Some c =
    let members = together.lent c.deref.result.now in
    some_point members c.in-Some.range (lent c.args.lines.now) c.holds_nothing.result
    (ap together.lent c.deref.ensures.value ∙ c.in_ok-members.ensures)
    (subst (IsRangeOfMembers members) c.in-Some.is c.in_ok-range.ensures) c.holds_nothing.ensures
