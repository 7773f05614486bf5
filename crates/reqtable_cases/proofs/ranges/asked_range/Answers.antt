use Rattle.std.proofs.Common.{◌≡◌, ◌∙◌, sym, true, IfOk}
use Rattle.reqtable_range.specs.Together.{lent, HaveRanges}
use Rattle.reqtable_cases.specs.Usable.{is_ranged}
use Rattle.reqtable_cases.proofs.Ranged.{ranged_have}
use Rattle.reqtable_cases.proofs.ranges.asked_range.Goals as goal

pub shared_range-requires : goal.shared_range-requires
shared_range-requires c =
    ranged_have (lent c.args.members.now) (sym c.in_ok-ranged.ensures ∙ c.if-not-ranged.false)
