use Rattle.std.proofs.Common.{true≢false, sym, subst}
use Rattle.reqtable_cases.specs.Usable.{IsRangeOf}
use Rattle.reqtable_table.specs.Casing.{case_record}
use Rattle.reqtable_table.specs.Kept.{kept_under}
use Rattle.reqtable_table.specs.Numbered.{asks_at}
use Rattle.reqtable_conflicts.proofs.Picked.{has_none, none_usable}
use Rattle.reqtable_conflicts.proofs.contradicting.is_conflict.Goals as goal

pub returns-in-Some : goal.returns-in-Some
returns-in-Some c =
    let lines = kept_under c.args.name.now c.args.table.now in
    has_none lines (case_record c.args.case.now) c.in-Some.range c.holds_nothing.result
    (subst (IsRangeOf (asks_at (case_record c.args.case.now).numbers lines)) c.in-Some.is c.in_ok-range.ensures)
    c.holds_nothing.ensures

pub returns-in-None : goal.returns-in-None
returns-in-None c =
    let lines = kept_under c.args.name.now c.args.table.now in (
      λ t. absurd (true≢false (sym t)),
      λ h. absurd (none_usable lines (case_record c.args.case.now)
          (subst (IsRangeOf (asks_at (case_record c.args.case.now).numbers lines)) c.in-None.is c.in_ok-range.ensures) h),
    )
