use Rattle.std.proofs.Common.{◌∙◌, ◌+◌, map, take, sym, ap, subst, true≢false}
use Rattle.reqtable_table.specs.Casing.{case_record}
use Rattle.reqtable_table.specs.Kept.{kept_under}
use Rattle.reqtable_conflicts.specs.Contradictions.{conflict_record}
use Rattle.reqtable_conflicts.specs.Picking.{AddsPicked}
use Rattle.reqtable_conflicts.proofs.Picked.{picks_next, passes_next}
use Rattle.reqtable_conflicts.proofs.contradicting.add_conflicts.Goals as goal
use Rattle.reqtable_conflicts.proofs.contradicting.add_conflicts.Goals.{then-conflicting+in_ok-push_conflict}
use Rattle.reqtable_conflicts.proofs.contradicting.add_conflicts.Goals.{else-conflicting}

pub loop-case-preserved : goal.loop-case-preserved
loop-case-preserved c =
    let lines = kept_under c.args.name.now c.args.table.now in
    let cases = c.args.cases.now in
    let i = c.loop-case.case-index in
    let case = c.case-item.result in
    let old = map conflict_record c.args.found.now.items in
    let new = map conflict_record c.loop-case.found.items in
    elim c.if-conflicting.branch [
      | then-conflicting+in_ok-push_conflict w ↦
          picks_next lines c.args.name.now cases i case old new (map conflict_record c.if-conflicting.found.items)
          c.loop-case-test.true c.case-item.is c.loop-case.invariant
          (c.in_ok-conflicting.ensures.0 w.if-conflicting.true)
          (ap (λ f. map conflict_record f.items) w.found-is ∙ w.in_ok-push_conflict.ensures)
      | else-conflicting w ↦
          subst (λ f. AddsPicked lines c.args.name.now (map case_record (take (i + 1) cases)) old
          (map conflict_record f.items)) (sym w.found-is)
          (passes_next lines c.args.name.now cases i case old new c.loop-case-test.true c.case-item.is
          c.loop-case.invariant
          (λ h. true≢false (sym (c.in_ok-conflicting.ensures.1 h) ∙ w.if-conflicting.false)))
    ]
