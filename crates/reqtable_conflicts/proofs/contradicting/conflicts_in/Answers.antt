use Rattle.std.proofs.Common.{◌∙◌, [], map, refl, sym, ap, subst}
use Rattle.std.specs.Option.{option_map}
use Rattle.std.proofs.lemmas.List.{append-nil}
use Rattle.reqtable_table.specs.Casing.{case_record}
use Rattle.reqtable_conflicts.specs.Contradictions.{conflict_record}
use Rattle.reqtable_conflicts.specs.Picking.{PicksOf}
use Rattle.reqtable_table.specs.Kept.{kept_under}
use Rattle.reqtable_conflicts.proofs.Picked.{found_next}
use Rattle.reqtable_conflicts.proofs.contradicting.conflicts_in.Goals as goal
use Rattle.reqtable_conflicts.proofs.contradicting.conflicts_in.Goals.{in-Some+in_ok-add_conflicts-in-Some}
use Rattle.reqtable_conflicts.proofs.contradicting.conflicts_in.Goals.{in-None}

pub loop-name-preserved : goal.loop-name-preserved
loop-name-preserved c =
    let table = c.args.table.now in
    let names = c.args.names.now in
    let i = c.loop-name.name-index in
    let name = c.name-item.result in
    let found = map conflict_record c.loop-name.found.items in
    let more = map conflict_record c.match-cases.found.items in
    elim c.match-cases.branch [
      | in-Some+in_ok-add_conflicts-in-Some w ↦
          let added = w.in_ok-add_conflicts-in-Some.ensures in
          let cases = ap (option_map (λ l. map case_record l.now)) (sym w.in-Some.is) ∙ c.cases.ensures in
          found_next table names i name found more added.0 c.loop-name-test.true c.name-item.is
          c.loop-name.invariant (subst (λ o. PicksOf (kept_under name.now table) o added.0) cases added.1)
          (ap (λ f. map conflict_record f.items) w.found-is ∙ added.2)
      | in-None w ↦
          let cases = ap (option_map (λ l. map case_record l.now)) (sym w.in-None.is) ∙ c.cases.ensures in
          found_next table names i name found more [] c.loop-name-test.true c.name-item.is
          c.loop-name.invariant (subst (λ o. PicksOf (kept_under name.now table) o []) cases refl)
          (ap (λ f. map conflict_record f.items) w.found-is ∙ sym (append-nil found))
    ]
