use Rattle.std.proofs.Common.{◌∙◌, map, refl, sym, ap, subst}
use Rattle.std.proofs.lemmas.List.{length-map}
use Rattle.reqtable_candidates.specs.Ordered.{placed_seen}
use Rattle.reqtable_table.specs.Choosing.{case_asks, outcome_in_order}
use Rattle.reqtable_table.specs.KeptLines.{line_record, package_record}
use Rattle.reqtable_table.specs.Owns.{own_record}
use Rattle.reqtable_table.proofs.Numbered.{Rise}
use Rattle.reqtable_table.proofs.Told.{told_more}
use Rattle.reqtable_table.proofs.row.decided.Goals as goal

pub outcome-requires-clause-rising : goal.outcome-requires-clause-rising
outcome-requires-clause-rising g c =
    subst (λ l. Rise (map line_record l)) (sym c.deref_mut.ensures.value) c.requires.lines.rising

pub returns-in-Ok-clause-told : goal.returns-in-Ok-clause-told
returns-in-Ok-clause-told g c =
    told_more _ (package_record c.args.kept.now) (own_record c.args.own.now c.args.told.now) (own_record c.args.own.now c.tell.new.self)
    c.args.place c.args.marks.now c.in-Ok.outcome c.requires.told refl c.tell.ensures c.requires.lines
    (c.requires.marks ∙ sym (length-map c.args.kept.now.lines.items line_record)) c.requires.numbers
    (λ admits by. c.in-Ok.ensures.outcome admits by
    ∙ ap (λ l. outcome_in_order admits (case_asks c.args.marks.now (map line_record l)) (map placed_seen c.args.own.now))
    c.deref_mut.ensures.value)
    c.in-Ok.ensures.below
