use Rattle.std.proofs.Common.{◌≡◌, ◌∙◌, ◌==◌, ◌++◌, ◌+◌, map, filter, take, get_or, ap, sym, append-nil}
use Rattle.std.proofs.lemmas.List.{map-append, take_more}
use Rattle.reqtable_table.specs.KeptLines.{line_record, lent_lines}
use Rattle.reqtable_table.specs.Numbered.{lines_at}
use Rattle.reqtable_table.proofs.Numbered.{lines_more}
use Rattle.reqtable_table.proofs.case_range.lines_at.Goals as goal
use Rattle.reqtable_table.proofs.case_range.lines_at.Goals.{in-Some+in_ok-push-in-Some, in-None}

pub loop-number-preserved : goal.loop-number-preserved
loop-number-preserved c =
    let lines = map line_record c.args.lines.now in
    let numbers = c.args.numbers.now in
    let i = c.loop-number.number-index in
    let number = get_or numbers i 0 in
    let own = c.loop-number.own.items in
    let before = c.loop-number.invariant in
    let more : lines_at (take (i + 1) numbers) lines
    ≡ lines_at (take i numbers) lines ++ filter (λ line. line.number == number) lines =
    ap (λ ns. lines_at ns lines) (take_more numbers i 0 c.loop-number-test.true)
    ∙ lines_more (take i numbers) number lines in
    elim c.match-line_at.branch [
      | in-Some+in_ok-push-in-Some w ↦
          let found = w.in-Some.ensures in
          ap (λ l. lent_lines l.items) w.own-is ∙ ap lent_lines w.in_ok-push-in-Some.ensures.items
          ∙ map-append (λ l. line_record l.now) own _ ∙ (λ j. before j ++ found j) ∙ sym more
      | in-None w ↦
          let found = w.in-None.ensures in
          ap (λ l. lent_lines l.items) w.own-is ∙ sym (append-nil (lent_lines own))
          ∙ (λ j. before j ++ found j) ∙ sym more
    ]
