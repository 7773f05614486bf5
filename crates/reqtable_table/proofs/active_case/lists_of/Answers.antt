use Rattle.std.proofs.Common.{◌∙◌, ◌++◌, ◌∷◌, [], true, false, map, ap, sym, append-nil}
use Rattle.std.proofs.lemmas.List.{map-append}
use Rattle.reqtable_table.proofs.Marking.{marked_more}
use Rattle.reqtable_table.proofs.active_case.lists_of.Goals as goal
use Rattle.reqtable_table.proofs.active_case.lists_of.Goals.{then-marks-index+in_ok-push, else-marks-index}

pub loop-index-preserved : goal.loop-index-preserved
loop-index-preserved c =
    let marks = c.args.marks.now in
    let lines = c.args.lines.now in
    let i = c.loop-index.index in
    let line = c.index-lines-index.result in
    let before = c.loop-index.lists.items in
    elim c.if-marks-index.branch [
      | then-marks-index+in_ok-push w ↦
          ap (λ lists. map (λ l. l.now) lists.items) w.lists-is ∙ ap (map (λ l. l.now)) w.in_ok-push.ensures.items
          ∙ map-append (λ l. l.now) before _
          ∙ ap (λ l. map (λ x. x.now) before ++ l ∷ []) w.as_slice.ensures.value
          ∙ ap (λ l. l ++ line.extras.items ∷ []) c.loop-index.invariant
          ∙ sym (ap (map (λ l. l.extras.items))
          (marked_more marks lines i true _ line c.requires c.loop-index-test.true w.if-marks-index.true c.index-lines-index.is)
          ∙ map-append (λ l. l.extras.items) _ (line ∷ []))
      | else-marks-index w ↦
          ap (λ lists. map (λ l. l.now) lists.items) w.lists-is ∙ c.loop-index.invariant
          ∙ sym (ap (map (λ l. l.extras.items))
          (marked_more marks lines i false _ line c.requires c.loop-index-test.true w.if-marks-index.false c.index-lines-index.is
          ∙ append-nil _))
    ]
