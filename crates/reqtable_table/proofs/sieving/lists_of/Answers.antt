use Rattle.std.proofs.Common.{◌∙◌, ◌++◌, ◌∷◌, ◌+◌, [], false, get_or, map, take, ap, sym, subst}
use Rattle.std.proofs.lemmas.List.{map-append}
use Rattle.reqtable_table.proofs.Sifted.{AcceptAll, has_list, pushed, passed_over, at_end}
use Rattle.reqtable_table.proofs.sieving.lists_of.Goals as goal
use Rattle.reqtable_table.proofs.sieving.lists_of.Goals.{then-has_list+in_ok-push, else-has_list}

pub loop-index-preserved : goal.loop-index-preserved
loop-index-preserved c =
    let marks = c.args.marks.now in
    let lines = c.args.lines.now in
    let i = c.loop-index.index in
    let line = c.index-lines-index.result in
    let before = map (λ list. list.now) c.loop-index.lists.items in
    elim c.if-has_list.branch [
      | then-has_list+in_ok-push w ↦
          let is = has_list (get_or marks i false) line.is_url (sym c.has_list.ensures ∙ w.if-has_list.true) in
          subst (AcceptAll (take (i + 1) marks) (take (i + 1) lines))
          (sym (ap (λ lists. map (λ l. l.now) lists.items) w.lists-is ∙ ap (map (λ l. l.now)) w.in_ok-push.ensures.items
          ∙ map-append (λ l. l.now) c.loop-index.lists.items _ ∙ ap (λ l. before ++ l ∷ []) w.specifiers.ensures))
          (pushed marks lines i line c.requires c.loop-index-test.true c.index-lines-index.is before c.loop-index.invariant
          is.0 is.1)
      | else-has_list w ↦
          subst (AcceptAll (take (i + 1) marks) (take (i + 1) lines))
          (sym (ap (λ lists. map (λ l. l.now) lists.items) w.lists-is))
          (passed_over marks lines i line c.requires c.loop-index-test.true c.index-lines-index.is before
          c.loop-index.invariant)
    ]

pub returns : goal.returns
returns c =
    at_end c.args.marks.now c.args.lines.now c.loop-index.index (map (λ list. list.now) c.loop-index.lists.items)
    c.requires c.loop-index-test.false c.loop-index.invariant
