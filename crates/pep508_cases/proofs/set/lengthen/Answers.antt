use Rattle.std.proofs.Common.{◌≡◌, ◌∙◌, ◌++◌, ◌∷◌, ◌+◌, [], length, not, true, ap, sym, arith}
use Rattle.std.proofs.lemmas.List.{append_assoc}
use Rattle.pep508_cases.specs.Sets.{marks_by, mark_after}
use Rattle.pep508_cases.proofs.Runs.{last_within, long_behind, merged}
use Rattle.pep508_cases.proofs.set.lengthen.Goals as goal

pub overflow_add-last : goal.overflow_add-last
overflow_add-last c =
    let run = c.in-Some.run'.now in
    let others = c.in-Some.others.now in
    let front = c.pop.new.self.items in
    let own = last_within true front c.in-Some-pop.last in
    let old = ap (λ rs. length (marks_by true rs)) c.in-Some-pop.ensures.items in
    let later = ap (λ rs. length (marks_by true rs)) c.in-Some.ensures.cases.0 in
    let more = long_behind true run others in
    omega (arith, own, old, later, more, c.requires.long)

pub overflow_add-last-2 : goal.overflow_add-last-2
overflow_add-last-2 c =
    let run = c.in-Some.run'.now in
    let others = c.in-Some.others.now in
    let front = c.pop.new.self.items in
    let own = last_within true front c.in-Some-pop.last in
    let old = ap (λ rs. length (marks_by true rs)) c.in-Some-pop.ensures.items in
    let later = ap (λ rs. length (marks_by true rs)) c.in-Some.ensures.cases.0 in
    let more = long_behind true run others in
    omega (arith, own, old, later, more, c.requires.long)

pub returns : goal.returns
returns c = λ mark.
    let run = c.in-Some.run'.now in
    let others = c.in-Some.others.now in
    let last = c.in-Some-pop.last in
    let front = c.pop.new.self.items in
    let old : c.args.runs.now.items ≡ front ++ last ∷ [] = c.in-Some-pop.ensures.items in
    let later : c.args.later.now ≡ run ∷ others = c.in-Some.ensures.cases.0 in
    let items : c.extend_from_slice.new.self.items ≡ front ++ (last + run + 1) ∷ others =
    c.in_ok-extend_from_slice.ensures.items ∙ ap (λ rs. rs ++ others) c.in_ok-push.ensures.items
    ∙ append_assoc front ((last + run + 1) ∷ []) others in
    ap (marks_by mark) items ∙ merged mark front last run others
    ∙ (λ i. marks_by mark (sym old i) ++ marks_by (not (mark_after mark (sym old i))) (sym later i))
