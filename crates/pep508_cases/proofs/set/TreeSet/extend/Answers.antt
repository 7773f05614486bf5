use Rattle.std.proofs.Common.{◌≡◌, ◌∙◌, ◌++◌, length, true, ap, sym, arith}
use Rattle.std.proofs.lemmas.Bool.Decides.{nat_tests}
use Rattle.pep508_cases.specs.Sets.{marks_by, mark_after}
use Rattle.pep508_cases.proofs.Runs.{none_by, same_from, appended, long_alike}
use Rattle.pep508_cases.proofs.set.TreeSet.extend.Goals.{then-is_empty, else-is_empty}
use Rattle.pep508_cases.proofs.set.TreeSet.extend.Goals as goal

pub returns-then-next_mark-later : goal.returns-then-next_mark-later
returns-then-next_mark-later c =
    let inside = c.if-is_empty.self-inside in
    let runs = inside.runs.items in
    let later = c.later.inside.runs.items in
    let old : marks_by inside.first inside.runs.items ≡ c.args.self.now = elim c.if-is_empty.branch [
      | then-is_empty w ↦
          let none : length c.self.inside.runs.items ≡ 0 = grind (arith, nat_tests, w.if-is_empty.ensures) in
          ap (λ s. marks_by s.first s.runs.items) w.self-inside-is
          ∙ none_by c.later.inside.first c.self.inside.first c.self.inside.runs.items none ∙ c.self.view_is
      | else-is_empty w ↦ ap (λ s. marks_by s.first s.runs.items) w.self-inside-is ∙ c.self.view_is
    ] in
    let mark : mark_after inside.first runs ≡ c.later.inside.first =
    sym (c.next_mark.ensures ∙ ap (mark_after inside.first) c.deref.ensures.value)
    ∙ same_from c.next_mark.result c.later.inside.first c.if-next_mark-later.true in
    ap (marks_by inside.first) (c.in_ok-extend_from_slice.ensures.items
    ∙ ap (λ rs. runs ++ rs) c.deref-then-next_mark-later.ensures.value) ∙ appended inside.first runs later
    ∙ ap (λ m. marks_by inside.first runs ++ marks_by m later) mark
    ∙ (λ i. old i ++ c.later.view_is i)

pub lengthen-requires-clause-long : goal.lengthen-requires-clause-long
lengthen-requires-clause-long c =
    let inside = c.if-is_empty.self-inside in
    let old : marks_by inside.first inside.runs.items ≡ c.args.self.now = elim c.if-is_empty.branch [
      | then-is_empty w ↦
          let none : length c.self.inside.runs.items ≡ 0 = grind (arith, nat_tests, w.if-is_empty.ensures) in
          ap (λ s. marks_by s.first s.runs.items) w.self-inside-is
          ∙ none_by c.later.inside.first c.self.inside.first c.self.inside.runs.items none ∙ c.self.view_is
      | else-is_empty w ↦ ap (λ s. marks_by s.first s.runs.items) w.self-inside-is ∙ c.self.view_is
    ] in
    let own = ap length old in
    let a = long_alike true inside.first inside.runs.items in
    let b = long_alike true c.later.inside.first c.later.inside.runs.items in
    let other = ap length c.later.view_is in
    let runs = ap (λ rs. length (marks_by true rs)) c.deref-2.ensures.value in
    omega (arith, own, other, a, b, runs, c.requires)
