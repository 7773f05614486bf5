use Rattle.std.proofs.Common.{◌≡◌, ◌∙◌, ◌&&◌, suc, false, ap, sym}
use Rattle.pep508_cases.specs.Sets.{marks_meet, rest_marks}
use Rattle.pep508_cases.proofs.Runs.{not_both, runs_apart}
use Rattle.pep508_cases.proofs.set.TreeSet.meets.Goals.{else-own-via-then-own+else-others, else-own-via-else-own}
use Rattle.pep508_cases.proofs.set.TreeSet.meets.Goals as goal

pub loop-left-preserved : goal.loop-left-preserved
loop-left-preserved c =
    let own = c.in-Some-Some.own in
    let others = c.in-Some-Some.others in
    let n = suc c.min-count.result in
    let apart : (own.mark && others.mark) ≡ false = elim c.else-own.branch [
      | else-own-via-then-own+else-others w ↦ not_both own.mark others.mark w.if-others.false
      | else-own-via-else-own w ↦ ap (λ b. b && others.mark) w.if-own.false
    ] in
    sym (runs_apart own.mark others.mark n (rest_marks c.after-left.result) (rest_marks c.after-right.result) apart)
    ∙ (λ i. marks_meet (sym c.after-left.ensures.marks i) (sym c.after-right.ensures.marks i))
    ∙ (λ i. marks_meet (rest_marks (sym c.in-Some-Some.is-0 i)) (rest_marks (sym c.in-Some-Some.is-1 i)))
    ∙ c.loop-left.invariant
