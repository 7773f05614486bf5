use Rattle.std.proofs.Common.{◌≡◌, ◌∙◌, ◌∷◌, ◌++◌, suc, not, replicate, ap, sym, arith}
use Rattle.std.specs.Ordering.{ordering_reverse}
use Rattle.pep508_cases.specs.Cases.{marks_cmp}
use Rattle.pep508_cases.specs.Sets.{marks_by}
use Rattle.pep508_cases.proofs.Runs.{run_less, run_more, runs_alike}
use Rattle.pep508_cases.proofs.set.cmp_runs.Goals as goal

pub returns-then-run-other : goal.returns-then-run-other
returns-then-run-other c =
    let mark = c.loop-run.mark in
    let run = c.in-Some-Some.run'.now in
    let later = c.in-Some-Some.later.now in
    let other = c.in-Some-Some.other.now in
    let others = c.in-Some-Some.others_later.now in
    let left : c.loop-run.left.now ≡ run ∷ later = c.in-Some-Some.ensures.cases.0 in
    let right : c.loop-run.right.now ≡ other ∷ others = c.in-Some-Some.ensures'.cases.0 in
    c.order_at_end.ensures
    ∙ sym (run_less mark (suc run) (suc other) later (marks_by (not mark) others) (omega (arith, c.if-run-other.true)))
    ∙ (λ i. marks_cmp (marks_by mark (sym left i)) (marks_by mark (sym right i))) ∙ c.loop-run.invariant

pub returns-then-other-run : goal.returns-then-other-run
returns-then-other-run c =
    let mark = c.loop-run.mark in
    let run = c.in-Some-Some.run'.now in
    let later = c.in-Some-Some.later.now in
    let other = c.in-Some-Some.other.now in
    let others = c.in-Some-Some.others_later.now in
    let left : c.loop-run.left.now ≡ run ∷ later = c.in-Some-Some.ensures.cases.0 in
    let right : c.loop-run.right.now ≡ other ∷ others = c.in-Some-Some.ensures'.cases.0 in
    c.reverse.ensures ∙ ap ordering_reverse c.order_at_end-then-other-run.ensures
    ∙ sym (run_more mark (suc run) (suc other) (marks_by (not mark) later) others (omega (arith, c.if-other-run.true)))
    ∙ (λ i. marks_cmp (marks_by mark (sym left i)) (marks_by mark (sym right i))) ∙ c.loop-run.invariant

pub loop-run-preserved : goal.loop-run-preserved
loop-run-preserved c =
    let mark = c.loop-run.mark in
    let run = c.in-Some-Some.run'.now in
    let later = c.in-Some-Some.later.now in
    let other = c.in-Some-Some.other.now in
    let others = c.in-Some-Some.others_later.now in
    let xs = marks_by (not mark) later in
    let ys = marks_by (not mark) others in
    let left : c.loop-run.left.now ≡ run ∷ later = c.in-Some-Some.ensures.cases.0 in
    let right : c.loop-run.right.now ≡ other ∷ others = c.in-Some-Some.ensures'.cases.0 in
    let same : run ≡ other = omega (arith, c.if-run-other.false, c.if-other-run.false) in
    sym (runs_alike mark (suc run) xs ys)
    ∙ ap (λ n. marks_cmp (replicate (suc run) mark ++ xs) (replicate (suc n) mark ++ ys)) same
    ∙ (λ i. marks_cmp (marks_by mark (sym left i)) (marks_by mark (sym right i))) ∙ c.loop-run.invariant
