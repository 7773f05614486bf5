use Rattle.std.proofs.Common.{◌≡◌, ◌∙◌, ◌++◌, ◌∷◌, ◌+◌, suc, drop, get_or, not, ap, sym, arith}
use Rattle.std.proofs.Math.Seq.{drop-cons}
use Rattle.pep508_cases.specs.Sets.{marks_by, marked}
use Rattle.pep508_cases.proofs.Runs.{selected, left_out}
use Rattle.pep508_cases.proofs.set.TreeSet.select.Goals.{then-mark+in_ok-extend_from_slice, else-mark}
use Rattle.pep508_cases.proofs.set.TreeSet.select.Goals as goal

pub loop-run-preserved : goal.loop-run-preserved
loop-run-preserved c =
    let runs = c.deref-run-items.result.now in
    let i = c.loop-run.run-index in
    let run = get_or runs i 0 in
    let mark = c.loop-run.mark in
    let found = c.loop-run.found.items in
    let left = c.loop-run.left.now in
    let whole = marked c.args.self.now c.args.numbers.now in
    let one : suc i ≡ i + 1 = omega arith in
    let next : drop i runs ≡ run ∷ drop (i + 1) runs =
    drop-cons runs i 0 c.loop-run-test.true ∙ ap (λ n. run ∷ drop n runs) one in
    let before : (found ++ marked (marks_by mark (run ∷ drop (i + 1) runs)) left) ≡ whole =
    ap (λ rs. found ++ marked (marks_by mark rs) left) (sym next) ∙ c.loop-run.invariant in
    let own = c.split_at.result.0.now in
    let later = c.split_at.result.1.now in
    let k = c.run_end.result in
    elim c.if-mark.branch [
      | then-mark+in_ok-extend_from_slice w ↦
          selected found c.if-mark.found.items own later mark k run (drop (i + 1) runs) left whole
          c.run_end.ensures c.split_at.ensures.front c.split_at.ensures.back w.if-mark.true
          (ap (λ f. f.items) w.found-is ∙ w.in_ok-extend_from_slice.ensures.items) before
      | else-mark w ↦
          ap (λ f. f.items ++ marked (marks_by (not mark) (drop (i + 1) runs)) later) w.found-is
          ∙ left_out found later mark k run (drop (i + 1) runs) left whole
          c.run_end.ensures c.split_at.ensures.back w.if-mark.false before
    ]
