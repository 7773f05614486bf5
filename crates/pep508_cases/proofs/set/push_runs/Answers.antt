use Rattle.std.proofs.Common.{◌∙◌, ◌++◌, ◌∷◌, ◌+◌, [], get_or, false, ap}
use Rattle.std.proofs.lemmas.List.{take_more}
use Rattle.pep508_cases.proofs.Runs.{goes_on, turns, split_is}
use Rattle.pep508_cases.proofs.set.push_runs.Goals.{then-next-mark, else-next-mark+in_ok-push}
use Rattle.pep508_cases.proofs.set.push_runs.Goals as goal

pub loop-next-preserved : goal.loop-next-preserved
loop-next-preserved c =
    let first = c.args.first in
    let later = c.args.later.now in
    let i = c.loop-next.next-index in
    let runs = c.loop-next.runs.items in
    let mark = c.loop-next.mark in
    let run = c.loop-next.run in
    let next = get_or later i false in
    let more = take_more later i false c.loop-next-test.true in
    let is = c.if-next-mark in
    let before = c.loop-next.invariant in
    elim c.if-next-mark.branch [
      | then-next-mark w ↦
          split_is first later (i + 1) runs is.runs.items mark is.mark (run + 1) is.run
          (ap (λ r. r.items) w.runs-is) w.mark-is w.run-is
          (goes_on first later i runs mark next run more w.if-next-mark.true before)
      | else-next-mark+in_ok-push w ↦
          split_is first later (i + 1) (runs ++ run ∷ []) is.runs.items next is.mark 0 is.run
          (ap (λ r. r.items) w.runs-is ∙ w.in_ok-push.ensures.items) w.mark-is w.run-is
          (turns first later i runs mark next run more w.if-next-mark.false before)
    ]
