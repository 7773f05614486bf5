use Rattle.std.proofs.Common.{◌≡◌, ◌∙◌, ◌∷◌, ◌+◌, suc, drop, get_or, ap, arith}
use Rattle.std.proofs.Math.Seq.{drop-cons}
use Rattle.pep508_cases.proofs.Runs.{run_next, long_next}
use Rattle.pep508_cases.proofs.set.places_by.Goals as goal

pub loop-run-preserved : goal.loop-run-preserved
loop-run-preserved c =
    let runs = c.args.runs.now in
    let i = c.loop-run.run-index in
    let at = c.loop-run.at in
    let mark = c.loop-run.mark in
    let run = get_or runs i 0 in
    let end = at + run + 1 in
    let one : suc i ≡ i + 1 = omega arith in
    let ends : at + suc run ≡ end = omega arith in
    let next : drop i runs ≡ run ∷ drop (i + 1) runs =
    drop-cons runs i 0 c.loop-run-test.true ∙ ap (λ n. run ∷ drop n runs) one in
    record {
      places = run_next c.loop-run.places.items c.add_run.new.places.items at end run mark runs i _ next ends
          (c.in_ok-add_run.ensures (suc run) ends) c.loop-run.invariant.places;
      long = long_next at run mark runs i _ next c.loop-run.invariant.long;
    }
