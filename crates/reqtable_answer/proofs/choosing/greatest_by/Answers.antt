use Rattle.std.proofs.Common.{◌≡◌, ◌∙◌, ◌<◌, ◌+◌, ◌++◌, ◌∷◌, [], sym, ap, subst, map, filter, option_map}
use Rattle.std.proofs.Common.{take}
use Rattle.std.proofs.lemmas.List.{map_more, take_all}
use Rattle.std.proofs.lemmas.List.Elements.{All-get_or}
use Rattle.reqtable_answer.specs.Answer.{by_version, first_greatest}
use Rattle.reqtable_answer.specs.Groups.{numbered_seen, passes_by}
use Rattle.reqtable_answer.proofs.Greatest.{best_better, first_greatest-best}
use Rattle.reqtable_answer.proofs.Passing.{by_version_total, passes_same}
use Rattle.reqtable_answer.proofs.choosing.greatest_by.Goals as goal

pub loop-candidate-preserved : goal.loop-candidate-preserved
loop-candidate-preserved g c =
    let n = c.candidate-item.result in
    let at = c.loop-candidate.candidate-index in
    let all = c.args.candidates.now in
    record {
      best = λ admits by.
          let p = passes_by admits c.args.asks.now c.names_prerelease-prerelease.result in
          let before = map numbered_seen (take at all) in
          let grown : map numbered_seen (take (at + 1) all) ≡ before ++ numbered_seen n ∷ [] =
          map_more numbered_seen all at n c.loop-candidate-test.true ∙ ap (λ x. before ++ numbered_seen x ∷ []) (sym c.candidate-item.is) in
          best_better by_version_total p before (map numbered_seen (take (at + 1) all)) (numbered_seen n) (option_map numbered_seen c.loop-candidate.best)
          (option_map numbered_seen c.in_ok-best.best) grown (c.in_ok-best.ensures.better admits by) (c.loop-candidate.invariant.best admits by);
      below = λ count within.
          c.in_ok-best.ensures.below count
          (subst (λ x. x.place < count) (sym c.candidate-item.is) (All-get_or (λ x. x.place < count) all at n c.loop-candidate-test.true within))
          (c.loop-candidate.invariant.below count within);
    }

pub returns-clause-greatest : goal.returns-clause-greatest
returns-clause-greatest g c = λ admits by.
    let at = c.loop-candidate.candidate-index in
    let all = c.args.candidates.now in
    let p = passes_by admits c.args.asks.now c.names_prerelease-prerelease.result in
    let best = first_greatest-best by_version_total (filter p (map numbered_seen (take at all))) (option_map numbered_seen c.loop-candidate.best) (c.loop-candidate.invariant.best admits by) in
    sym best ∙ ap (λ l. first_greatest by_version (filter p (map numbered_seen l))) (take_all at all c.loop-candidate-test.false)
    ∙ ap (λ q. first_greatest by_version (filter q (map numbered_seen all))) (passes_same admits c.args.asks.now c.names_prerelease-prerelease.result c.names_prerelease-prerelease.ensures)
