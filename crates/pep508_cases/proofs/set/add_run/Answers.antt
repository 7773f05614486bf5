use Rattle.std.proofs.Common.{◌≡◌, ◌∙◌, ◌∷◌, ◌+◌, ◌++◌, [], suc, true, replicate, ap, sym, arith}
use Rattle.std.proofs.lemmas.List.{append-nil, append_assoc}
use Rattle.pep508_cases.specs.Sets.{places_from}
use Rattle.pep508_cases.proofs.Runs.{none_listed}
use Rattle.pep508_cases.proofs.set.add_run.Goals as goal

pub returns-then-not-mark : goal.returns-then-not-mark
returns-then-not-mark c = λ n e. none_listed c.args.places.now.items c.args.mark c.args.start n c.if-not-mark.true

pub loop-place-preserved : goal.loop-place-preserved
loop-place-preserved c = λ n left starts ends.
    let found = c.loop-place.places.items in
    let at = c.loop-place.place in
    let next : at + 1 ≡ suc at = omega arith in
    let longer : at + suc left ≡ c.args.end = omega (arith, ends) in
    ap (λ xs. xs ++ places_from (at + 1) (replicate left true)) c.in_ok-push.ensures.items
    ∙ append_assoc found (at ∷ []) (places_from (at + 1) (replicate left true))
    ∙ ap (λ k. found ++ at ∷ places_from k (replicate left true)) next
    ∙ c.loop-place.invariant n (suc left) starts longer

pub returns : goal.returns
returns c = λ n starts.
    let all : c.loop-place.place + 0 ≡ c.args.end =
    omega (arith, c.loop-place-test.false, c.loop-place.auto.place-end, starts) in
    sym (append-nil c.loop-place.places.items) ∙ c.loop-place.invariant n 0 starts all
    ∙ ap (λ mark. c.args.places.now.items ++ places_from c.args.start (replicate n mark)) (sym c.if-not-mark.false)
