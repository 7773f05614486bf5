use Rattle.std.proofs.Common.{◌∙◌, ◌++◌, ◌∷◌, [], map, ap, sym}
use Rattle.std.proofs.lemmas.List.{map-append}
use Rattle.reqtable_candidates.proofs.InOrder.{fronted_seen}
use Rattle.reqtable_candidates.proofs.Places.{place_more}
use Rattle.reqtable_candidates.proofs.candidate_order.with_fronts.Goals as goal

pub loop-place-preserved : goal.loop-place-preserved
loop-place-preserved c =
    let place = c.loop-place.place in
    let candidate = c.index-candidates-place.result in
    ap (map fronted_seen) c.in_ok-push.ensures.items ∙ map-append fronted_seen c.loop-place.fronted.items _
    ∙ ap (λ l. l ++ (place, candidate) ∷ []) c.loop-place.invariant
    ∙ sym (place_more c.args.candidates.now place candidate c.loop-place-test.true c.index-candidates-place.is)
