use Rattle.std.proofs.Common.{◌≡◌, ◌<◌, length, get_or, arith}
use Rattle.std.specs.Prelude.{string_bytes}
use Rattle.std.proofs.lemmas.Grind.{common_steps}
use Rattle.pep508_url.specs.Vars.{value_by_place}
use Rattle.pep508_url.proofs.Places.{place_more}
use Rattle.pep508_url.proofs.vars.first_places.Goals as goal

pub loop-place-preserved : goal.loop-place-preserved
loop-place-preserved c =
    let pairs = c.args.pairs.now in
    let place = c.loop-place.place in
    let pair = c.index-pairs-place.result in
    let within : place < length pairs = omega arith in
    let same : c.as_str.result.now ≡ string_bytes (get_or pairs place pair).0 = grind (arith, common_steps) in
    place_more (value_by_place pairs c.loop-place.places) (value_by_place pairs c.add_place.new.places) pairs place
    pair c.as_str.result.now within same c.loop-place.invariant c.in_ok-add_place.ensures
