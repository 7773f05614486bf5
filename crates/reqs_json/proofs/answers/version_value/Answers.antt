use Rattle.std.proofs.Common.{◌≡◌, ◌<◌, length, Some, refl, rules}
use Rattle.std.proofs.lemmas.Option.{slice_get_read}
use Rattle.std.specs.List.{slice_get}
use Rattle.serde_json.specs.declared.value.Value.{the_lemmas}
use Rattle.reqs_json.proofs.answers.version_value.Goals as goal

pub returns-in_ok-text-in-Taken : goal.returns-in_ok-text-in-Taken
returns-in_ok-text-in-Taken c =
    let candidates = c.args.candidates.now in
    let taken = c.index-candidates-place in
    let within : c.in-Taken.place < length candidates = rw c.in-Taken.is at c.requires in
    let found : slice_get candidates c.in-Taken.place ≡ Some taken.result =
    slice_get_read candidates (length candidates) c.in-Taken.place taken.result refl within taken.is in
    rw (c.in-Taken.is, found) (search (rules, the_lemmas))
