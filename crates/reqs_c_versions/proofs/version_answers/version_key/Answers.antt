use Rattle.std.proofs.Common.{◌≡◌, w64, rules}
use Rattle.std.proofs.lemmas.Int.{to_z-of_z}
use mir.Val.{SFits, of_z, to_z}
use Rattle.reqs_c_versions.specs.Versions.{version_in}
use Rattle.reqs_c_versions.proofs.VersionTexts.{key_given, no_key}
use Rattle.reqs_c_versions.proofs.version_answers.version_key.Goals as goal

pub returns-in-Ok-Some : goal.returns-in-Ok-Some
returns-in-Ok-Some c =
    let length = c.write_key.result in
    let fits : SFits w64 length = search rules in
    let same : to_z w64 (of_z w64 length) ≡ length = to_z-of_z w64 length fits in
    rw same
    (key_given (version_in c.args.bytes.now) _ c.args.out.now _ length
    (rw c.in-Ok-Some.field-0-is at c.in-Ok-Some.ensures) (rw c.deref.ensures.value at c.write_key.ensures))

pub returns-in-Ok-None : goal.returns-in-Ok-None
returns-in-Ok-None c =
    no_key (version_in c.args.bytes.now) c.args.out.now (rw c.in-Ok-None.field-0-is at c.in-Ok-None.ensures)
