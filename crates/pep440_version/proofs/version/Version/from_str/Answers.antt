use Rattle.std.proofs.Common.{◌≡◌, Ok, Err, ap, sym, ◌∙◌}
use Rattle.read_outcome.specs.Outcome.{Tells}
use Rattle.pep440_text.specs.declared.ReadError.{ReadError}
use Rattle.pep440_text.specs.declared.ReadError.TheVariants as read_errors
use Rattle.pep440_text.specs.Record.{said, release_record}
use Rattle.pep440_text.specs.Releases.{numbers_of}
use Rattle.pep440_text.specs.Faults.{told_read, HasNumber}
use Rattle.pep440_text.specs.Reading.{read_version}
use Rattle.pep440_text.proofs.Cuts.{version_cut}
use Rattle.pep440_version.specs.declared.parse_error.VersionParseError.TheVariants as errors
use Rattle.pep440_version.specs.VersionReading.{version_reading, with_texts}
use Rattle.pep440_version.proofs.Faults.{tells, stands, grows}
use Rattle.pep440_version.proofs.version.Version.from_str.Goals as goal

pub returns-in-Some-clause-answered : goal.returns-in-Some-clause-answered
unfolding version_reading
returns-in-Some-clause-answered c =
    let read : read_version c.args.text.now ≡ Ok (release_record (numbers_of c.in-Some.release)) =
    rw c.as_bytes-bytes.ensures.value at c.in-Some.ensures.read in
    ap (with_texts c.args.text.now) read ∙ cc

pub returns-in-Ok-clause-answered : goal.returns-in-Ok-clause-answered
unfolding version_reading
returns-in-Ok-clause-answered c =
    let read : read_version c.args.text.now ≡ Ok (said c.in-Ok.parts) =
    rw c.as_bytes-bytes.ensures.value at c.in-Ok.ensures.parts in
    ap (with_texts c.args.text.now) read ∙ cc

pub returns-in-Err-clause-answered : goal.returns-in-Err-clause-answered
unfolding version_reading
returns-in-Err-clause-answered c =
    let fails : Tells (told_read c.in-Err.error) (read_version c.args.text.now) =
    rw c.as_bytes-bytes.ensures.value at c.in-Err.ensures.parts in
    tells _ _ _ _ c.of_reading.ensures.told fails

pub returns-in-Err-clause-grown : goal.returns-in-Err-clause-grown
unfolding version_reading
returns-in-Err-clause-grown c = λ e.
    let fails : Tells (told_read c.in-Err.error) (read_version c.args.text.now) =
    rw c.as_bytes-bytes.ensures.value at c.in-Err.ensures.parts in
    let memory : c.of_reading.result ≡ errors.Memory = cc in
    let number : read_errors.Memory ≡ c.in-Err.error → HasNumber (read_version c.args.text.now) =
    λ m. rw c.as_bytes-bytes.ensures.value at (c.in-Err.ensures.grown (ap (λ (x : ReadError). Err x) (sym m))) in
    grows _ _ _ (λ m. number (sym m)) fails (c.of_reading.ensures.grown memory)

pub of_reading-requires : goal.of_reading-requires
of_reading-requires c =
    let fails : Tells (told_read c.in-Err.error) (read_version c.args.text.now) =
    rw c.as_bytes-bytes.ensures.value at c.in-Err.ensures.parts in
    stands _ _ _ (λ fault e. version_cut _ fault c.utf8.text e) fails
