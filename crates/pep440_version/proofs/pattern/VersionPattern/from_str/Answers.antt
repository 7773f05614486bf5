use Rattle.std.proofs.Common.{◌≡◌, Ok, Err, ap, sym, ◌∙◌}
use Rattle.read_outcome.specs.Outcome.{Tells}
use Rattle.pep440_text.specs.declared.ReadError.{ReadError}
use Rattle.pep440_text.specs.declared.ReadError.TheVariants as read_errors
use Rattle.pep440_text.specs.Record.{said}
use Rattle.pep440_text.specs.Faults.{told_read, HasNumber}
use Rattle.pep440_text.specs.Reading.{read_pattern}
use Rattle.pep440_text.proofs.Cuts.{pattern_cut}
use Rattle.pep440_version.specs.declared.parse_error.VersionPatternParseError.TheVariants as errors
use Rattle.pep440_version.specs.VersionReading.{pattern_reading, with_texts}
use Rattle.pep440_version.proofs.Faults.{tells, stands, grows}
use Rattle.pep440_version.proofs.Stars.{star_is_plain}
use Rattle.pep440_version.proofs.pattern.VersionPattern.from_str.Goals as goal

pub invariant_of-result : goal.invariant_of-result
invariant_of-result c w = rw c.of_parts.ensures (star_is_plain _ _ c.in-Ok.ensures.parts w)

pub returns-in-Ok-clause-answered : goal.returns-in-Ok-clause-answered
unfolding pattern_reading
returns-in-Ok-clause-answered c =
    let read : read_pattern c.args.text.now ≡ Ok (record { version = said c.in-Ok.parts; wildcard = c.in-Ok.wildcard }) =
    rw c.as_bytes.ensures.value at c.in-Ok.ensures.parts in
    ap (with_texts c.args.text.now) read ∙ cc

pub returns-in-Err-clause-answered : goal.returns-in-Err-clause-answered
unfolding pattern_reading
returns-in-Err-clause-answered c =
    let fails : Tells (told_read c.in-Err.error) (read_pattern c.args.text.now) =
    rw c.as_bytes.ensures.value at c.in-Err.ensures.parts in
    tells _ _ _ _ c.of_reading.ensures.told fails

pub returns-in-Err-clause-grown : goal.returns-in-Err-clause-grown
unfolding pattern_reading
returns-in-Err-clause-grown c = λ e.
    let fails : Tells (told_read c.in-Err.error) (read_pattern c.args.text.now) =
    rw c.as_bytes.ensures.value at c.in-Err.ensures.parts in
    let memory : c.of_reading.result ≡ errors.Memory = cc in
    let number : read_errors.Memory ≡ c.in-Err.error → HasNumber (read_pattern c.args.text.now) =
    λ m. rw c.as_bytes.ensures.value at (c.in-Err.ensures.grown (ap (λ (x : ReadError). Err x) (sym m))) in
    grows _ _ _ (λ m. number (sym m)) fails (c.of_reading.ensures.grown memory)

pub of_reading-requires : goal.of_reading-requires
of_reading-requires c =
    let fails : Tells (told_read c.in-Err.error) (read_pattern c.args.text.now) =
    rw c.as_bytes.ensures.value at c.in-Err.ensures.parts in
    stands _ _ _ (λ fault e. pattern_cut _ fault c.utf8.text e) fails
