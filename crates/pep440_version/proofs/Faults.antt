-- What an error tells of the outcome of reading.
use Rattle.std.proofs.Common.{◌≡◌, ◌≢◌, ℕ, List, Option, Some, None, Result, Ok, Err, refl, ap, sym, ◌∙◌}
use Rattle.std.specs.Prelude.{IfSome}
use Rattle.std.specs.Option.{option_map}
use Rattle.read_outcome.specs.Outcome.{Tells}
use Rattle.pep440_text.specs.declared.FaultKind.{FaultKind}
use Rattle.pep440_text.specs.declared.FaultKind.TheVariants as kinds
use Rattle.pep440_text.specs.declared.TextFault.{TextFault}
use Rattle.pep440_text.specs.declared.ReadError.{ReadError}
use Rattle.pep440_text.specs.declared.ReadError.TheVariants as errors
use Rattle.pep440_text.specs.Faults.{told_read, HasNumber, StandsIn}
use Rattle.pep440_version.specs.VersionReading.{VersionFault, NoLeadingNumber, fault_between, fault_in}
use Rattle.pep440_version.specs.VersionReading.{with_texts}

-- an error that tells the fault which the reader's error tells, in this text, tells that of the reading
pub tells : {Y : Type 0} (text : List ℕ) (error : ReadError) (told : Option VersionFault) (read : Result Y TextFault)
    → IfSome told (λ fault. option_map (fault_in text) (told_read error) ≡ Some fault) → Tells
    (told_read error) read
    → Tells told (with_texts text read)
tells text error None read t e = tt
tells text errors.Memory (Some told) read t e = absurd (cc)
tells text (errors.Fault fault) (Some told) read t e =
    let same : fault_in text fault ≡ told = cc in
    ap (with_texts text) e ∙ ap (λ (x : VersionFault). Err x) same

-- a fault stands in its text where each fault of the reading does
pub stands : {Y : Type 0} (text : List ℕ) (error : ReadError) (read : Result Y TextFault)
    → ((fault : TextFault) → read ≡ Err fault → StandsIn text fault) → Tells (told_read error) read
    → IfSome (told_read error) (StandsIn text)
stands text errors.Memory read cut e = tt
stands text (errors.Fault fault) read cut e = cut fault e

only_this : (kind : FaultKind) (before rest : List ℕ) → fault_between kind before rest ≡ NoLeadingNumber
    → kind ≡ kinds.NoLeadingNumber
only_this kinds.Wildcard before rest e = absurd (cc)
only_this kinds.NumberTooBig before rest e = absurd (cc)
only_this kinds.NoLeadingNumber before rest e = cc
only_this kinds.LocalEmpty before rest e = absurd (cc)
only_this kinds.UnexpectedEnd before rest e = absurd (cc)

abbrev refused : (Y : Type 0) → FaultKind → ℕ → Result Y TextFault
refused Y kind left = Err (record { kind = kind; left = left })

has_kind : (Y : Type 0) (fault : TextFault) → HasNumber (refused Y fault.kind fault.left)
    → fault.kind ≢ kinds.NoLeadingNumber
has_kind Y fault h = λ k. h fault.left (ap (λ (kind : FaultKind). refused Y kind fault.left) k)

-- want of memory comes where a number was read
pub grows : {Y : Type 0} (text : List ℕ) (error : ReadError) (read : Result Y TextFault)
    → (error ≡ errors.Memory → HasNumber read)
    → Tells (told_read error) read → IfSome (told_read error) (λ fault. fault.kind ≢ kinds.NoLeadingNumber)
    → with_texts text read ≢ Err NoLeadingNumber
grows text error (Ok x) h e k = λ f. cc
grows {Y} text errors.Memory (Err fault) h e k = λ f.
    let named : fault_in text fault ≡ NoLeadingNumber = cc in
    has_kind Y fault (h refl) (only_this fault.kind _ _ named)
grows text (errors.Fault other) (Err fault) h e k = λ f.
    let same : fault ≡ other = cc in
    let named : fault_in text fault ≡ NoLeadingNumber = cc in
    k (ap (λ (x : TextFault). x.kind) (sym same) ∙ only_this fault.kind _ _ named)
