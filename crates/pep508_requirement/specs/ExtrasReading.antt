-- The results of reading extras.
use Rattle.std.specs.Prelude.{◌≡◌, ℕ, List, Result, Ok, Err, IfSome}
use Rattle.std.specs.Str.{chars}
use Rattle.pep508_error.specs.declared.error.Pep508Error.{Pep508Error}
use Rattle.pep508_error.specs.declared.error.Pep508ErrorSource.{Pep508ErrorSource}
use Rattle.pep508_error.specs.declared.error.Pep508ErrorSource.TheVariants as sources
use Rattle.pep508_error.specs.Errors.{told_error}
use Rattle.pep508_requirement_text.specs.FrontReading.{extras_at}
use Rattle.pep508_requirement_text.specs.FrontReading.Refused.{Malformed}
use Rattle.pep508_requirement.specs.declared.extra_list.Extras.{Extras}

-- why a text begins with no extras, by its error
abbrev pub ExtrasRefusedBy : {T E : Type 0} → List ℕ → Pep508ErrorSource T E → Type 0
ExtrasRefusedBy text sources.Memory = Unit {0}
ExtrasRefusedBy text (sources.String message) = extras_at (chars text) ≡ Err Malformed
ExtrasRefusedBy text source = ⊥

-- the results of reading the extras at the front of a text
abbrev pub ReadsExtras : {T E : Type 0} → List ℕ → Result Extras (Pep508Error T E) → Type 0
ReadsExtras text (Ok extras) = (rest : List ℕ) × (extras_at (chars text) ≡ Ok (extras.0.items, rest))
ReadsExtras text (Err error) =
    ExtrasRefusedBy text error.message × IfSome (told_error error) (λ fault. fault.input ≡ text)
