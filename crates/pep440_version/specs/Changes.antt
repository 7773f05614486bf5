-- Properties of a version, and versions that are made from another one.
use Rattle.std.specs.Prelude.{ℕ, ◌||◌, Bool, true, false, List, [], ◌∷◌, Some, is_some}
use Rattle.pep440_text.specs.declared.PrereleaseKind.TheVariants.{Alpha}
use Rattle.pep440_text.specs.Record.{Segment, VersionRecord, release_record}
use Rattle.pep440_version.specs.Order.{stripped}

-- a pre-release or a developmental release (PEP 440, "Pre-releases" and "Developmental releases")
abbrev pub is_prerelease : VersionRecord → Bool
is_prerelease version = is_some version.pre || is_some version.dev

abbrev pub has_segments : List Segment → Bool
has_segments [] = false
has_segments (segment ∷ segments) = true

-- a version with a local part (PEP 440, "Local version identifiers")
abbrev pub has_local : VersionRecord → Bool
has_local version = has_segments version.local

-- an early version: `0a0.dev0`
abbrev pub early_version : VersionRecord
early_version =
    record (release_record (0 ∷ [])) { pre = Some (record { kind = Alpha; number = 0 }); dev = Some 0 }

-- numbers, and 0 where there are none
abbrev pub or_zero : List ℕ → List ℕ
or_zero [] = 0 ∷ []
or_zero (number ∷ numbers) = number ∷ numbers

-- the version without the zeros at its release's end, down to one number (PEP 440, "Final releases")
abbrev pub without_end_zeros : VersionRecord → VersionRecord
without_end_zeros version = record version { release = or_zero (stripped version.release) }
