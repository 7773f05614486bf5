-- The specifiers of bounds, and of intervals between two of them.
use Rattle.std.specs.Prelude.{◌≡◌, ℕ, ◌+◌, Bool, false, if◌then◌else◌, List, [], ◌∷◌, ◌++◌, Option, Some}
use Rattle.std.specs.Prelude.{None, option_to_list, codes}
use Rattle.std.specs.Borrow.{Bor}
use Rattle.std.specs.Range.Bound.{bound_map}
use Rattle.std.specs.declared.ops.Bound.{Bound}
use Rattle.std.specs.declared.ops.Bound.TheVariants.{Included, Excluded, Unbounded}
use Rattle.pep440_version.specs.Record.{VersionRecord, release_record}
use Rattle.pep440_version.specs.Changes.{has_local}
use Rattle.pep440_version.specs.Order.{version_eq}
use Rattle.pep440_operator.specs.declared.operator.Operator.TheVariants.{Equal, EqualStar, LessThan}
use Rattle.pep440_operator.specs.declared.operator.Operator.TheVariants.{LessThanEqual, GreaterThan}
use Rattle.pep440_operator.specs.declared.operator.Operator.TheVariants.{GreaterThanEqual}
use Rattle.pep440_specifier.specs.declared.bounds.BoundError.{BoundError}
use Rattle.pep440_specifier.specs.declared.bounds.BoundError.TheVariants.{LocalInBound, Memory}
use Rattle.pep440_specifier.specs.Matching.{SpecifierRecord}

-- the print of why a bound has no specifier
abbrev pub bound_error_text : BoundError → List ℕ
bound_error_text LocalInBound = codes "a bound has a local part"
bound_error_text Memory = codes "out of memory"

-- the bound that a borrowed one shows
abbrev pub lent_bound : Bound (Bor VersionRecord) → Bound VersionRecord
lent_bound bound = bound_map (λ version. version.now) bound

-- whether the bound's version has a local part
abbrev pub is_local_bound : Bound VersionRecord → Bool
is_local_bound (Included version) = has_local version
is_local_bound (Excluded version) = has_local version
is_local_bound Unbounded = false

-- a version of epoch 0 and a release alone
abbrev pub IsReleaseVersion : VersionRecord → Type 0
IsReleaseVersion version = version ≡ release_record version.release

-- a bound of a release version, or no bound
abbrev pub IsReleaseBound : Bound VersionRecord → Type 0
IsReleaseBound (Included version) = IsReleaseVersion version
IsReleaseBound (Excluded version) = IsReleaseVersion version
IsReleaseBound Unbounded = Unit {0}

-- the specifier of a lower bound: `>=` its version, or `>`
abbrev pub lower_specifier : Bound VersionRecord → Option SpecifierRecord
lower_specifier (Included version) = Some (record { operator = GreaterThanEqual; version = version })
lower_specifier (Excluded version) = Some (record { operator = GreaterThan; version = version })
lower_specifier Unbounded = None

-- the specifier of an upper bound: `<=` its version, or `<`
abbrev pub upper_specifier : Bound VersionRecord → Option SpecifierRecord
upper_specifier (Included version) = Some (record { operator = LessThanEqual; version = version })
upper_specifier (Excluded version) = Some (record { operator = LessThan; version = version })
upper_specifier Unbounded = None

-- the release numbers `a.(b+1)` after exactly two, `a.b`
abbrev pub next_minor : List ℕ → Option (List ℕ)
next_minor (major ∷ minor ∷ []) = Some (major ∷ (minor + 1) ∷ [])
next_minor numbers = None

abbrev pub equals_release : Option (List ℕ) → VersionRecord → Bool
equals_release None version = false
equals_release (Some numbers) version = version_eq (release_record numbers) version

-- whether the release has exactly two numbers, `a.b`, and the other version equals `a.(b+1)`
abbrev pub is_next_minor : VersionRecord → VersionRecord → Bool
is_next_minor version next = equals_release (next_minor version.release) next

-- the one specifier of an interval: `==v` between `v` and `v`, `==a.b.*` from `a.b` to below `a.(b+1)`
abbrev pub single_specifier : Bound VersionRecord → Bound VersionRecord → Option SpecifierRecord
single_specifier (Included lower) (Included upper) =
    if version_eq lower upper then Some (record { operator = Equal; version = lower }) else None
single_specifier (Included lower) (Excluded upper) =
    if is_next_minor lower upper then Some (record { operator = EqualStar; version = lower }) else None
single_specifier lower upper = None

-- the one specifier, or else that of each bound
abbrev pub single_or_bounds : Option SpecifierRecord → Bound VersionRecord → Bound VersionRecord
    → List SpecifierRecord
single_or_bounds (Some single) lower upper = single ∷ []
single_or_bounds None lower upper =
    option_to_list (lower_specifier lower) ++ option_to_list (upper_specifier upper)

-- the specifiers of the interval between two bounds
abbrev pub interval_specifiers : Bound VersionRecord → Bound VersionRecord → List SpecifierRecord
interval_specifiers lower upper = single_or_bounds (single_specifier lower upper) lower upper
