-- The releases beside one of 64-bit numbers are of 64-bit numbers, and a text can say them.
use Rattle.std.proofs.Common.{◌≡◌, ℕ, zero, suc, ◌+◌, ◌-◌, ◌<◌, ◌^◌, ◌==◌, arith, Bool, true, false}
use Rattle.std.proofs.Common.{if◌then◌else◌, nat_lt, length, List, [], ◌∷◌, ◌++◌, Option, Some, None, refl}
use Rattle.std.specs.List.{AllByRecursion}
use Rattle.std.specs.Option.{option_map}
use Rattle.std.specs.Prelude.{option_to_list, take}
use Rattle.std.proofs.lemmas.Bool.Decides.{nat_tests}
use Rattle.version_ranges.proofs.Membership.{all_append}
use Rattle.pep440_version.specs.Changes.{or_zero}
use Rattle.pep440_text.specs.Releases.{raised, last_raised}
use Rattle.pep440_version.specs.Order.{before_stripped, stripped}
use Rattle.pep440_specifier.specs.Matching.{without_last}
use Rattle.pep508_comparison.specs.Comparisons.{minor_of}
use Rattle.pep508_reading_back.specs.Told.{next_release, releases_beside, asked_releases}

abbrev pub AllSmall : List ℕ → Type 0
AllSmall = AllByRecursion (λ number. number < 2 ^ 64)

-- some numbers, each of 64 bits
pub record IsSmallRelease (numbers : List ℕ) : Type 0 where
  pub some : 0 < length numbers
  pub small : AllSmall numbers

-- ---- the next release

raised_if : (number : ℕ) (t : Bool) → nat_lt (number + 1) (2 ^ 64) ≡ t →
    AllSmall (option_to_list (if t then Some (number + 1) else None))
raised_if number true e = (grind (arith, nat_tests), tt)
raised_if number false e = tt

raised_small : (number : ℕ) → AllSmall (option_to_list (raised number))
raised_small number = raised_if number (nat_lt (number + 1) (2 ^ 64)) refl

abbrev AllReleases : List (List ℕ) → Type 0
AllReleases = AllByRecursion IsSmallRelease

one_more : (next : Option ℕ) → AllSmall (option_to_list next) →
    AllReleases (option_to_list (option_map (λ number. number ∷ []) next))
one_more None small = tt
one_more (Some number) small = (record { some = omega arith; small = small }, tt)

before_more : (number : ℕ) (later : Option (List ℕ)) → number < 2 ^ 64 → AllReleases (option_to_list later) →
    AllReleases (option_to_list (option_map (λ numbers. number ∷ numbers) later))
before_more number None small all = tt
before_more number (Some later) small all =
    (record { some = omega arith; small = (small, all.0.small) }, tt)

next_small : (numbers : List ℕ) → AllSmall numbers → AllReleases (next_release numbers)
next_small [] small = tt
next_small (number ∷ []) small = one_more (raised number) (raised_small number)
next_small (number ∷ other ∷ numbers) small =
    before_more number (last_raised (other ∷ numbers)) small.0 (next_small (other ∷ numbers) small.1)

-- ---- releases beside one

taken_small : (count : ℕ) (numbers : List ℕ) → AllSmall numbers → AllSmall (take count numbers)
taken_small zero numbers small = tt
taken_small (suc count) [] small = tt
taken_small (suc count) (number ∷ numbers) small = (small.0, taken_small count numbers small.1)

minor_small : (numbers : List ℕ) → AllSmall numbers → IsSmallRelease (minor_of numbers)
minor_small [] small = record { some = omega arith; small = (omega arith, (omega arith, tt)) }
minor_small (major ∷ []) small = record { some = omega arith; small = (small.0, (omega arith, tt)) }
minor_small (major ∷ minor ∷ numbers) small =
    record { some = omega arith; small = (small.0, (small.1.0, tt)) }

beside_small : (numbers : List ℕ) → IsSmallRelease numbers → AllReleases (releases_beside numbers)
beside_small numbers good =
    let minor = minor_small numbers good.small in
    let shorter = next_small (without_last numbers) (taken_small (length numbers - 1) numbers good.small) in
    let last = all_append IsSmallRelease (next_release (without_last numbers))
    (next_release (minor_of numbers)) shorter
    (next_small (minor_of numbers) minor.small) in
    let both = all_append IsSmallRelease (next_release numbers)
    (next_release (without_last numbers) ++ next_release (minor_of numbers))
    (next_small numbers good.small) last in
    (good, (minor, both))

one_kept : (number : ℕ) (t : Bool) → number < 2 ^ 64 → AllSmall (if t then [] else number ∷ [])
one_kept number true small = tt
one_kept number false small = (small, tt)

before_small : (number : ℕ) (numbers : List ℕ) → number < 2 ^ 64 → AllSmall numbers →
    AllSmall (before_stripped number numbers)
before_small number [] small all = one_kept number (number == 0) small
before_small number (next ∷ numbers) small all = (small, all)

stripped_small : (numbers : List ℕ) → AllSmall numbers → AllSmall (stripped numbers)
stripped_small [] small = tt
stripped_small (number ∷ numbers) small =
    before_small number (stripped numbers) small.0 (stripped_small numbers small.1)

or_zero_small : (numbers : List ℕ) → AllSmall numbers → IsSmallRelease (or_zero numbers)
or_zero_small [] small = record { some = omega arith; small = (omega arith, tt) }
or_zero_small (number ∷ numbers) small = record { some = omega arith; small = small }

pub short_small : (numbers : List ℕ) → AllSmall numbers → IsSmallRelease (or_zero (stripped numbers))
short_small numbers small = or_zero_small (stripped numbers) (stripped_small numbers small)

-- all that a comparison asks for are of 64-bit numbers
pub asked_small : (numbers : List ℕ) → IsSmallRelease numbers →
    AllByRecursion IsSmallRelease (asked_releases numbers)
asked_small numbers good =
    all_append IsSmallRelease (releases_beside numbers) (releases_beside (or_zero (stripped numbers)))
    (beside_small numbers good)
    (beside_small (or_zero (stripped numbers)) (short_small numbers good.small))
