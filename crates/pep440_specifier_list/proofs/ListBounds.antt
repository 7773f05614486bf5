-- The gaps and the outer bounds of intervals.
use Rattle.std.proofs.Common.{◌≡◌, List, [], ◌∷◌, ◌++◌, map, refl, ap, sym, subst, ◌∙◌}
use Rattle.std.proofs.lemmas.List.{map-append}
use Rattle.std.specs.Borrow.{Bor}
use Rattle.std.specs.declared.ops.Bound.{Bound}
use Rattle.version_ranges.specs.Bounds.{last_upper, lent_bounds}
use Rattle.pep440_version.specs.Record.{VersionRecord, epoch_record}
use Rattle.pep440_specifier.specs.Building.{IsStarVersion}
use Rattle.pep440_specifier.specs.Bounds.{lent_bound, IsReleaseVersion, IsReleaseBound}
use Rattle.pep440_specifier_list.specs.ListBounds.{Interval, AreReleaseIntervals}

-- a release alone may stand before a star
pub release_is_star : (version : VersionRecord) → IsReleaseVersion version → IsStarVersion version
release_is_star version h = h ∙ ap (λ epoch. epoch_record epoch version.release) (sym (ap (λ v. v.epoch) h))

last_is : (upper : Bound VersionRecord) (front : List Interval) (last : Interval)
    → last_upper upper (front ++ last ∷ []) ≡ last.1
last_is upper [] last = refl
last_is upper (next ∷ front) last = last_is next.1 front last

last_is_release : (front : List Interval) (last : Interval)
    → AreReleaseIntervals (front ++ last ∷ []) → IsReleaseBound last.1
last_is_release [] last h = h.1
last_is_release (next ∷ front) last h = last_is_release front last h.2

-- an interval as it is borrowed
abbrev pub Lent : Type 0
Lent = Bound (Bor VersionRecord) × Bound (Bor VersionRecord)

lent_last : (later front : List Lent) (last : Lent) → later ≡ front ++ (last ∷ [])
    → map lent_bounds later ≡ map lent_bounds front ++ (lent_bounds last ∷ [])
lent_last later front last e = ap (map lent_bounds) e ∙ map-append lent_bounds front (last ∷ [])

-- the last interval's upper bound
pub last_of_some : (upper : Bound VersionRecord) (later front : List Lent) (last : Lent)
    → later ≡ front ++ (last ∷ []) → lent_bound last.1 ≡ last_upper upper (map lent_bounds later)
last_of_some upper later front last e =
    sym (ap (last_upper upper) (lent_last later front last e) ∙ last_is upper (map lent_bounds front) (lent_bounds last))

pub last_release_of : (later front : List Lent) (last : Lent) → later ≡ front ++ (last ∷ [])
    → AreReleaseIntervals (map lent_bounds later) → IsReleaseBound (lent_bound last.1)
last_release_of later front last e h =
    last_is_release (map lent_bounds front) (lent_bounds last)
    (subst AreReleaseIntervals (lent_last later front last e) h)
