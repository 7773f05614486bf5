-- What the ranges of a list share: all points for none, and else what its two halves share.
use Rattle.std.proofs.Common.{◌≡◌, ◌∙◌, true, ◌&&◌, List, [], ◌∷◌, ◌++◌, length, map, Option, Result, Ok}
use Rattle.std.proofs.Common.{Err, IfOk, IfErr, refl, ap, sym, subst, arith}
use Rattle.std.proofs.lemmas.List.{map-append}
use Rattle.std.proofs.lemmas.List.Folds.{list_all-append}
use Rattle.std.specs.Option.{is_some}
use Rattle.version_ranges.specs.Point.{Point}
use Rattle.version_ranges.specs.Held.{holds_at}
use Rattle.pep440_version.specs.Record.{VersionRecord}
use Rattle.pep440_version.specs.Order.{version_cmp}
use Rattle.pep440_specifier.specs.Matching.{SpecifierRecord}
use Rattle.pep440_range.specs.declared.range_error.RangeError.{RangeError}
use Rattle.pep440_range.specs.declared.range_error.RangeError.TheVariants.{NumberAtEnd, Memory}
use Rattle.pep440_range.specs.Ranges.{PointTest, range_holds, GivesAll}

-- what two sets share
abbrev pub HoldsBoth : List (Point VersionRecord) → List (Point VersionRecord)
    → List (Point VersionRecord) → Type 0
HoldsBoth set other both =
    (p : Point VersionRecord) →
    holds_at version_cmp both p ≡ (holds_at version_cmp set p && holds_at version_cmp other p)

-- no members share all points
pub none_share : (range : SpecifierRecord → Option PointTest) (members : List SpecifierRecord)
    (set : List (Point VersionRecord)) → length members ≡ 0
    → ((p : Point VersionRecord) → holds_at version_cmp set p ≡ true) → GivesAll (Ok set) (map range members)
none_share range [] set e h = (refl, h)
none_share range (member ∷ members) set e h = absurd (omega arith)

halves_joined : (ranges others : List (Option PointTest)) (set other both : List (Point VersionRecord))
    → GivesAll (Ok set) ranges → GivesAll (Ok other) others → HoldsBoth set other both
    → GivesAll (Ok both) (ranges ++ others)
halves_joined ranges others set other both g k h = (
  list_all-append is_some ranges others ∙ (λ i. g.0 i && k.0 i),
  λ p. h p ∙ (λ i. g.1 p i && k.1 p i) ∙ sym (list_all-append (λ range. range_holds range p) ranges others),
)

-- the members of both halves share what the ranges of the halves do
pub halves_share : (range : SpecifierRecord → Option PointTest) (members front back : List SpecifierRecord)
    (set other : List (Point VersionRecord)) (both : Result (List (Point VersionRecord)) RangeError)
    → front ++ back ≡ members → GivesAll (Ok set) (map range front) → GivesAll (Ok other) (map range back)
    → IfOk both (HoldsBoth set other) → IfErr both (λ error. error ≡ Memory)
    → GivesAll both (map range members)
halves_share range members front back set other (Ok both) e g k h m =
    let split : map range front ++ map range back ≡ map range members = sym (map-append range front back)
    ∙ ap (map range) e in
    subst (GivesAll (Ok both)) split (halves_joined (map range front) (map range back) set other both g k h)
halves_share range members front back set other (Err NumberAtEnd) e g k h m = absurd (cc)
halves_share range members front back set other (Err Memory) e g k h m = tt
