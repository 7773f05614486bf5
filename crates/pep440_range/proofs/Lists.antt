-- Lists: what all ranges of the members hold, where each member agrees with its range.
use Rattle.std.proofs.Common.{◌≡◌, ℕ, Bool, true, false, ◌&&◌, List, [], ◌∷◌, map, Option, Some, None}
use Rattle.std.proofs.Common.{is_some, is_none, inl, inr, refl, sym, true≢false}
use Rattle.std.specs.List.{All, AllByRecursion, list_all}
use Rattle.std.proofs.lemmas.List.Elements.{recursion_from_All}
use Rattle.version_ranges.specs.Point.{Point, At}
use Rattle.pep440_version.specs.Record.{VersionRecord}
use Rattle.pep440_operator.specs.declared.operator.Operator.{Operator}
use Rattle.pep440_operator.specs.declared.operator.Operator.TheVariants.{Equal, EqualStar, ExactEqual}
use Rattle.pep440_operator.specs.declared.operator.Operator.TheVariants.{NotEqual}
use Rattle.pep440_operator.specs.declared.operator.Operator.TheVariants.{NotEqualStar, TildeEqual, LessThan}
use Rattle.pep440_operator.specs.declared.operator.Operator.TheVariants.{LessThanEqual, GreaterThan}
use Rattle.pep440_operator.specs.declared.operator.Operator.TheVariants.{GreaterThanEqual}
use Rattle.pep440_specifier.specs.Matching.{SpecifierRecord, takes}
use Rattle.pep440_specifier_list.specs.Lists.{matches_all}
use Rattle.pep440_range.specs.Ranges.{PointTest, range_holds, range_of}
use Rattle.pep440_range.specs.Agreement.{IsSaid, Agrees, agrees_beside_posts, IsAgreeing, IsWithoutPosts}
use Rattle.pep440_range.proofs.Agreeing.{agrees}

-- a member takes the candidate just where its range holds it
abbrev pub AgreesAt : (SpecifierRecord → Option PointTest) → VersionRecord → SpecifierRecord → Type 0
AgreesAt range candidate member =
    (test : PointTest) → range member ≡ Some test → test (At candidate) ≡ takes candidate member

pub both_true : (a b : Bool) → (a && b) ≡ true → (a ≡ true) × (b ≡ true)
both_true true b h = (refl, h)
both_true false b h = absurd (true≢false (sym h))

held_as : (range : Option PointTest) (p : Point VersionRecord) (taken : Bool) → is_some range ≡ true
    → ((test : PointTest) → range ≡ Some test → test p ≡ taken) → range_holds range p ≡ taken
held_as (Some test) p taken h f = f test refl
held_as None p taken h f = absurd (true≢false (sym h))

pub list_agrees : (range : SpecifierRecord → Option PointTest) (candidate : VersionRecord)
    (asked : SpecifierRecord → Type 0)
    → ((member : SpecifierRecord) → asked member → AgreesAt range candidate member)
    → (members : List SpecifierRecord) → AllByRecursion asked members
    → list_all is_some (map range members) ≡ true
    → list_all (λ r. range_holds r (At candidate)) (map range members) ≡ matches_all members candidate
list_agrees range candidate asked f [] all there = refl
list_agrees range candidate asked f (member ∷ members) all there =
    let parts = both_true (is_some (range member)) (list_all is_some (map range members)) there in
    let first = held_as (range member) (At candidate) (takes candidate member) parts.0 (f member all.0) in
    let rest = list_agrees range candidate asked f members all.1 parts.1 in
    λ i. first i && rest i

pub agreeing : (candidate : VersionRecord) → IsSaid candidate → candidate.local ≡ []
    → (member : SpecifierRecord) → IsAgreeing candidate member → AgreesAt range_of candidate member
agreeing candidate said plain member m test e =
    agrees member.operator member.version candidate test m.built.local m.said said plain m.agrees e

no_post : (post : Option ℕ) → is_none post ≡ true → post ≡ None
no_post None e = refl
no_post (Some n) e = absurd (true≢false (sym e))

-- beside a candidate that is no post-release
beside_posts : (operator : Operator) (version candidate : VersionRecord) → candidate.post ≡ None
    → agrees_beside_posts operator version ≡ true → Agrees operator version candidate
beside_posts Equal version candidate none h = tt
beside_posts EqualStar version candidate none h = tt
beside_posts ExactEqual version candidate none h = absurd (true≢false (sym h))
beside_posts NotEqual version candidate none h = tt
beside_posts NotEqualStar version candidate none h = tt
beside_posts TildeEqual version candidate none h = tt
beside_posts LessThan version candidate none h = inr (no_post version.post h)
beside_posts LessThanEqual version candidate none h = tt
beside_posts GreaterThan version candidate none h = inl (inr (no_post version.post h, none))
beside_posts GreaterThanEqual version candidate none h = tt

pub without_posts : (candidate : VersionRecord) → candidate.post ≡ None → (member : SpecifierRecord)
    → IsWithoutPosts member → IsAgreeing candidate member
without_posts candidate none member m = record {
  built = m.built;
  said = m.said;
  agrees = beside_posts member.operator member.version candidate none m.agrees;
}

-- what is asked of each member, of all of them
pub each : (asked : SpecifierRecord → Type 0) (members : List SpecifierRecord) → All asked members
    → AllByRecursion asked members
each asked members all = recursion_from_All asked members all
