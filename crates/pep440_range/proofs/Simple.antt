-- Simple members agree with their ranges at each candidate, seen without its local part.
use Rattle.std.proofs.Common.{◌≡◌, ◌&&◌, not, List, [], ◌∷◌, is_some, inr, refl, ap}
use Rattle.std.specs.List.{AllByRecursion}
use Rattle.std.specs.Ordering.{is_eq, is_lt, is_le, is_gt, is_ge}
use Rattle.pep440_version.specs.Record.{Segment, VersionRecord, without_local}
use Rattle.pep440_version.specs.Changes.{is_prerelease}
use Rattle.pep440_version.specs.Order.{version_cmp}
use Rattle.pep440_operator.specs.declared.operator.Operator.{Operator}
use Rattle.pep440_operator.specs.declared.operator.Operator.TheVariants.{Equal, EqualStar, ExactEqual}
use Rattle.pep440_operator.specs.declared.operator.Operator.TheVariants.{NotEqual, NotEqualStar}
use Rattle.pep440_operator.specs.declared.operator.Operator.TheVariants.{TildeEqual, LessThan}
use Rattle.pep440_operator.specs.declared.operator.Operator.TheVariants.{LessThanEqual, GreaterThan}
use Rattle.pep440_operator.specs.declared.operator.Operator.TheVariants.{GreaterThanEqual}
use Rattle.pep440_specifier.specs.Matching.{SpecifierRecord, seen_beside, candidate_cmp, same_release}
use Rattle.pep440_specifier.specs.Matching.{has_front, without_last, matches}
use Rattle.pep440_specifier_list.specs.Lists.{matches_all}
use Rattle.pep440_range.specs.Agreement.{IsSaid, Agrees, AgreesEverywhere, IsAgreeing, IsSimple}

everywhere : (operator : Operator) (version candidate : VersionRecord) → AgreesEverywhere operator version
    → Agrees operator version candidate
everywhere Equal version candidate h = tt
everywhere EqualStar version candidate h = tt
everywhere ExactEqual version candidate h = h
everywhere NotEqual version candidate h = tt
everywhere NotEqualStar version candidate h = tt
everywhere TildeEqual version candidate h = tt
everywhere LessThan version candidate h = inr h
everywhere LessThanEqual version candidate h = tt
everywhere GreaterThan version candidate h = inr h
everywhere GreaterThanEqual version candidate h = tt

pub simple_agrees : (candidate : VersionRecord) (member : SpecifierRecord) → IsSimple member
    → IsAgreeing candidate member
simple_agrees candidate member m = record {
  built = m.built;
  said = m.said;
  agrees = everywhere member.operator member.version candidate m.agrees;
}

pub said_without_local : (candidate : VersionRecord) → IsSaid candidate → IsSaid (without_local candidate)
said_without_local candidate said = record { no_least = said.no_least; no_most = said.no_most }

-- beside a version without a local part, a candidate's counts for nothing
seen_alike : (segments : List Segment) (candidate : VersionRecord) → segments ≡ []
    → seen_beside segments (without_local candidate) ≡ seen_beside segments candidate
seen_alike [] candidate plain = refl
seen_alike (segment ∷ segments) candidate plain = absurd (cc)

cmp_alike : (version candidate : VersionRecord) → version.local ≡ []
    → candidate_cmp version (without_local candidate) ≡ candidate_cmp version candidate
cmp_alike version candidate plain =
    ap (λ (other : VersionRecord). version_cmp other version) (seen_alike version.local candidate plain)

takes_alike : (operator : Operator) (version candidate : VersionRecord) → version.local ≡ []
    → AgreesEverywhere operator version
    → matches operator version (without_local candidate) ≡ matches operator version candidate
takes_alike Equal version candidate plain h = ap is_eq (cmp_alike version candidate plain)
takes_alike EqualStar version candidate plain h = refl
takes_alike ExactEqual version candidate plain h = absurd h
takes_alike NotEqual version candidate plain h = ap (λ o. not (is_eq o)) (cmp_alike version candidate plain)
takes_alike NotEqualStar version candidate plain h = refl
takes_alike TildeEqual version candidate plain h =
    ap (λ o. has_front version.epoch (without_last version.release) candidate && is_ge o)
    (cmp_alike version candidate plain)
takes_alike LessThan version candidate plain h =
    ap (λ o. is_lt o && not (same_release version candidate
    && (is_prerelease candidate && not (is_prerelease version)))) (cmp_alike version candidate plain)
takes_alike LessThanEqual version candidate plain h = ap is_le (cmp_alike version candidate plain)
takes_alike GreaterThan version candidate plain h =
    ap (λ o. is_gt o && not (same_release version candidate
    && (is_some candidate.post && not (is_some version.post)))) (cmp_alike version candidate plain)
takes_alike GreaterThanEqual version candidate plain h = ap is_ge (cmp_alike version candidate plain)

pub all_alike : (candidate : VersionRecord) (members : List SpecifierRecord)
    → AllByRecursion IsSimple members
    → matches_all members (without_local candidate) ≡ matches_all members candidate
all_alike candidate [] all = refl
all_alike candidate (member ∷ members) all =
    let m = all.0 in
    let first = takes_alike member.operator member.version candidate m.no_local m.agrees in
    let rest = all_alike candidate members all.1 in
    λ i. first i && rest i
