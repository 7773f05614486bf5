-- Members by halves: what their ranges share, and what lists of them take.
use Rattle.std.proofs.Common.{◌≡◌, ◌∙◌, true, ◌&&◌, List, [], ◌∷◌, ◌++◌, map, length, All, refl, ap, sym}
use Rattle.std.proofs.Common.{subst, arith, get_or}
use Rattle.std.proofs.lemmas.Bool.{and_parts, and_from}
use Rattle.std.proofs.lemmas.List.{map-append}
use Rattle.std.proofs.lemmas.List.Elements.{All-head, All-tail}
use Rattle.std.proofs.lemmas.List.Folds.{list_all-append}
use Rattle.std.specs.Option.{is_some}
use Rattle.std.specs.List.{list_all}
use Rattle.std.specs.Borrow.{Bor}
use Rattle.version_ranges.specs.Point.{Point}
use Rattle.version_ranges.specs.Held.{holds_at}
use Rattle.pep440_version.specs.Record.{VersionRecord}
use Rattle.pep440_version.specs.Order.{version_cmp}
use Rattle.pep440_specifier.specs.Matching.{SpecifierRecord, takes}
use Rattle.pep440_specifier_list.specs.Lists.{matches_all}
use Rattle.pep440_range.specs.Ranges.{range_of, range_holds}
use Rattle.reqtable_range.specs.Together.{members_of, all_take, lent, HasRange, HaveRanges, IsShared}

-- all members take what each list does
pub members_take : (lists : List (List SpecifierRecord)) (candidate : VersionRecord)
    → matches_all (members_of lists) candidate ≡ all_take lists candidate
members_take [] candidate = refl
members_take (list ∷ lists) candidate =
    list_all-append (takes candidate) list (members_of lists)
    ∙ ap (λ b. matches_all list candidate && b) (members_take lists candidate)

-- ---- members that have ranges

pub all_have : (members : List SpecifierRecord) → All HasRange members → HaveRanges members
all_have [] h = refl
all_have (member ∷ members) h =
    and_from (is_some (range_of member)) (list_all is_some (map range_of members))
    (All-head HasRange member members h) (all_have members (All-tail HasRange member members h))

there_split : (xs ys : List SpecifierRecord)
    → list_all is_some (map range_of (xs ++ ys)) ≡ (list_all is_some (map range_of xs) && list_all is_some (map range_of ys))
there_split xs ys = ap (list_all is_some) (map-append range_of xs ys) ∙ list_all-append is_some (map range_of xs) (map range_of ys)

both_have : (xs ys : List SpecifierRecord) → HaveRanges (xs ++ ys) → HaveRanges xs × HaveRanges ys
both_have xs ys h = and_parts (list_all is_some (map range_of xs)) (list_all is_some (map range_of ys)) (sym (there_split xs ys) ∙ h)

pub halves_lent : (front back members : List (Bor SpecifierRecord)) → front ++ back ≡ members
    → lent front ++ lent back ≡ lent members
halves_lent front back members halves = sym (map-append (λ member. member.now) front back) ∙ ap lent halves

pub halves_have : (front back members : List (Bor SpecifierRecord)) → front ++ back ≡ members → HaveRanges (lent members)
    → HaveRanges (lent front) × HaveRanges (lent back)
halves_have front back members halves h =
    both_have (lent front) (lent back) (subst HaveRanges (sym (halves_lent front back members halves)) h)

-- the one member is lent
pub one_lent : (members : List (Bor SpecifierRecord)) (member : Bor SpecifierRecord) → length members ≡ 1
    → member ≡ get_or members 0 member → lent members ≡ member.now ∷ []
one_lent [] member e at = absurd (omega arith)
one_lent (one ∷ []) member e at = ap (λ (m : Bor SpecifierRecord). m.now ∷ []) (sym at)
one_lent (one ∷ (other ∷ members)) member e at = absurd (omega arith)

-- ---- what their ranges share

abbrev Set : Type 0
Set = List (Point VersionRecord)

-- no members share all points
pub none_share : (members : List (Bor SpecifierRecord)) (set : Set) → length members ≡ 0
    → ((p : Point VersionRecord) → holds_at version_cmp set p ≡ true) → IsShared (lent members) set
none_share [] set e h = (refl, h)
none_share (member ∷ members) set e h = absurd (omega arith)

both_share : (xs ys : List SpecifierRecord) (set other both : Set) → IsShared xs set → IsShared ys other
    → ((p : Point VersionRecord) → holds_at version_cmp both p ≡ (holds_at version_cmp set p && holds_at version_cmp other p))
    → IsShared (xs ++ ys) both
both_share xs ys set other both h k is = (
  there_split xs ys ∙ (λ i. h.0 i && k.0 i),
  λ p. is p ∙ (λ i. h.1 p i && k.1 p i)
      ∙ sym (ap (list_all (λ range. range_holds range p)) (map-append range_of xs ys)
      ∙ list_all-append (λ range. range_holds range p) (map range_of xs) (map range_of ys)),
)

pub halves_share : (front back members : List (Bor SpecifierRecord)) (set other both : Set) → front ++ back ≡ members
    → IsShared (lent front) set → IsShared (lent back) other
    → ((p : Point VersionRecord) → holds_at version_cmp both p ≡ (holds_at version_cmp set p && holds_at version_cmp other p))
    → IsShared (lent members) both
halves_share front back members set other both halves h k is =
    subst (λ xs. IsShared xs both) (halves_lent front back members halves)
    (both_share (lent front) (lent back) set other both h k is)
