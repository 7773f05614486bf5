-- Cases are alike exactly where their asks require the same.
use Rattle.std.proofs.Common.{◌≡◌, ◌∙◌, ℕ, Bool, true, false, List, [], ◌∷◌, Option, Some, None}
use Rattle.std.proofs.Common.{◌&&◌, not, refl, sym, ap, subst, inl, inr, true≢false}
use Rattle.std.proofs.lemmas.Cmp.{nat_list_eq_equiv}
use Rattle.std.specs.Cmp.Lexicographic.{pointwise}
use Rattle.std.specs.Bool.{beq}
use Rattle.std.specs.List.{list_any}
use Rattle.std.specs.Str.{bytes_eq}
use Rattle.version_ranges.specs.Point.{Point}
use Rattle.pep440_version.specs.Record.{VersionRecord}
use Rattle.pep508_requirement_text.specs.FrontReading.{Front}
use Rattle.reqtable_answer.proofs.OneAnswer.{same_texts}
use Rattle.reqtable_answer.proofs.Tests.{same_bytes}
use Rattle.reqtable_cases.specs.Usable.{is_usable, points_of, IsRangeOf}
use Rattle.reqtable_cases.specs.Requires.{RequireAlike}
use Rattle.reqtable_compare.specs.declared.sides.Relation.{Relation}
use Rattle.reqtable_compare.specs.declared.sides.Relation.TheVariants as relations
use Rattle.reqtable_compare.specs.Relations.{IsCovered, Relate}
use Rattle.reqtable_compare.specs.Summed.{SummaryRecord, SameRange, Alike, IsSummaryOf, WithinRange, Covering, Fit}

abbrev Range : Type 0
Range = Option (List (Point VersionRecord))

points_by : (asks others : List Front) (a b : Range) → IsRangeOf asks a → IsRangeOf others b → SameRange a b →
    (p : Point VersionRecord) → points_of asks p ≡ points_of others p
points_by asks others None b of other same p = absurd same
points_by asks others (Some x) None of other same p = absurd same
points_by asks others (Some x) (Some y) of other same p = sym (of.1 p) ∙ same p ∙ other.1 p

range_by : (asks others : List Front) (a b : Range) → is_usable asks ≡ true → is_usable others ≡ true →
    IsRangeOf asks a → IsRangeOf others b → ((p : Point VersionRecord) → points_of asks p ≡ points_of others p) →
    SameRange a b
range_by asks others None b usable usable' of other same = absurd (true≢false (sym usable ∙ of))
range_by asks others (Some x) None usable usable' of other same = absurd (true≢false (sym usable' ∙ other))
range_by asks others (Some x) (Some y) usable usable' of other same =
    (λ p. of.1 p ∙ same p ∙ sym (other.1 p))

never_both : (a : Bool) → a ≡ true → a ≡ false → ⊥
never_both a is not = true≢false (sym is ∙ not)

pub to_require : (asks others : List Front) (a b : SummaryRecord) → IsSummaryOf asks a → IsSummaryOf others b →
    Alike a b → RequireAlike asks others
to_require [] [] a b one other alike = tt
to_require [] (o ∷ os) a b one other (inl none) = never_both b.some other.some none.1
to_require [] (o ∷ os) a b one other (inr both) = never_both a.some both.some one.some
to_require (x ∷ xs) [] a b one other (inl none) = never_both a.some one.some none.0
to_require (x ∷ xs) [] a b one other (inr both) = never_both b.some both.other other.some
to_require (x ∷ xs) (o ∷ os) a b one other (inl none) = absurd (never_both a.some one.some none.0)
to_require (x ∷ xs) (o ∷ os) a b one other (inr both) = record {
  extras = λ e. sym (one.extras e) ∙ ap (list_any (bytes_eq e)) both.extras ∙ other.extras e;
  points = points_by (x ∷ xs) (o ∷ os) a.range b.range (one.range refl) (other.range refl) both.range;
  prerelease = sym one.prerelease ∙ both.prerelease ∙ other.prerelease;
}

pub from_require : (asks others : List Front) (a b : SummaryRecord) → IsSummaryOf asks a → IsSummaryOf others b →
    RequireAlike asks others → Alike a b
from_require [] [] a b one other h = inl (one.some, other.some)
from_require [] (o ∷ os) a b one other h = absurd h
from_require (x ∷ xs) [] a b one other h = absurd h
from_require (x ∷ xs) (o ∷ os) a b one other h = inr (record {
  some = one.some;
  other = other.some;
  extras = same_texts a.extras b.extras one.rising other.rising
      (λ q. one.extras q ∙ h.extras q ∙ sym (other.extras q));
  range = range_by (x ∷ xs) (o ∷ os) a.range b.range one.usable other.usable (one.range refl) (other.range refl) h.points;
  prerelease = one.prerelease ∙ h.prerelease ∙ sym other.prerelease;
})

-- ---- and cases cover others where their asks do

points_within : (asks others : List Front) (a b : Range) → IsRangeOf asks a → IsRangeOf others b → WithinRange a b →
    (p : Point VersionRecord) → points_of asks p ≡ true → points_of others p ≡ true
points_within asks others None b of other within p h = absurd within
points_within asks others (Some x) None of other within p h = absurd within
points_within asks others (Some x) (Some y) of other within p h = sym (other.1 p) ∙ within p (of.1 p ∙ h)

range_within : (asks others : List Front) (a b : Range) → is_usable asks ≡ true → is_usable others ≡ true →
    IsRangeOf asks a → IsRangeOf others b →
    ((p : Point VersionRecord) → points_of asks p ≡ true → points_of others p ≡ true) → WithinRange a b
range_within asks others None b usable usable' of other within = absurd (true≢false (sym usable ∙ of))
range_within asks others (Some x) None usable usable' of other within = absurd (true≢false (sym usable' ∙ other))
range_within asks others (Some x) (Some y) usable usable' of other within =
    (λ p h. other.1 p ∙ within p (sym (of.1 p) ∙ h))

pub to_covered : (asks others : List Front) (a b : SummaryRecord) → IsSummaryOf asks a → IsSummaryOf others b →
    Covering a b → IsCovered asks others
to_covered [] [] a b one other h = tt
to_covered [] (o ∷ os) a b one other (inl none) = never_both b.some other.some none
to_covered [] (o ∷ os) a b one other (inr both) = never_both a.some both.some one.some
to_covered (x ∷ xs) [] a b one other h = tt
to_covered (x ∷ xs) (o ∷ os) a b one other (inl none) = absurd (never_both b.some other.some none)
to_covered (x ∷ xs) (o ∷ os) a b one other (inr both) = record {
  extras = λ e there. sym (one.extras e) ∙ both.extras e (other.extras e ∙ there);
  points = points_within (x ∷ xs) (o ∷ os) a.range b.range (one.range refl) (other.range refl) both.range;
}

pub from_covered : (asks others : List Front) (a b : SummaryRecord) → IsSummaryOf asks a → IsSummaryOf others b →
    IsCovered asks others → Covering a b
from_covered [] [] a b one other h = inl other.some
from_covered [] (o ∷ os) a b one other h = absurd h
from_covered (x ∷ xs) [] a b one other h = inl other.some
from_covered (x ∷ xs) (o ∷ os) a b one other h = inr (record {
  some = one.some;
  extras = λ e there. one.extras e ∙ h.extras e (sym (other.extras e) ∙ there);
  range = range_within (x ∷ xs) (o ∷ os) a.range b.range one.usable other.usable (one.range refl) (other.range refl)
      h.points;
})

-- ---- as a relation has it

pub to_relate : (relation : Relation) (asks others : List Front) (a b : SummaryRecord) → IsSummaryOf asks a →
    IsSummaryOf others b → Fit relation a b → Relate relation asks others
to_relate relations.Alike asks others a b one other h = to_require asks others a b one other h
to_relate relations.Covering asks others a b one other h = to_covered asks others a b one other h

pub from_relate : (relation : Relation) (asks others : List Front) (a b : SummaryRecord) → IsSummaryOf asks a →
    IsSummaryOf others b → Relate relation asks others → Fit relation a b
from_relate relations.Alike asks others a b one other h = from_require asks others a b one other h
from_relate relations.Covering asks others a b one other h = from_covered asks others a b one other h

-- what requires the same is as any relation has it

pub alike_covered : (asks others : List Front) → RequireAlike asks others → IsCovered asks others
alike_covered [] [] h = tt
alike_covered [] (o ∷ os) h = h
alike_covered (x ∷ xs) [] h = tt
alike_covered (x ∷ xs) (o ∷ os) h = record {
  extras = λ e there. h.extras e ∙ there;
  points = λ p there. sym (h.points p) ∙ there;
}

pub alike_related : (relation : Relation) (asks others : List Front) → RequireAlike asks others →
    Relate relation asks others
alike_related relations.Alike asks others h = h
alike_related relations.Covering asks others h = alike_covered asks others h

-- ---- lists of names

both_true : (a b : Bool) → (a && b) ≡ true → (a ≡ true) × (b ≡ true)
both_true true b h = (refl, h)
both_true false b h = absurd (true≢false (sym h))

itself : (xs : List (List ℕ)) → pointwise bytes_eq xs xs ≡ true
itself [] = refl
itself (x ∷ xs) =
    let first = nat_list_eq_equiv.refl x in
    let rest = itself xs in
    λ i. first i && rest i

pub names_are : (xs ys : List (List ℕ)) → pointwise bytes_eq xs ys ≡ true → xs ≡ ys
names_are [] [] h = refl
names_are [] (y ∷ ys) h = absurd (true≢false (sym h))
names_are (x ∷ xs) [] h = absurd (true≢false (sym h))
names_are (x ∷ xs) (y ∷ ys) h =
    let parts = both_true (bytes_eq x y) (pointwise bytes_eq xs ys) h in
    let first = same_bytes x y parts.0 in
    let rest = names_are xs ys parts.1 in
    λ i. first i ∷ rest i

pub names_same : (xs ys : List (List ℕ)) → xs ≡ ys → pointwise bytes_eq xs ys ≡ true
names_same xs ys same = subst (λ l. pointwise bytes_eq xs l ≡ true) same (itself xs)

pub same_flags : (a b : Bool) → not (beq a b) ≡ false → a ≡ b
same_flags true true e = refl
same_flags true false e = absurd (true≢false e)
same_flags false true e = absurd (true≢false e)
same_flags false false e = refl
