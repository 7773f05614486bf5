-- What is answered on ranges.
use Rattle.std.proofs.Common.{◌≡◌, ◌↔◌, ◌&&◌, ◌∙◌, inl, inr, ℕ, Bool, true, false, not, List, [], ◌∷◌, Result, Ok, Err}
use Rattle.std.proofs.Common.{IfOk, IsTrue, MatchBool, refl, sym, ap}
use Rattle.std.specs.Result.{IsOkAnd}
use Rattle.version_ranges.specs.Point.{Point}
use Rattle.version_ranges.specs.Held.{holds_at, IsNormal}
use Rattle.version_ranges.specs.OrderLaws.{points_total}
use Rattle.version_ranges.proofs.Membership.{held_at_head}
use Rattle.pep440_version.specs.Record.{VersionRecord}
use Rattle.pep440_version.specs.Order.{version_cmp}
use Rattle.pep440_version.specs.OrderLaws.{version_cmp_total}
use Rattle.pep440_range.specs.Ranges.{PointTest}
use Rattle.reqs_c_reply.specs.declared.place.Place.{Place}
use Rattle.reqs_c_reply.specs.Endings.{Ending, Answered, Different, Refused, OutOfMemory, EndsIn}
use Rattle.reqs_c_reply.specs.Endings.{NoRefusal, yes_or_no}
use Rattle.reqs_c_versions.specs.Ranges.{Says, AreDisjoint, Meet, IsSubset, GoesBeyond}
use Rattle.reqs_c_versions.specs.Ranges.{IsEmpty, HoldsSome}

-- ---- marks

module _ (Yes No : Type 0) where
  by_mark : (answer : Bool) (text : List ℕ) → MatchBool answer Yes No → text ≡ yes_or_no answer → Says Yes No text
  by_mark true text h is = inl (is, h)
  by_mark false text h is = inr (is, h)

  says_which : {E : Type 0} (answer : Result Bool E) (text : List ℕ) → IfOk answer (λ b. MatchBool b Yes No)
      → IsOkAnd answer (λ b. text ≡ yes_or_no b) → Says Yes No text
  says_which (Ok answer) text h is = by_mark answer text h is
  says_which (Err error) text h is = absurd is

  -- a call that ends with a mark says that which the mark was found by
  pub ends_saying : {E : Type 0} (answer : Result Bool E) (Answers : List ℕ → Type 0)
      (Refuses : Place → List ℕ → Type 0) (ending : Ending)
      → IfOk answer (λ b. MatchBool b Yes No)
      → ((text : List ℕ) → Says Yes No text → Answers text)
      → EndsIn (λ text. IsOkAnd answer (λ b. text ≡ yes_or_no b)) NoRefusal ending
      → EndsIn Answers Refuses ending
  ends_saying answer Answers Refuses (Answered text) h says is = says text (says_which answer text h is)
  ends_saying answer Answers Refuses (Different text) h says is = absurd is
  ends_saying answer Answers Refuses (Refused place message) h says is = absurd is
  ends_saying answer Answers Refuses OutOfMemory h says is = tt

-- ---- points

not_held : (b : Bool) → b ≡ false → ¬ (IsTrue b)
not_held true h = absurd (cc)
not_held false h = λ t. cc

not_both : (a b : Bool) → ¬ (IsTrue (a && b)) → IsTrue a → ¬ (IsTrue b)
not_both true true h = absurd (h refl)
not_both true false h = λ x y. cc
not_both false b h = λ x. absurd (cc)

both_held : (a b : Bool) → IsTrue (a && b) → IsTrue a × IsTrue b
both_held true true h = (refl, refl)
both_held true false h = absurd (cc)
both_held false b h = absurd (cc)

held_by_other : (a b : Bool) → ¬ (IsTrue (a && not b)) → IsTrue a → IsTrue b
held_by_other true true h = λ x. refl
held_by_other true false h = absurd (h refl)
held_by_other false b h = λ x. absurd (cc)

held_without_other : (a b : Bool) → IsTrue (a && not b) → IsTrue a × ¬ (IsTrue b)
held_without_other true true h = absurd (cc)
held_without_other true false h = (refl, λ t. cc)
held_without_other false b h = absurd (cc)

module _ (both left right : PointTest) where
  pub disjoint_by : (answer : Bool) → MatchBool answer (IsEmpty both) (HoldsSome both)
      → ((p : Point VersionRecord) → both p ≡ (left p && right p))
      → MatchBool answer (AreDisjoint left right) (Meet left right)
  disjoint_by true none cut = λ p. not_both (left p) (right p) (λ t. none p (cut p ∙ t))
  disjoint_by false some cut =
      let p = some.0 in
      let held = both_held (left p) (right p) (sym (cut p) ∙ some.1) in (p, held.0, held.1)

  pub subset_by : (others : PointTest) (answer : Bool) → MatchBool answer (IsEmpty both) (HoldsSome both)
      → ((p : Point VersionRecord) → others p ≡ not (right p))
      → ((p : Point VersionRecord) → both p ≡ (left p && others p))
      → MatchBool answer (IsSubset left right) (GoesBeyond left right)
  subset_by others true none rest cut =
      λ p. held_by_other (left p) (right p)
      (λ t. none p (cut p ∙ (ap (λ b. left p && b) (rest p) ∙ t)))
  subset_by others false some rest cut =
      let p = some.0 in
      let held = held_without_other (left p) (right p)
      (sym (ap (λ b. left p && b) (rest p)) ∙ (sym (cut p) ∙ some.1)) in (p, held.0, held.1)

-- ---- the empty set

-- a set that holds no point has no turn, and one that has a turn holds that
pub empty_by : (answer : Bool) (set : List (Point VersionRecord)) → IsNormal version_cmp set
    → (IsTrue answer ↔ ((p : Point VersionRecord) → holds_at version_cmp set p ≡ false))
    → MatchBool answer (IsEmpty (holds_at version_cmp set)) (HoldsSome (holds_at version_cmp set))
empty_by true set normal tests = λ p. not_held (holds_at version_cmp set p) (tests.0 refl p)
empty_by false [] normal tests = let no : false ≡ true = tests.1 (λ p. refl) in absurd (cc)
empty_by false (first ∷ later) normal tests =
    (first, held_at_head (points_total version_cmp version_cmp_total) first later normal)
