-- Questions about markers obey the laws of questions.
use Rattle.std.proofs.Common.{◌≡◌, ℕ, ◌+◌, ◌<◌, ◌==◌, Bool, true, false, cond, not, List, [], refl, sym, ap}
use Rattle.std.proofs.Common.{◌∙◌, inl, inr, true≢false, arith, Ordering, Less, Equal, Greater, is_eq, is_lt}
use Rattle.std.proofs.Common.{is_gt, nat_cmp}
use Rattle.std.specs.Ordering.{ordering_then, ordering_reverse, then_cmp, on}
use Rattle.std.specs.Cmp.{IsTotalOrder, unsigned_tied, unsigned_Decides, upto, then_total, on_total}
use Rattle.std.specs.Cmp.{tied_itself, eq_by_cmp_equiv, IsEquivalence}
use Rattle.std.specs.Cmp.Lexicographic.{slice_cmp, lists_total, nat_list_cmp_total}
use Rattle.std.proofs.lemmas.Bool.{cases_Bool}
use Rattle.version_ranges.specs.declared.boundary.Boundary.{Boundary}
use Rattle.version_ranges.specs.declared.boundary.Boundary.TheVariants as boundary
use Rattle.version_ranges.specs.Boundaries.{point_of, boundary_cmp}
use Rattle.version_ranges.specs.OrderLaws.{points_total, boundaries_total}
use Rattle.version_ranges.specs.Point.{Point, BelowAll, point_cmp}
use Rattle.pep440_text.specs.Record.{VersionRecord}
use Rattle.pep440_version.specs.Order.{version_cmp}
use Rattle.pep440_version.specs.OrderLaws.{version_cmp_total}
use Rattle.pep508_marker.specs.declared.keys.MarkerValueString.{MarkerValueString}
use Rattle.pep508_marker.specs.Keys.{text_key_rank}
use Rattle.pep508_diagram.specs.declared.variable.VersionVariable.{VersionVariable}
use Rattle.pep508_diagram.specs.declared.variable.Flag.{Flag}
use Rattle.pep508_diagram.specs.Text.{text_cmp}
use Rattle.pep508_diagram.specs.Diagram.{IsAsking}
use Rattle.pep508_diagram.specs.Question.{Question, VersionBelow, TextBelow, IsSet, Valuation, version_rank}
use Rattle.pep508_diagram.specs.Question.{text_rank, flag_rank, flag_text, flag_place, place_of}
use Rattle.pep508_diagram.specs.Question.{version_boundaries, text_boundaries, question_cmp, shares_variable}
use Rattle.pep508_diagram.specs.Question.{lies_below, answer, below_all, at_place, marker, OneDiagram}
use Rattle.pep508_diagram.proofs.Places.{not_less, apart_then, equal_from, neighbours, versions_same}
use Rattle.pep508_diagram.proofs.Places.{text_keys_same, version_rank_below, rank_below, flag_rank_from}
use Rattle.pep508_diagram.proofs.Places.{flag_from_place}
use Rattle.version_ranges.specs.HashingLaws.{then_equal}
use Rattle.pep440_version.proofs.Stripped.{then_equal_last}
use Rattle.pep508_diagram.proofs.Canonical.{one_diagram}

-- ---- points and boundaries of one variable

pub not_not : (b : Bool) → not (not b) ≡ b
not_not true = refl
not_not false = refl

pub greater_back : (o : Ordering) → not (not (is_gt (ordering_reverse o))) ≡ is_lt o
greater_back Less = refl
greater_back Equal = refl
greater_back Greater = refl

module _ {T : Type 0} {cmp : T → T → Ordering} (total : IsTotalOrder cmp) where
  pub below_each : (c : Boundary T) → lies_below cmp BelowAll c ≡ true
  below_each (boundary.At v) = refl
  below_each (boundary.JustAbove v) = refl

  pub below_equal : (p : Point T) (b c : Boundary T) → boundary_cmp cmp b c ≡ Equal →
      lies_below cmp p b ≡ lies_below cmp p c
  below_equal p b c e =
      ap (λ o. not (not (is_gt o))) ((points_total cmp total).congr (point_of b) (point_of c) p e)

  pub below_next : (p : Point T) (b c : Boundary T) → boundary_cmp cmp b c ≡ Less →
      lies_below cmp p b ≡ true → lies_below cmp p c ≡ true
  below_next p b c less below = elim (cases_Bool (lies_below cmp p c)) [
    | inl so ↦ so
    | inr over ↦
        let reached : is_gt (point_cmp cmp (point_of c) p) ≡ false =
        sym (not_not (is_gt (point_cmp cmp (point_of c) p))) ∙ over in
        let sooner : is_gt (point_cmp cmp (point_of b) p) ≡ false =
        upto (points_total cmp total) (point_of b) (point_of c) p (ap is_gt less) reached in
        absurd (true≢false (sym below ∙ not_not (is_gt (point_cmp cmp (point_of b) p)) ∙ sooner))
  ]

  pub below_at : (b c : Boundary T) → lies_below cmp (point_of b) c ≡ is_lt (boundary_cmp cmp b c)
  below_at b c =
      ap (λ o. not (not (is_gt o))) ((points_total cmp total).antisymm (point_of c) (point_of b))
      ∙ greater_back (boundary_cmp cmp b c)

  -- what a moved variable answers
  pub moved : (same : Bool) (p q : Point T) (c : Boundary T) (b : Bool) →
      (same ≡ true → lies_below cmp p c ≡ b) →
      lies_below cmp (cond same p q) c ≡ cond same b (lies_below cmp q c)
  moved true p q c b so = so refl
  moved false p q c b so = refl

-- ---- which questions share a variable

pub numbers_tied : (a b : ℕ) → is_eq (ordering_then (nat_cmp a b) Equal) ≡ (a == b)
numbers_tied a b = ap is_eq (then_equal_last (nat_cmp a b)) ∙ unsigned_tied a b

pub tied_numbers : (a b : ℕ) → (a == b) ≡ true → nat_cmp a b ≡ Equal
tied_numbers a b e = equal_from (nat_cmp a b) (unsigned_tied a b ∙ e)

pub two_more : (a b : ℕ) → (2 + a == 2 + b) ≡ (a == b)
two_more a b = grind (arith)

pub versions_share : (k j : VersionVariable) (b c : Boundary VersionRecord) →
    shares_variable (VersionBelow k b) (VersionBelow j c) ≡ (version_rank k == version_rank j)
unfolding shares_variable
versions_share k j b c = numbers_tied (version_rank k) (version_rank j)

pub texts_share : (k j : MarkerValueString) (b c : Boundary (List ℕ)) →
    shares_variable (TextBelow k b) (TextBelow j c) ≡ (text_key_rank k == text_key_rank j)
unfolding shares_variable
texts_share k j b c = numbers_tied (text_rank k) (text_rank j) ∙ two_more (text_key_rank k) (text_key_rank j)

-- the questions are of two kinds
abbrev pub IsMixed : Question → Question → Type 0
IsMixed (VersionBelow k b) (VersionBelow j c) = ⊥
IsMixed (TextBelow k b) (TextBelow j c) = ⊥
IsMixed (IsSet f) (IsSet g) = ⊥
IsMixed q r = Unit {0}

pub before_differs : (a b : ℕ) (o : Ordering) → a < b → is_eq (ordering_then (nat_cmp a b) o) ≡ false
before_differs a b o less =
    let differ : (a == b) ≡ false = grind arith in
    apart_then (nat_cmp a b) o (unsigned_tied a b ∙ differ)

pub behind_differs : (a b : ℕ) (o : Ordering) → b < a → is_eq (ordering_then (nat_cmp a b) o) ≡ false
behind_differs a b o more =
    let differ : (a == b) ≡ false = grind arith in
    apart_then (nat_cmp a b) o (unsigned_tied a b ∙ differ)

pub mixed_apart : (q r : Question) → IsMixed q r → shares_variable q r ≡ false
unfolding shares_variable
mixed_apart (VersionBelow k b) (VersionBelow j c) mixed = absurd mixed
mixed_apart (VersionBelow k b) (TextBelow j c) mixed =
    before_differs (version_rank k) (text_rank j) Equal (omega (arith, version_rank_below k))
mixed_apart (VersionBelow k b) (IsSet g) mixed =
    before_differs (version_rank k) (flag_rank g) (text_cmp [] (flag_text g))
    (omega (arith, version_rank_below k, flag_rank_from g))
mixed_apart (TextBelow k b) (VersionBelow j c) mixed =
    behind_differs (text_rank k) (version_rank j) Equal (omega (arith, version_rank_below j))
mixed_apart (TextBelow k b) (TextBelow j c) mixed = absurd mixed
mixed_apart (TextBelow k b) (IsSet g) mixed =
    before_differs (text_rank k) (flag_rank g) (text_cmp [] (flag_text g))
    (omega (arith, rank_below k, flag_rank_from g))
mixed_apart (IsSet f) (VersionBelow j c) mixed =
    behind_differs (flag_rank f) (version_rank j) (text_cmp (flag_text f) [])
    (omega (arith, version_rank_below j, flag_rank_from f))
mixed_apart (IsSet f) (TextBelow j c) mixed =
    behind_differs (flag_rank f) (text_rank j) (text_cmp (flag_text f) [])
    (omega (arith, rank_below j, flag_rank_from f))
mixed_apart (IsSet f) (IsSet g) mixed = absurd mixed

pub no_mixed : (q r : Question) → IsMixed q r → shares_variable q r ≡ true → ⊥
no_mixed q r mixed shared = true≢false (sym shared ∙ mixed_apart q r mixed)

-- ---- the order of questions

pub questions_total : IsTotalOrder question_cmp
unfolding question_cmp
questions_total =
    then_total (on_total place_of nat_list_cmp_total)
    (then_total (on_total version_boundaries (lists_total (boundaries_total version_cmp version_cmp_total)))
    (on_total text_boundaries (lists_total (boundaries_total text_cmp nat_list_cmp_total))))

pub level : (o : Ordering) → ordering_then (ordering_then o Equal) Equal ≡ o
level o = then_equal_last (ordering_then o Equal) ∙ then_equal_last o

-- questions about one key stand as their boundaries do
pub versions_order : (k j : VersionVariable) (b c : Boundary VersionRecord) →
    (version_rank k == version_rank j) ≡ true →
    question_cmp (VersionBelow k b) (VersionBelow j c) ≡ boundary_cmp version_cmp b c
unfolding question_cmp
versions_order k j b c e =
    let inner = ordering_then (ordering_then (boundary_cmp version_cmp b c) Equal) Equal in
    ap (λ o. ordering_then (ordering_then o Equal) inner) (tied_numbers (version_rank k) (version_rank j) e)
    ∙ level (boundary_cmp version_cmp b c)

pub texts_order : (k j : MarkerValueString) (b c : Boundary (List ℕ)) →
    (text_key_rank k == text_key_rank j) ≡ true →
    question_cmp (TextBelow k b) (TextBelow j c) ≡ boundary_cmp text_cmp b c
unfolding question_cmp
texts_order k j b c e =
    ap (λ o. ordering_then (ordering_then o Equal) (ordering_then (boundary_cmp text_cmp b c) Equal))
    (tied_numbers (text_rank k) (text_rank j) (two_more (text_key_rank k) (text_key_rank j) ∙ e))
    ∙ then_equal_last (boundary_cmp text_cmp b c)

pub places_share : (q r : Question) → question_cmp q r ≡ Equal → shares_variable q r ≡ true
unfolding question_cmp shares_variable
places_share q r e = ap is_eq (then_equal (text_cmp (place_of q) (place_of r)) _ e).0

pub share_equiv : IsEquivalence shares_variable
unfolding shares_variable
share_equiv = eq_by_cmp_equiv (on_total place_of nat_list_cmp_total)

pub questions_apart : (q r s : Question) → question_cmp q r ≡ Less → shares_variable q r ≡ false →
    question_cmp r s ≡ Less → shares_variable q s ≡ false
unfolding question_cmp shares_variable
questions_apart =
    neighbours
    (then_cmp (on version_boundaries (slice_cmp (boundary_cmp version_cmp)))
    (on text_boundaries (slice_cmp (boundary_cmp text_cmp))))
    (on_total place_of nat_list_cmp_total)

-- ---- answers

pub version_keys : (k j : VersionVariable) (b c : Boundary VersionRecord) →
    shares_variable (VersionBelow k b) (VersionBelow j c) ≡ true → k ≡ j
version_keys k j b c shared =
    let same : (version_rank k == version_rank j) ≡ true = sym (versions_share k j b c) ∙ shared in
    versions_same k j ((unsigned_Decides (version_rank k) (version_rank j)).0 same)

pub text_keys : (k j : MarkerValueString) (b c : Boundary (List ℕ)) →
    shares_variable (TextBelow k b) (TextBelow j c) ≡ true → k ≡ j
text_keys k j b c shared =
    let same : (text_key_rank k == text_key_rank j) ≡ true = sym (texts_share k j b c) ∙ shared in
    text_keys_same k j ((unsigned_Decides (text_key_rank k) (text_key_rank j)).0 same)

pub flags_shared : (f g : Flag) → shares_variable (IsSet f) (IsSet g) ≡ true → f ≡ g
unfolding shares_variable
flags_shared f g shared = flag_from_place f g (equal_from (text_cmp (flag_place f) (flag_place g)) shared)

pub flags_order : (f g : Flag) → shares_variable (IsSet f) (IsSet g) ≡ true →
    question_cmp (IsSet f) (IsSet g) ≡ Equal
flags_order f g shared =
    ap (λ h. question_cmp (IsSet f) (IsSet h)) (sym (flags_shared f g shared))
    ∙ tied_itself questions_total (IsSet f)

pub answers_equal : (v : Valuation) (q r : Question) → question_cmp q r ≡ Equal → answer v q ≡ answer v r
unfolding answer
answers_equal v (VersionBelow k b) (VersionBelow j c) e =
    let shared : shares_variable (VersionBelow k b) (VersionBelow j c) ≡ true =
    places_share (VersionBelow k b) (VersionBelow j c) e in
    let order : boundary_cmp version_cmp b c ≡ Equal =
    sym (versions_order k j b c (sym (versions_share k j b c) ∙ shared)) ∙ e in
    ap (λ key. lies_below version_cmp (v.version key) b) (version_keys k j b c shared)
    ∙ below_equal version_cmp_total (v.version j) b c order
answers_equal v (TextBelow k b) (TextBelow j c) e =
    let shared : shares_variable (TextBelow k b) (TextBelow j c) ≡ true =
    places_share (TextBelow k b) (TextBelow j c) e in
    let order : boundary_cmp text_cmp b c ≡ Equal =
    sym (texts_order k j b c (sym (texts_share k j b c) ∙ shared)) ∙ e in
    ap (λ key. lies_below text_cmp (v.text key) b) (text_keys k j b c shared)
    ∙ below_equal nat_list_cmp_total (v.text j) b c order
answers_equal v (IsSet f) (IsSet g) e = ap v.flag (flags_shared f g (places_share (IsSet f) (IsSet g) e))
answers_equal v q r e = absurd (no_mixed q r tt (places_share q r e))

pub below_later : (v : Valuation) (q r : Question) → shares_variable q r ≡ true → question_cmp q r ≡ Less →
    answer v q ≡ true → answer v r ≡ true
unfolding answer
below_later v (VersionBelow k b) (VersionBelow j c) shared less below =
    let order : boundary_cmp version_cmp b c ≡ Less =
    sym (versions_order k j b c (sym (versions_share k j b c) ∙ shared)) ∙ less in
    let here : lies_below version_cmp (v.version j) b ≡ true =
    sym (ap (λ key. lies_below version_cmp (v.version key) b) (version_keys k j b c shared)) ∙ below in
    below_next version_cmp_total (v.version j) b c order here
below_later v (TextBelow k b) (TextBelow j c) shared less below =
    let order : boundary_cmp text_cmp b c ≡ Less =
    sym (texts_order k j b c (sym (texts_share k j b c) ∙ shared)) ∙ less in
    let here : lies_below text_cmp (v.text j) b ≡ true =
    sym (ap (λ key. lies_below text_cmp (v.text key) b) (text_keys k j b c shared)) ∙ below in
    below_next nat_list_cmp_total (v.text j) b c order here
below_later v (IsSet f) (IsSet g) shared less below =
    absurd (not_less (sym (flags_order f g shared) ∙ less))
below_later v q r shared less below = absurd (no_mixed q r tt shared)

-- ---- valuations that are moved in one variable

pub moved_below : (v : Valuation) (q r : Question) →
    answer (below_all v q) r ≡ cond (shares_variable q r) true (answer v r)
unfolding answer below_all shares_variable
moved_below v (VersionBelow k b) (VersionBelow j c) =
    moved version_cmp_total (version_rank k == version_rank j) BelowAll (v.version j) c true
    (λ same. below_each version_cmp_total c)
    ∙ ap (λ same. cond same true (lies_below version_cmp (v.version j) c)) (sym (versions_share k j b c))
moved_below v (TextBelow k b) (TextBelow j c) =
    moved nat_list_cmp_total (text_key_rank k == text_key_rank j) BelowAll (v.text j) c true
    (λ same. below_each nat_list_cmp_total c)
    ∙ ap (λ same. cond same true (lies_below text_cmp (v.text j) c)) (sym (texts_share k j b c))
moved_below v (IsSet f) (IsSet g) = refl
moved_below v q r = ap (λ same. cond same true (answer v r)) (sym (mixed_apart q r tt))

pub flag_moved : (v : Valuation) (f g : Flag) (same : Bool) → shares_variable (IsSet f) (IsSet g) ≡ same →
    cond same false (v.flag g) ≡ cond same (is_lt (question_cmp (IsSet f) (IsSet g))) (v.flag g)
flag_moved v f g true shared = ap is_lt (sym (flags_order f g shared))
flag_moved v f g false shared = refl

pub moved_at : (v : Valuation) (q r : Question) →
    answer (at_place v q) r ≡ cond (shares_variable q r) (is_lt (question_cmp q r)) (answer v r)
unfolding answer at_place shares_variable
moved_at v (VersionBelow k b) (VersionBelow j c) =
    let later : Bool = is_lt (question_cmp (VersionBelow k b) (VersionBelow j c)) in
    moved version_cmp_total (version_rank k == version_rank j) (point_of b) (v.version j) c later
    (λ same. below_at version_cmp_total b c ∙ ap is_lt (sym (versions_order k j b c same)))
    ∙ ap (λ same. cond same later (lies_below version_cmp (v.version j) c)) (sym (versions_share k j b c))
moved_at v (TextBelow k b) (TextBelow j c) =
    let later : Bool = is_lt (question_cmp (TextBelow k b) (TextBelow j c)) in
    moved nat_list_cmp_total (text_key_rank k == text_key_rank j) (point_of b) (v.text j) c later
    (λ same. below_at nat_list_cmp_total b c ∙ ap is_lt (sym (texts_order k j b c same)))
    ∙ ap (λ same. cond same later (lies_below text_cmp (v.text j) c)) (sym (texts_share k j b c))
moved_at v (IsSet f) (IsSet g) = flag_moved v f g (shares_variable (IsSet f) (IsSet g)) refl
moved_at v q r = ap (λ same. cond same (is_lt (question_cmp q r)) (answer v r)) (sym (mixed_apart q r tt))

pub asks : IsAsking marker
asks = record {
  total = questions_total;
  equal_share = places_share;
  shares_turned = share_equiv.symm;
  shares_on = share_equiv.congr;
  apart = questions_apart;
  answers_equal = answers_equal;
  below_later = below_later;
  moved_below = moved_below;
  moved_at = moved_at;
}

-- a valuation: each variable below all of its boundaries
pub lowest : Valuation
lowest = record { version = λ k. BelowAll; text = λ k. BelowAll; flag = λ f. true }

pub one_marker_diagram : OneDiagram
one_marker_diagram = one_diagram Question Valuation marker asks lowest
