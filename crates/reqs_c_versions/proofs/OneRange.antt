-- A call on the ranges of lists has one ending.
use Rattle.std.proofs.Common.{◌≡◌, ◌≢◌, ◌∙◌, ℕ, Bool, true, false, inl, inr, List, map, Option}
use Rattle.std.proofs.Common.{Ok, Err, refl, sym, subst}
use Rattle.std.proofs.lemmas.List.Elements.{recursion_from_All}
use Rattle.std.proofs.lemmas.List.Folds.{list_all-map}
use Rattle.std.proofs.lemmas.List.Sums.{AllPass-from_list_all, list_all-from_AllPass}
use Rattle.std.specs.List.{list_all}
use Rattle.std.specs.Option.{is_some}
use Rattle.version_ranges.specs.Point.{Point}
use Rattle.pep440_version.specs.Record.{VersionRecord}
use Rattle.pep440_specifier.specs.Matching.{SpecifierRecord}
use Rattle.pep440_specifier.specs.SpecifierReading.{told_specifier}
use Rattle.pep440_specifier_list.specs.Lists.{IsInOrder}
use Rattle.pep440_specifier_list.specs.ListReading.{ListFault, ListReading, list_reading}
use Rattle.pep440_specifier_list.proofs.Members.{all_in_order}
use Rattle.pep440_range.specs.Ranges.{PointTest, range_of, range_holds}
use Rattle.reqs_c_reply.specs.declared.place.Place.{Place}
use Rattle.reqs_c_reply.specs.Endings.{Ending, OutOfMemory}
use Rattle.reqs_c_versions.specs.Specifiers.{IsListIn, IsNoList, RefusesList}
use Rattle.reqs_c_versions.specs.Ranges.{IsRangeIn, RefusesRange, RefusesRanges}
use Rattle.reqs_c_versions.specs.Ranges.{AreDisjoint, Meet, IsSubset, GoesBeyond, IsEmpty, HoldsSome}
use Rattle.reqs_c_versions.specs.Ranges.{Says, SaysOfRanges, SaysIsEmpty}
use Rattle.reqs_c_versions.specs.Ranges.{RangesDisjointEnds, SubsetEnds, EmptyEnds}
use Rattle.reqs_c_versions.proofs.Messages.{one_specifier_message}
use Rattle.reqs_c_versions.proofs.OneEnding.{one_ending, one_not_text, text_or_not}

-- ---- what a text is read as

one_given : (given again : List SpecifierRecord) (reading : ListReading) → reading ≡ Ok given
    → reading ≡ Ok again → again ≡ given
one_given given again reading h k = cc

list_or_fault : (given : List SpecifierRecord) (fault : ListFault) (reading : ListReading)
    → reading ≡ Ok given → reading ≡ Err fault → ⊥
list_or_fault given fault reading h k = cc

-- ---- what all members of a list pass, all do in whatever order they stand

one_order : (given list other : List SpecifierRecord) → IsInOrder given list → IsInOrder given other
    → IsInOrder list other
one_order given list other h k = record {
  sorted = k.sorted;
  stable = λ x. k.stable x ∙ sym (h.stable x);
}

both_ways : (a b : Bool) → (a ≡ true → b ≡ true) → (b ≡ true → a ≡ true) → a ≡ b
both_ways true b f g = sym (f refl)
both_ways false true f g = g refl
both_ways false false f g = refl

all_again : (passes : SpecifierRecord → Bool) (given list other : List SpecifierRecord) → IsInOrder given list
    → IsInOrder given other → list_all passes list ≡ true → list_all passes other ≡ true
all_again passes given list other h k all =
    let Passes : SpecifierRecord → Type 0 = λ member. passes member ≡ true in
    let each = recursion_from_All Passes list (AllPass-from_list_all passes list all) in
    list_all-from_AllPass passes other (all_in_order Passes list other each (one_order given list other h k))

same_all : (passes : SpecifierRecord → Bool) (given list other : List SpecifierRecord) → IsInOrder given list
    → IsInOrder given other → list_all passes list ≡ list_all passes other
same_all passes given list other h k =
    both_ways (list_all passes list) (list_all passes other) (all_again passes given list other h k)
    (all_again passes given other list k h)

module _ (bytes : List ℕ) where
  -- what all ranges of a list pass
  same_ranges : (passes : Option PointTest → Bool) (list other : List SpecifierRecord) → IsListIn bytes list
      → IsListIn bytes other → list_all passes (map range_of list) ≡ list_all passes (map range_of other)
  same_ranges passes list other h k =
      let read = h.1 in
      let again = k.1 in
      let same : again.0 ≡ read.0 = one_given read.0 again.0 (list_reading bytes) read.1 again.1 in
      let order : IsInOrder read.0 other = subst (λ given. IsInOrder given other) same again.2 in
      list_all-map passes range_of list
      ∙ same_all (λ member. passes (range_of member)) read.0 list other read.2 order
      ∙ sym (list_all-map passes range_of other)

  one_range : (range other : PointTest) → IsRangeIn bytes range → IsRangeIn bytes other
      → (p : Point VersionRecord) → range p ≡ other p
  one_range range other h k p =
      h.holds p ∙ same_ranges (λ range. range_holds range p) h.members k.members (assumption) (assumption)
      ∙ sym (k.holds p)

  -- ---- refusals of one list

  module _ (input : ℕ) (place : Place) (message : List ℕ) where
    list_or_refused : (list : List SpecifierRecord) → IsListIn bytes list
        → RefusesList input bytes place message → ⊥
    list_or_refused list h (inl k) = text_or_not input bytes place message h.0 k
    list_or_refused list h (inr k) =
        let read = h.1 in list_or_fault read.0 k.fault (list_reading bytes) read.1 (cc)

    range_or_refused : (range : PointTest) → IsRangeIn bytes range
        → RefusesRange input bytes place message → ⊥
    range_or_refused range h (inl k) = list_or_refused h.members (assumption) k
    range_or_refused range h (inr k) =
        let same = same_ranges is_some h.members k.members (assumption) (assumption) in cc

    module _ (there : Place) (other : List ℕ) where
      one_no_list : IsNoList input bytes place message → IsNoList input bytes there other
          → (place ≡ there) × (message ≡ other)
      one_no_list h k =
          let told : told_specifier h.error ≡ told_specifier k.error = cc in
          let prints = one_specifier_message h.error k.error told in (cc, cc)

      one_list_refusal : RefusesList input bytes place message → RefusesList input bytes there other
          → (place ≡ there) × (message ≡ other)
      one_list_refusal (inl h) (inl k) = one_not_text input bytes place there message other h k
      one_list_refusal (inl h) (inr k) = absurd (text_or_not input bytes place message (cc) h)
      one_list_refusal (inr h) (inl k) = absurd (text_or_not input bytes there other (cc) k)
      one_list_refusal (inr h) (inr k) = one_no_list h k

  one_refusal : (input : ℕ) (place there : Place) (message other : List ℕ)
      → RefusesRange input bytes place message → RefusesRange input bytes there other
      → (place ≡ there) × (message ≡ other)
  one_refusal input place there message other (inl h) (inl k) =
      one_list_refusal input place message there other h k
  one_refusal input place there message other (inl h) (inr k) =
      absurd (list_or_refused input place message k.members (assumption) h)
  one_refusal input place there message other (inr h) (inl k) =
      absurd (list_or_refused input there other h.members (assumption) k)
  one_refusal input place there message other (inr h) (inr k) = (cc, cc)

-- ---- marks

one_mark : (Yes No Also Neither : Type 0) (text other : List ℕ) → (Yes → Neither → ⊥) → (Also → No → ⊥)
    → Says Yes No text → Says Also Neither other → text ≡ other
one_mark Yes No Also Neither text other apart also (inl h) (inl k) = h.0 ∙ sym k.0
one_mark Yes No Also Neither text other apart also (inl h) (inr k) = absurd (apart h.1 k.1)
one_mark Yes No Also Neither text other apart also (inr h) (inl k) = absurd (also k.1 h.1)
one_mark Yes No Also Neither text other apart also (inr h) (inr k) = h.0 ∙ sym k.0

abbrev HoldAlike : PointTest → PointTest → Type 0
HoldAlike range other = (p : Point VersionRecord) → range p ≡ other p

-- of ranges that hold alike not both relations hold
abbrev Excludes : (PointTest → PointTest → Type 0) → (PointTest → PointTest → Type 0) → Type 0
Excludes Yes No =
    (first second again other : PointTest) → HoldAlike first again → HoldAlike second other → Yes first second
    → No again other → ⊥

disjoint_or_meet : Excludes AreDisjoint Meet
disjoint_or_meet first second again other left right none some =
    none some.0 (left some.0 ∙ some.1) (right some.0 ∙ some.2)

subset_or_beyond : Excludes IsSubset GoesBeyond
subset_or_beyond first second again other left right all some =
    some.2 (sym (right some.0) ∙ all some.0 (left some.0 ∙ some.1))

-- ---- two lists

module _ (left right : List ℕ) where
  one_of_two : (place there : Place) (message other : List ℕ) → RefusesRanges left right place message
      → RefusesRanges left right there other → (place ≡ there) × (message ≡ other)
  one_of_two place there message other (inl h) (inl k) = one_refusal left 1 place there message other h k
  one_of_two place there message other (inl h) (inr k) =
      absurd (range_or_refused left 1 place message k.range (assumption) h)
  one_of_two place there message other (inr h) (inl k) =
      absurd (range_or_refused left 1 there other h.range (assumption) k)
  one_of_two place there message other (inr h) (inr k) =
      one_refusal right 2 place there message other (assumption) (assumption)

  module _ (Yes No : PointTest → PointTest → Type 0) where
    one_answer : Excludes Yes No → (text other : List ℕ) → SaysOfRanges Yes No left right text
        → SaysOfRanges Yes No left right other → text ≡ other
    one_answer apart text other h k =
        let first = one_range left h.first k.first (assumption) (assumption) in
        let second = one_range right h.second k.second (assumption) (assumption) in
        one_mark (Yes h.first h.second) (No h.first h.second) (Yes k.first k.second) (No k.first k.second)
        text other (apart h.first h.second k.first k.second first second)
        (apart k.first k.second h.first h.second (λ p. sym (first p)) (λ p. sym (second p))) (assumption)
        (assumption)

    answered_or_refused : (text : List ℕ) (place : Place) (message : List ℕ)
        → SaysOfRanges Yes No left right text → RefusesRanges left right place message → ⊥
    answered_or_refused text place message h (inl k) =
        range_or_refused left 1 place message h.first (assumption) k
    answered_or_refused text place message h (inr k) =
        range_or_refused right 2 place message h.second (assumption) (assumption)

  pub one_disjointness : (one other : Ending) → RangesDisjointEnds left right one
      → RangesDisjointEnds left right other → one ≢ OutOfMemory → other ≢ OutOfMemory → one ≡ other
  one_disjointness =
      one_ending (SaysOfRanges AreDisjoint Meet left right) (RefusesRanges left right)
      (one_answer AreDisjoint Meet disjoint_or_meet) one_of_two (answered_or_refused AreDisjoint Meet)

  pub one_subset : (one other : Ending) → SubsetEnds left right one → SubsetEnds left right other
      → one ≢ OutOfMemory → other ≢ OutOfMemory → one ≡ other
  one_subset =
      one_ending (SaysOfRanges IsSubset GoesBeyond left right) (RefusesRanges left right)
      (one_answer IsSubset GoesBeyond subset_or_beyond) one_of_two (answered_or_refused IsSubset GoesBeyond)

-- ---- one list

empty_or_some : (range other : PointTest) → HoldAlike range other → IsEmpty range → HoldsSome other → ⊥
empty_or_some range other same none some = none some.0 (same some.0 ∙ some.1)

module _ (bytes : List ℕ) where
  one_word : (text other : List ℕ) → SaysIsEmpty bytes text → SaysIsEmpty bytes other → text ≡ other
  one_word text other h k =
      let same = one_range bytes h.range k.range (assumption) (assumption) in
      one_mark (IsEmpty h.range) (HoldsSome h.range) (IsEmpty k.range) (HoldsSome k.range) text other
      (empty_or_some h.range k.range same) (empty_or_some k.range h.range (λ p. sym (same p))) (assumption)
      (assumption)

  word_or_refused : (text : List ℕ) (place : Place) (message : List ℕ) → SaysIsEmpty bytes text
      → RefusesRange 1 bytes place message → ⊥
  word_or_refused text place message h k = range_or_refused bytes 1 place message h.range (assumption) k

  pub one_emptiness : (one other : Ending) → EmptyEnds bytes one → EmptyEnds bytes other
      → one ≢ OutOfMemory → other ≢ OutOfMemory → one ≡ other
  one_emptiness =
      one_ending (SaysIsEmpty bytes) (RefusesRange 1 bytes) one_word (one_refusal bytes 1) word_or_refused
