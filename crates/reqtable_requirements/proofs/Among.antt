-- A name among names that rise, and copies of the lines of such names.
use Rattle.std.proofs.Common.{◌≡◌, ◌∙◌, ℕ, zero, suc, ◌+◌, ◌<◌, ◌≤◌, ◌||◌, Bool, true, false, cond, ◌⊎◌, List}
use Rattle.std.proofs.Common.{[], ◌∷◌, ◌++◌}
use Rattle.std.proofs.Common.{All, Bor, map, filter, take, get_or, length, refl, sym, ap, subst, arith}
use Rattle.std.proofs.Common.{append-nil}
use Rattle.std.proofs.Common.{Less, Equal, Greater, inl, inr}
use Rattle.std.proofs.lemmas.Cmp.{nat_list_cmp_total, nat_list_eq_equiv}
use Rattle.std.proofs.lemmas.List.Elements.{AllZip-push, All-filter, filter_more}
use Rattle.std.proofs.lemmas.List.Sorted.{searchable_from_sorted}
use Rattle.std.proofs.lemmas.Map.Text.{is_eq-slice_cmp}
use Rattle.std.specs.Cmp.Lexicographic.{slice_cmp}
use Rattle.std.specs.List.{AllByRecursion, AllZip, list_any}
use Rattle.std.specs.List.Sorted.{IsStrictlySortedBy, IsSortedBy, IsNonDecreasingBy, IsPartitionPoint}
use Rattle.std.specs.Ordering.{nat_cmp, is_eq, is_lt, ordering_index, ordering_reverse}
use Rattle.std.specs.Str.{bytes_eq}
use Rattle.std.specs.declared.cmp.Ordering.{Ordering}
use Rattle.pep440_specifier_list.specs.ListReading.{IsReadFromText}
use Rattle.reqtable_requirements.specs.Copies.{IsLineCopy, lines_among}
use Rattle.reqtable_requirements.specs.LineSpecifiers.{specifiers_in}
use Rattle.reqtable_requirements.specs.ReadLines.{AreRead}
use Rattle.reqtable_requirements.specs.declared.requirements.Line.{Line}

abbrev pub name_cmp : List ℕ → List ℕ → Ordering
name_cmp = slice_cmp nat_cmp

abbrev Names : Type 0
Names = List (Bor (List ℕ))

abbrev pub texts : Names → List (List ℕ)
texts names = map (λ name. name.now) names

adjacent : (names : Names) → IsStrictlySortedBy name_cmp (texts names) → (k : ℕ) (d : Bor (List ℕ)) → suc k < length names →
    name_cmp (get_or names k d).now (get_or names (suc k) d).now ≡ Less
unfolding IsStrictlySortedBy
adjacent [] h k d within = absurd (omega arith)
adjacent (p ∷ []) h k d within = absurd (omega arith)
adjacent (p ∷ (q ∷ names)) h zero d within = h.0.0
adjacent (p ∷ (q ∷ names)) h (suc k) d within = adjacent (q ∷ names) h.1 k d (omega arith)

sorted : (names : Names) → IsStrictlySortedBy name_cmp (texts names) →
    IsSortedBy (λ (a b : Bor (List ℕ)). is_lt (name_cmp a.now b.now)) names
sorted names h k d low within =
    let next : k + 1 ≡ suc k = omega arith in
    let less = adjacent names h k d (omega arith) in
    ap (λ n. is_lt (name_cmp (get_or names n d).now (get_or names k d).now)) next
    ∙ ap is_lt (nat_list_cmp_total.antisymm (get_or names (suc k) d).now (get_or names k d).now ∙ ap ordering_reverse less)

pub searchable : (names : Names) (q : List ℕ) → IsStrictlySortedBy name_cmp (texts names) →
    IsNonDecreasingBy (λ (name : Bor (List ℕ)). ordering_index (name_cmp name.now q)) names
searchable names q h = searchable_from_sorted nat_list_cmp_total (λ (name : Bor (List ℕ)). name.now) names q (sorted names h)

or_true : (b : Bool) → (b || true) ≡ true
or_true true = refl
or_true false = refl

equal_texts : (a q : List ℕ) → name_cmp a q ≡ Equal → bytes_eq q a ≡ true
equal_texts a q e = nat_list_eq_equiv.symm q a ∙ sym (is_eq-slice_cmp a q) ∙ ap is_eq e

pub found : (names : Names) (i : ℕ) (d : Bor (List ℕ)) (q : List ℕ) → i < length names →
    name_cmp (get_or names i d).now q ≡ Equal → list_any (bytes_eq q) (texts names) ≡ true
found [] i d q within e = absurd (omega arith)
found (p ∷ names) zero d q within e = ap (λ b. b || list_any (bytes_eq q) (texts names)) (equal_texts p.now q e)
found (p ∷ names) (suc i) d q within e =
    ap (λ b. bytes_eq q p.now || b) (found names i d q (omega arith) e) ∙ or_true (bytes_eq q p.now)

either_side : (k i : ℕ) → (k < i) ⊎ (i ≤ k)
either_side k zero = inr (omega arith)
either_side zero (suc i) = inl (omega arith)
either_side (suc k) (suc i) = elim (either_side k i) [
  | inl e ↦ inl (omega arith)
  | inr e ↦ inr (omega arith)
]

none_found : (names : Names) (q : List ℕ) →
    ((k : ℕ) (d : Bor (List ℕ)) → k < length names → bytes_eq q (get_or names k d).now ≡ false) →
    list_any (bytes_eq q) (texts names) ≡ false
none_found [] q h = refl
none_found (p ∷ names) q h =
    let first = h 0 p (omega arith) in
    let rest = none_found names q (λ k d within. h (suc k) d (omega arith)) in
    λ i. first i || rest i

other : (q n : List ℕ) (o : Ordering) → name_cmp n q ≡ o → is_eq o ≡ false → bytes_eq q n ≡ false
other q n o e none = nat_list_eq_equiv.symm q n ∙ sym (is_eq-slice_cmp n q) ∙ ap is_eq e ∙ none

pub not_found : (names : Names) (i : ℕ) (q : List ℕ) →
    IsPartitionPoint (λ (name : Bor (List ℕ)). name_cmp name.now q ≡ Less) (λ name. name_cmp name.now q ≡ Greater) names i →
    list_any (bytes_eq q) (texts names) ≡ false
not_found names i q parted =
    none_found names q (λ k d within. elim (either_side k i) [
      | inl less ↦ other q (get_or names k d).now Less (parted.0 k d (omega arith) less) refl
      | inr not_less ↦ other q (get_or names k d).now Greater (parted.1 k d not_less within) refl
    ])

-- ---- copies of the lines among them

abbrev is_of : List (List ℕ) → Line → Bool
is_of names line = list_any (bytes_eq line.requirement.name) names

pub one_more : (names : List (List ℕ)) (lines : List Line) (i : ℕ) (line : Line) (b : Bool) → i < length lines →
    line ≡ get_or lines i line → is_of names line ≡ b →
    lines_among names (take (i + 1) lines) ≡ lines_among names (take i lines) ++ cond b (line ∷ []) []
one_more names lines i line b within is e =
    filter_more (is_of names) lines i line within
    ∙ ap (λ l. lines_among names (take i lines) ++ cond (is_of names l) (l ∷ []) []) (sym is)
    ∙ ap (λ k. lines_among names (take i lines) ++ cond k (line ∷ []) []) e

pub copied_one : (names : List (List ℕ)) (lines copies : List Line) (i : ℕ) (line copy : Line) → i < length lines →
    line ≡ get_or lines i line → is_of names line ≡ true → AllZip IsLineCopy copies (lines_among names (take i lines)) →
    IsLineCopy copy line → AllZip IsLineCopy (copies ++ copy ∷ []) (lines_among names (take (i + 1) lines))
copied_one names lines copies i line copy within is e h one =
    subst (AllZip IsLineCopy (copies ++ copy ∷ [])) (sym (one_more names lines i line true within is e))
    (AllZip-push IsLineCopy copies (lines_among names (take i lines)) copy line h one)

pub passed_one : (names : List (List ℕ)) (lines copies : List Line) (i : ℕ) (line : Line) → i < length lines →
    line ≡ get_or lines i line → is_of names line ≡ false → AllZip IsLineCopy copies (lines_among names (take i lines)) →
    AllZip IsLineCopy copies (lines_among names (take (i + 1) lines))
passed_one names lines copies i line within is e h =
    subst (AllZip IsLineCopy copies)
    (sym (one_more names lines i line false within is e ∙ append-nil (lines_among names (take i lines)))) h

-- ---- which are read

less_kept_by : (n : ℕ) (b : Bool) (line : Line) (rest : List Line) → nat_cmp n line.number ≡ Less →
    AllByRecursion (λ m. nat_cmp n m ≡ Less) (map (λ line. line.number) rest) →
    AllByRecursion (λ m. nat_cmp n m ≡ Less) (map (λ line. line.number) (cond b (line ∷ rest) rest))
less_kept_by n true line rest one all = (one, all)
less_kept_by n false line rest one all = all

less_kept : (test : Line → Bool) (n : ℕ) (lines : List Line) →
    AllByRecursion (λ m. nat_cmp n m ≡ Less) (map (λ line. line.number) lines) →
    AllByRecursion (λ m. nat_cmp n m ≡ Less) (map (λ line. line.number) (filter test lines))
less_kept test n [] all = tt
less_kept test n (line ∷ lines) all =
    less_kept_by n (test line) line (filter test lines) all.0 (less_kept test n lines all.1)

rise_kept_by : (b : Bool) (line : Line) (rest : List Line) →
    AllByRecursion (λ m. nat_cmp line.number m ≡ Less) (map (λ line. line.number) rest) →
    IsStrictlySortedBy nat_cmp (map (λ line. line.number) rest) →
    IsStrictlySortedBy nat_cmp (map (λ line. line.number) (cond b (line ∷ rest) rest))
unfolding IsStrictlySortedBy
rise_kept_by true line rest less rise = (less, rise)
rise_kept_by false line rest less rise = rise

rise_kept : (test : Line → Bool) (lines : List Line) → IsStrictlySortedBy nat_cmp (map (λ line. line.number) lines) →
    IsStrictlySortedBy nat_cmp (map (λ line. line.number) (filter test lines))
unfolding IsStrictlySortedBy
rise_kept test [] rise = tt
rise_kept test (line ∷ lines) rise =
    rise_kept_by (test line) line (filter test lines) (less_kept test line.number lines rise.0)
    (rise_kept test lines rise.1)

pub among_are_read : (names : List (List ℕ)) (lines : List Line) → AreRead lines → AreRead (lines_among names lines)
among_are_read names lines are = record {
  rising = rise_kept (is_of names) lines are.rising;
  read = All-filter (is_of names) (λ line. All IsReadFromText (specifiers_in line)) lines are.read;
}
