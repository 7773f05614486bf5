-- Of what kinds the questions between boundaries are.
use Rattle.std.proofs.Common.{◌≡◌, ◌⊎◌, ℕ, ◌<◌, ◌==◌, ◌^◌, ◌||◌, Bool, true, false, not, nat_lt, List, []}
use Rattle.std.proofs.Common.{◌∷◌, map, length, get_or, suc, refl, sym, ap, ap₂, ◌∙◌, arith, inl, inr}
use Rattle.std.proofs.lemmas.Bool.{cases_Bool, lt-ltb}
use Rattle.std.specs.Cmp.{unsigned_Decides}
use Rattle.std.specs.List.{list_any}
use Rattle.version_ranges.specs.declared.boundary.Boundary.{Boundary}
use Rattle.pep440_text.specs.Record.{VersionRecord}
use Rattle.pep508_marker.specs.declared.keys.MarkerValueString.{MarkerValueString}
use Rattle.pep508_marker.specs.Keys.{is_deprecated}
use Rattle.pep508_diagram.specs.declared.branch.Branch.{Branch}
use Rattle.pep508_diagram.specs.declared.variable.VersionVariable.{VersionVariable}
use Rattle.pep508_diagram.specs.Question.{Question, VersionBelow, TextBelow}
use Rattle.pep508_tree.specs.Tree.{Tree}
use Rattle.pep508_questions.specs.Asks.{stands_at, is_quoted, is_other_version, has_quote}
use Rattle.pep508_questions.specs.Asks.{is_of_deprecated_key, is_other_bound}
use Rattle.pep508_questions.specs.Looked.{asked_among}
use Rattle.pep508_questions.proofs.Walking.{asked_same}

module _ {T : Type 0} (test : Question → Bool) (ask : Boundary T → Question) where
  -- none of the questions passes the test
  none_asked : ((b : Boundary T) → test (ask b) ≡ false) → (later : List (Branch T Tree)) →
      list_any test (map (λ branch. ask branch.boundary) later) ≡ false
  none_asked none [] = refl
  none_asked none (branch ∷ later) = ap₂ (λ a b. a || b) (none branch.boundary) (none_asked none later)

  -- a boundary passes one where its question does
  by_boundary : (at : Boundary T → Bool) → ((b : Boundary T) → test (ask b) ≡ at b) →
      (later : List (Branch T Tree)) → list_any test (map (λ branch. ask branch.boundary) later)
      ≡ list_any (λ branch. at branch.boundary) later
  by_boundary at same [] = refl
  by_boundary at same (branch ∷ later) =
      ap₂ (λ a b. a || b) (same branch.boundary) (by_boundary at same later)

pub versions_asked : (key : VersionVariable) (later : List (Branch VersionRecord Tree)) (other : Bool) →
    other ≡ list_any (λ branch. stands_at is_other_version branch.boundary) later →
    record { single_quote = false; deprecated_key = false; other_bound = other }
    ≡ asked_among (map (λ branch. VersionBelow key branch.boundary) later)
versions_asked key later other is =
    asked_same _ _ (sym (none_asked has_quote (VersionBelow key) (λ b. refl) later))
    (sym (none_asked is_of_deprecated_key (VersionBelow key) (λ b. refl) later))
    (is ∙ sym (by_boundary is_other_bound (VersionBelow key) (stands_at is_other_version) (λ b. refl) later))

-- where there is a boundary the key is asked of
old_key : (key : MarkerValueString) (later : List (Branch (List ℕ) Tree)) → is_deprecated key ≡ true →
    not (length later == 0)
    ≡ list_any is_of_deprecated_key (map (λ branch. TextBelow key branch.boundary) later)
old_key key [] old = refl
old_key key (branch ∷ later) old =
    ap not (some (cases_Bool (length (branch ∷ later) == 0)))
    ∙ sym (ap (λ b. b || list_any is_of_deprecated_key (map (λ branch. TextBelow key branch.boundary) later))
    old)
  where
    some : ((length (branch ∷ later) == 0) ≡ true) ⊎ ((length (branch ∷ later) == 0) ≡ false) →
        (length (branch ∷ later) == 0) ≡ false
    some (inl e) =
        let none : length (branch ∷ later) ≡ 0 = (unsigned_Decides (length (branch ∷ later)) 0).0 e in
        absurd (omega arith)
    some (inr e) = e

pub texts_asked : (key : MarkerValueString) (later : List (Branch (List ℕ) Tree)) (quote old : Bool) →
    quote ≡ list_any (λ branch. stands_at is_quoted branch.boundary) later →
    old ≡ list_any is_of_deprecated_key (map (λ branch. TextBelow key branch.boundary) later) →
    record { single_quote = quote; deprecated_key = old; other_bound = false }
    ≡ asked_among (map (λ branch. TextBelow key branch.boundary) later)
texts_asked key later quote old is old_is =
    asked_same _ _
    (is ∙ sym (by_boundary has_quote (TextBelow key) (stands_at is_quoted) (λ b. refl) later))
    old_is
    (sym (none_asked is_other_bound (TextBelow key) (λ b. refl) later))

pub old_texts : (key : MarkerValueString) (later : List (Branch (List ℕ) Tree)) (empty : Bool) →
    is_deprecated key ≡ true → empty ≡ (length later == 0) →
    not empty ≡ list_any is_of_deprecated_key (map (λ branch. TextBelow key branch.boundary) later)
old_texts key later empty old is = ap not is ∙ old_key key later old

pub modern_texts : (key : MarkerValueString) (later : List (Branch (List ℕ) Tree)) →
    is_deprecated key ≡ false →
    false ≡ list_any is_of_deprecated_key (map (λ branch. TextBelow key branch.boundary) later)
modern_texts key later modern = sym (none_asked is_of_deprecated_key (TextBelow key) (λ b. modern) later)

-- numbers of 64 bits
pub numbers_small : (numbers : List ℕ) → ((k : ℕ) → get_or numbers k 0 < 2 ^ 64) →
    list_any (λ number. not (nat_lt number (2 ^ 64))) numbers ≡ false
numbers_small [] each = refl
numbers_small (number ∷ numbers) each =
    ap₂ (λ a b. a || b) (ap not (lt-ltb number (2 ^ 64) (each 0))) (numbers_small numbers (λ k. each (suc k)))
