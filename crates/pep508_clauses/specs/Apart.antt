-- By which words clauses begin, and which of them begin otherwise than all others.
use Rattle.std.specs.Prelude.{◌≡◌, ℕ, ◌==◌, Bool, true, false, not, List, [], ◌∷◌}
use Rattle.std.specs.List.{list_any}
use Rattle.pep508_clauses.specs.Sparing.{has}

module _ {T : Type 0} (literal : T → ℕ) where
  -- whether a clause begins by a term of this word; one without terms does by any
  abbrev pub begins : ℕ → List T → Bool
  begins word [] = true
  begins word (term ∷ later) = literal term == word

  -- but for some words no two clauses begin by one
  abbrev pub BeginApart : (ℕ → Bool) → List (List T) → Type 0
  BeginApart common [] = Unit {0}
  BeginApart common (clause ∷ later) =
      ((word : ℕ) → common word ≡ false → begins word clause ≡ true → list_any (begins word) later ≡ false)
      × BeginApart common later

  -- whether a clause has one term, of none of these words
  abbrev pub stands_apart : (ℕ → Bool) → List T → Bool
  stands_apart common [] = false
  stands_apart common (term ∷ []) = not (common (literal term))
  stands_apart common (term ∷ next ∷ later) = false

-- a word was added to those that were seen, and to the common ones where it was among the seen ones
pub record AddsWord (seen common : List ℕ) (word : ℕ) (now_seen now_common : List ℕ) : Type 0 where
  pub still_seen : (other : ℕ) → has seen other ≡ true → has now_seen other ≡ true
  pub is_seen : has now_seen word ≡ true
  pub still_common : (other : ℕ) → has common other ≡ true → has now_common other ≡ true
  pub is_common : has seen word ≡ true → has now_common word ≡ true
