-- When clauses hold, and truths of terms under which negations negate.
use Rattle.std.specs.Prelude.{◌≡◌, Bool, true, not, List}
use Rattle.std.specs.List.{list_all, list_any}

module _ {T : Type 0} where
  -- all terms of some clause hold
  abbrev pub one_holds : (T → Bool) → List (List T) → Bool
  one_holds truth clauses = list_any (list_all truth) clauses

  -- a truth of terms: equal ones hold together, and of a term and its negation just one holds
  pub record IsTruth (same opposite : T → T → Bool) (truth : T → Bool) : Type 0 where
    pub alike : (term other : T) → same term other ≡ true → truth term ≡ truth other
    pub contrary : (term other : T) → opposite term other ≡ true → truth other ≡ not (truth term)
