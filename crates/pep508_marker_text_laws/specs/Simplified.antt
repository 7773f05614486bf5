-- Clauses without terms that the other clauses make needless, and without needless clauses. Each removal
-- keeps the meaning of the disjunction.
use Rattle.std.specs.Prelude.{◌&&◌, ◌||◌, not, Bool, true, false, cond, List, [], ◌∷◌, ◌++◌}
use Rattle.std.specs.List.{list_all, list_any}

-- the elements without those that a test drops, in order: it looks at the element and at the others that
-- are still there
abbrev pub sifted : {A : Type 0} → (A → List A → Bool) → List A → List A → List A
sifted drops kept [] = kept
sifted drops kept (x ∷ later) =
    cond (drops x (kept ++ later)) (sifted drops kept later) (sifted drops (kept ++ (x ∷ [])) later)

abbrev pub has_some : {A : Type 0} → List A → Bool
has_some [] = false
has_some (x ∷ xs) = true

module _ {T : Type 0} (same opposite : T → T → Bool) where
  -- whether a clause contains a term
  abbrev pub stands_in : List T → T → Bool
  stands_in clause term = list_any (same term) clause

  -- whether a clause makes the term needless: it doesn't contain it, and consists of negations of it and of
  -- terms around it
  abbrev pub spares : T → List T → List T → Bool
  spares term rest clause =
      list_all (λ other. not (same term other) && (opposite term other || stands_in rest other)) clause

  -- whether a term among others in its clause is needless because of other clauses
  abbrev pub is_needless : List (List T) → T → List T → Bool
  is_needless others term rest = has_some rest && list_any (spares term rest) others

  -- the clauses, one after another, without their needless terms; those in front are done already
  abbrev pub shortened_behind : List (List T) → List (List T) → List (List T)
  shortened_behind done [] = done
  shortened_behind done (clause ∷ later) =
      shortened_behind (done ++ (sifted (is_needless (done ++ later)) [] clause ∷ [])) later

  -- whether a clause contains all terms of some other clause
  abbrev pub is_covered : List T → List (List T) → Bool
  is_covered clause others = list_any (λ other. list_all (stands_in clause) other) others

  -- the clauses without their needless terms, and then without those that others cover
  abbrev pub simplified : List (List T) → List (List T)
  simplified clauses = sifted is_covered [] (shortened_behind [] clauses)
