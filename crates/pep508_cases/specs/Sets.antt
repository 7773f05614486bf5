-- Sets of trees by their runs.
use Rattle.std.specs.Prelude.{ℕ, suc, ◌++◌, ◌&&◌, ◌||◌, ◌∷◌, [], List, Bool, true, false, not, replicate}
use Rattle.std.specs.Prelude.{cond, length, Option, Some, None}
use Rattle.std.specs.declared.cmp.Ordering.{Ordering}
use Rattle.std.specs.declared.cmp.Ordering.TheVariants.{Less, Greater}
use Rattle.pep508_cases.specs.Cases.{Marks}
use Rattle.pep508_cases.specs.declared.set.Rest.{Rest}

-- the marks of a set by its runs, the first of which is of trees with this mark: each run is one longer than
-- its number, and after each the other mark comes
abbrev pub marks_by : Bool → List ℕ → Marks
marks_by mark [] = []
marks_by mark (run ∷ runs) = replicate (suc run) mark ++ marks_by (not mark) runs

-- the mark of the run after some runs, the first of which has this mark
abbrev pub mark_after : Bool → List ℕ → Bool
mark_after mark [] = mark
mark_after mark (run ∷ runs) = mark_after (not mark) runs

-- the elements of a list that are marked
abbrev pub marked : {A : Type 0} → Marks → List A → List A
marked [] xs = []
marked (b ∷ marks) [] = []
marked (true ∷ marks) (x ∷ xs) = x ∷ marked marks xs
marked (false ∷ marks) (x ∷ xs) = marked marks xs

-- two sets have a common member
abbrev pub marks_meet : Marks → Marks → Bool
marks_meet [] others = false
marks_meet (b ∷ marks) [] = false
marks_meet (b ∷ marks) (c ∷ others) = (b && c) || marks_meet marks others

-- the places of the marks that are set, counted from one on
abbrev pub places_from : ℕ → Marks → List ℕ
places_from at [] = []
places_from at (true ∷ marks) = at ∷ places_from (suc at) marks
places_from at (false ∷ marks) = places_from (suc at) marks

abbrev pub places_of : Marks → List ℕ
places_of = places_from 0

-- how a set compares with another whose run of this mark goes on where its own has ended, by whether it has
-- more trees
abbrev pub ended_cmp : Bool → Bool → Ordering
ended_cmp mark more = cond (mark && more) Greater Less

-- the marks of what is left of a set's runs, and the number of these
abbrev pub rest_marks : Option Rest → Marks
rest_marks None = []
rest_marks (Some rest) = marks_by rest.mark (rest.run ∷ rest.later.now)

abbrev pub rest_runs : Option Rest → ℕ
rest_runs None = 0
rest_runs (Some rest) = suc (length rest.later.now)
