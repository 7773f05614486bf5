-- The command `same` where a condition holds, from the bytes of two lists to those of its answer.
use Rattle.std.specs.Prelude.{◌≤◌, ◌⊎◌, ℕ, List, ◌∷◌, [], length, Option, Result}
use Rattle.pep508_url.specs.Vars.{Variables}
use Rattle.pep508_tree.specs.Meaning.{NodeRecord}
use Rattle.reqtable_assumption.specs.Where.{Condition}
use Rattle.reqs_json.specs.declared.format.Format.{Format}
use Rattle.reqs_io_faults.specs.declared.bounds.Bounds.{Bounds}
use Rattle.reqs_io_faults.specs.declared.fault.RunFault.{RunFault}
use Rattle.reqs_io_faults.specs.declared.fault.Status.{Status}
use Rattle.reqs_io_faults.specs.Ends.{Answering, Refusing, Runs}
use Rattle.reqs_io_faults.specs.Within.{RefusesOr}
use Rattle.reqs_lists.specs.Comparison.{IsFewSame, CantBeWithin, OutgrowsOrLong}
use Rattle.reqs_lists.specs.Lists.{IsOfLists, IsRead, RefusesLists, PassesInEither}
use Rattle.reqs_assuming.specs.Lists.{two_lists_where}

-- the answer for the texts of lists, with at most `bounds.nodes` nodes
abbrev pub SameAnswersWhere : Condition → Bounds → List NodeRecord → Format → ℕ → Variables → Answering
SameAnswersWhere condition bounds nodes format limit vars inputs ended text =
    IsRead (two_lists_where condition vars inputs)
    (λ lists. IsFewSame format limit bounds.clauses lists ended text)
    × (length nodes ≤ bounds.nodes)

-- why lists are refused; `covers` refuses them for the same
abbrev pub SameRefusesWhere : Condition → Bounds → ℕ → Variables → Refusing
SameRefusesWhere condition bounds limit vars inputs =
    RefusesLists (IsOfLists vars inputs) (CantBeWithin limit bounds.cases)
    (two_lists_where condition vars inputs)

-- a bound was passed: at a line, or once lists were parsed
abbrev pub SamePassesWhere : Condition → Bounds → List NodeRecord → ℕ → Variables → Refusing
SamePassesWhere condition bounds nodes limit vars inputs fault =
    PassesInEither vars bounds.nodes nodes inputs fault
    ⊎ IsRead (two_lists_where condition vars inputs) (λ lists. OutgrowsOrLong bounds nodes limit lists fault)

-- `same` ends with this result where the condition holds, for the bytes that its readers have of the left and
-- the right list, with these nodes afterwards
abbrev pub RunsSameWhere : {W : Type 0} → Condition → Bounds → List NodeRecord → Format → ℕ → Variables
    → Option (List ℕ) → Option (List ℕ) → (W → Option (List ℕ)) → W → W → Result Status RunFault → Type 0
RunsSameWhere condition bounds nodes format limit vars left right contents old new result =
    Runs (SameAnswersWhere condition bounds nodes format limit vars)
    (RefusesOr (SamePassesWhere condition bounds nodes limit vars)
    (SameRefusesWhere condition bounds limit vars)) (left ∷ right ∷ []) contents old new result
