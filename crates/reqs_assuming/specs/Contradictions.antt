-- The command `conflicts` where a condition holds, from the bytes of a list to those of its conflicts.
use Rattle.std.specs.Prelude.{◌≤◌, ◌⊎◌, ℕ, Bool, List, ◌∷◌, [], length, Option, Result}
use Rattle.pep508_url.specs.Vars.{Variables}
use Rattle.pep508_tree.specs.Meaning.{NodeRecord}
use Rattle.reqtable_assumption.specs.Where.{Condition}
use Rattle.reqs_json.specs.declared.format.Format.{Format}
use Rattle.reqs_io_faults.specs.declared.bounds.Bounds.{Bounds}
use Rattle.reqs_io_faults.specs.declared.fault.RunFault.{RunFault}
use Rattle.reqs_io_faults.specs.declared.fault.Status.{Status}
use Rattle.reqs_io_faults.specs.Ends.{Answering, Refusing, Runs}
use Rattle.reqs_io_faults.specs.Within.{RefusesOr}
use Rattle.reqs_lists.specs.Contradictions.{IsConflictsBy, HasTooManyWithin, OutgrowsOrCases}
use Rattle.reqs_lists.specs.Lists.{IsOfLists, IsRead, RefusesLists, PassesInFirst}
use Rattle.reqs_assuming.specs.Lists.{one_list_where}

-- the answer for the texts of lists, with at most `bounds.nodes` nodes
abbrev pub ConflictsAnswerWhere : Condition → Bool → Bounds → List NodeRecord → Format → ℕ → Variables
    → Answering
ConflictsAnswerWhere condition strict bounds nodes format limit vars inputs ended text =
    IsRead (one_list_where condition vars inputs)
    (λ lines. IsConflictsBy strict format limit bounds.cases lines ended text)
    × (length nodes ≤ bounds.nodes)

abbrev pub ConflictsRefuseWhere : Condition → Bounds → ℕ → Variables → Refusing
ConflictsRefuseWhere condition bounds limit vars inputs =
    RefusesLists (IsOfLists vars inputs) (HasTooManyWithin limit bounds.cases)
    (one_list_where condition vars inputs)

-- a bound was passed: at a line, or once the list was parsed
abbrev pub ConflictsPassWhere : Condition → Bounds → List NodeRecord → ℕ → Variables → Refusing
ConflictsPassWhere condition bounds nodes limit vars inputs fault =
    PassesInFirst vars bounds.nodes nodes inputs fault
    ⊎ IsRead (one_list_where condition vars inputs) (λ lines. OutgrowsOrCases bounds nodes limit lines fault)

-- `conflicts`, strict or not, ends with this result where the condition holds, for the bytes that its reader
-- has of the requirements, with these nodes afterwards
abbrev pub RunsConflictsWhere : {W : Type 0} → Condition → Bool → Bounds → List NodeRecord → Format → ℕ
    → Variables → Option (List ℕ) → (W → Option (List ℕ)) → W → W → Result Status RunFault → Type 0
RunsConflictsWhere condition strict bounds nodes format limit vars requirements contents old new result =
    Runs (ConflictsAnswerWhere condition strict bounds nodes format limit vars)
    (RefusesOr (ConflictsPassWhere condition bounds nodes limit vars)
    (ConflictsRefuseWhere condition bounds limit vars)) (requirements ∷ []) contents old new result
