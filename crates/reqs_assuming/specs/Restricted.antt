-- Parsed lists where a condition holds, within a bound on the nodes of their trees.
use Rattle.std.specs.Prelude.{◌≤◌, ◌⊎◌, ℕ, List, length, Result, Ok, Err}
use Rattle.std.specs.List.{AllZip}
use Rattle.pep508_url.specs.Vars.{Variables}
use Rattle.pep508_tree.specs.Meaning.{NodeRecord}
use Rattle.reqtable_requirements.specs.Requirements.{StandsFor}
use Rattle.reqtable_requirements.specs.declared.requirements.Line.{Line}
use Rattle.reqtable_assumption.specs.Where.{Condition}
use Rattle.reqs_io_faults.specs.declared.fault.RunFault.{RunFault}
use Rattle.reqs_io_faults.specs.Faults.{Cause, Refuses}
use Rattle.reqs_io_faults.specs.Within.{Outgrows}
use Rattle.reqs_lists.specs.Comparison.{Lists}
use Rattle.reqs_lists.specs.Lists.{IsOfLists, IsRead, PassesInFirst, PassesInEither}
use Rattle.reqs_assuming.specs.declared.assumed.BothLists.{BothLists}
use Rattle.reqs_assuming.specs.Lists.{one_list_where, two_lists_where}

-- no list is given: one can't be parsed, or a bound was passed, at a line or once the lists were parsed
abbrev pub NoneWhere : {A : Type 0} → (RunFault → Type 0) → (RunFault → Type 0) → ℕ → List NodeRecord
    → Result A Cause → RunFault → Type 0
NoneWhere IsOne PassesAtLine most nodes lists fault =
    Refuses IsOne fault lists ⊎ (PassesAtLine fault ⊎ IsRead lists (λ read. Outgrows most nodes fault))

-- the parsed lines of one list where the condition holds
abbrev pub ReadsOneWhere : Condition → Variables → ℕ → List NodeRecord → List (List ℕ)
    → Result (List Line) RunFault → Type 0
ReadsOneWhere condition vars most nodes inputs (Ok lines) =
    IsRead (one_list_where condition vars inputs) (λ said. AllZip (StandsFor vars nodes) lines said)
    × (length nodes ≤ most)
ReadsOneWhere condition vars most nodes inputs (Err fault) =
    NoneWhere (IsOfLists vars inputs) (PassesInFirst vars most nodes inputs) most nodes
    (one_list_where condition vars inputs) fault

-- those of two lists
abbrev pub StandForBoth : Variables → List NodeRecord → BothLists → Lists → Type 0
StandForBoth vars nodes both said =
    AllZip (StandsFor vars nodes) both.left said.0 × AllZip (StandsFor vars nodes) both.right said.1

abbrev pub ReadsBothWhere : Condition → Variables → ℕ → List NodeRecord → List (List ℕ)
    → Result BothLists RunFault → Type 0
ReadsBothWhere condition vars most nodes inputs (Ok both) =
    IsRead (two_lists_where condition vars inputs) (StandForBoth vars nodes both) × (length nodes ≤ most)
ReadsBothWhere condition vars most nodes inputs (Err fault) =
    NoneWhere (IsOfLists vars inputs) (PassesInEither vars most nodes inputs) most nodes
    (two_lists_where condition vars inputs) fault
