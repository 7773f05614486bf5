-- Whether a row is `none`, which a strict command's status says.
use Rattle.std.specs.Prelude.{Bool, true, false, List}
use Rattle.std.specs.List.{list_any}
use Rattle.reqtable_answer.specs.declared.answer.Outcome.{Outcome}
use Rattle.reqtable_answer.specs.declared.answer.Outcome.TheVariants.{Taken, Nothing, Direct}
use Rattle.reqtable_answer.specs.Answer.{RowRecord}

-- no candidate is selected
abbrev pub is_nothing : Outcome → Bool
is_nothing (Taken place) = false
is_nothing Nothing = true
is_nothing Direct = false

-- one of the rows is `none`
abbrev pub has_none : List RowRecord → Bool
has_none rows = list_any (λ row. is_nothing row.outcome) rows
