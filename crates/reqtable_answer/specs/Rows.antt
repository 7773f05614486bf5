-- What holds of the rows of an answer.
use Rattle.std.specs.Prelude.{ℕ, ◌<◌}
use Rattle.reqtable_answer.specs.declared.answer.Outcome.{Outcome}
use Rattle.reqtable_answer.specs.declared.answer.Outcome.TheVariants.{Taken, Nothing, Direct}
use Rattle.reqtable_answer.specs.declared.answer.Row.{Row}
use Rattle.reqtable_answer.specs.Answer.{RowRecord}

abbrev pub row_seen : Row → RowRecord
row_seen row = record { name = row.package; extras = row.extras.items; outcome = row.outcome }

-- a selected candidate is among the first `count`
abbrev pub IsTakenBelow : ℕ → Outcome → Type 0
IsTakenBelow count (Taken place) = place < count
IsTakenBelow count Nothing = Unit {0}
IsTakenBelow count Direct = Unit {0}
