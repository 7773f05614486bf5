-- The lines of lists where a condition holds.
use Rattle.std.specs.Prelude.{ℕ, List, Result, Ok}
use Rattle.pep508_url.specs.Vars.{Variables}
use Rattle.reqtable_requirements.specs.LineReading.{LineRecord}
use Rattle.reqtable_assumption.specs.Where.{Condition, lines_where}
use Rattle.reqs_io_faults.specs.Faults.{Cause}
use Rattle.reqs_io_faults.specs.Inputs.{◌>>=◌}
use Rattle.reqs_lists.specs.Comparison.{Lists}
use Rattle.reqs_lists.specs.Lists.{one_list, two_lists}

-- the lines of one list where the condition holds
abbrev pub one_list_where : Condition → Variables → List (List ℕ) → Result (List LineRecord) Cause
one_list_where condition vars inputs = one_list vars inputs >>= λ lines. Ok (lines_where condition lines)

abbrev pub both_where : Condition → Lists → Lists
both_where condition lists = (lines_where condition lists.0, lines_where condition lists.1)

-- the lines of two lists where it holds
abbrev pub two_lists_where : Condition → Variables → List (List ℕ) → Result Lists Cause
two_lists_where condition vars inputs = two_lists vars inputs >>= λ lists. Ok (both_where condition lists)
