use Rattle.std.proofs.Common.{◌++◌, take}
use Rattle.std.specs.Fmt.{HasWritten, IsPlainFormatter}
use Rattle.std.specs.List.{flat_map}
use Rattle.pep508_marker.specs.Expression.{expression_of, expression_text}
use Rattle.pep508_clauses.specs.Texts.{and_term}
use Rattle.pep508_clauses.proofs.clause_text.JoinedDisplay.fmt.Given as goal

abbrev pub invariant-loop-term : goal.invariant-loop-term
invariant-loop-term g l =
    IsPlainFormatter l.fn.f → HasWritten g.W.Write.write_str_gives l.fn.f
    (expression_text (expression_of l.fn.self.first.now) ++ flat_map and_term (take l.term-index l.term-items)) l.f
