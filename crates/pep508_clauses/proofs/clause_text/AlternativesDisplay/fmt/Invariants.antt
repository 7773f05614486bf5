use Rattle.std.proofs.Common.{◌++◌, take}
use Rattle.std.specs.Fmt.{HasWritten, IsPlainFormatter}
use Rattle.std.specs.List.{flat_map}
use Rattle.pep508_marker_text_laws.specs.MarkerText.{bracketed_text}
use Rattle.pep508_clauses.specs.Terms.{clause_of}
use Rattle.pep508_clauses.specs.Texts.{or_clause}
use Rattle.pep508_clauses.proofs.clause_text.AlternativesDisplay.fmt.Given as goal

abbrev pub invariant-loop-clause : goal.invariant-loop-clause
invariant-loop-clause g l =
    IsPlainFormatter l.fn.f → HasWritten g.W.Write.write_str_gives l.fn.f
    (bracketed_text (clause_of l.fn.self.first.now) ++ flat_map or_clause (take l.clause-index l.clause-items)) l.f
