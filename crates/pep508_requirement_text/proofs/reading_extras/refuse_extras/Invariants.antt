use Rattle.pep508_error.specs.Cursors.{IsBehind}
use Rattle.pep508_requirement_text.proofs.reading_extras.refuse_extras.Given as goal

abbrev pub invariant-loop : goal.invariant-loop
invariant-loop l = IsBehind l.opening l.place
