use Rattle.std.proofs.Common.{ap, sym, ◌∙◌}
use Rattle.pep508_marker_parser.specs.MarkerReading.{run_ends}
use Rattle.pep508_marker_parser.proofs.word.ends_run.Goals as goal

pub returns-in-Some : goal.returns-in-Some
returns-in-Some c = c.is_whitespace.ensures ∙ sym (ap run_ends c.in-Some.ensures.cases)

pub returns-in-None : goal.returns-in-None
returns-in-None c = sym (ap run_ends c.in-None.ensures.cases)
