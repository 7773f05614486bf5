use Rattle.std.proofs.Common.{ap}
use Rattle.pep508_marker_text_laws.specs.MarkerText.{disjunction, marker_text}
use Rattle.pep508_marker_text_laws.proofs.Spelled.{one_spelling}
use Rattle.pep508_marker_text_laws.proofs.laws.one_meaning_has_one_text.Goals as goal

pub returns-clause-clauses : goal.returns-clause-clauses
returns-clause-clauses c d e canonical other short other_short agree =
    ap disjunction (one_spelling d e canonical other short other_short agree)

pub returns-clause-text : goal.returns-clause-text
returns-clause-text c d e canonical other short other_short agree =
    ap marker_text (one_spelling d e canonical other short other_short agree)
