-- How many clauses a diagram has.
use Rattle.std.specs.Prelude.{ℕ, Bool, true, false, List, ◌++◌, map, length, ◌||◌}
use Rattle.std.specs.List.{filter}
use Rattle.pep508_diagram.specs.Diagram.{Diagram}
use Rattle.pep508_diagram.specs.Question.{Question}
use Rattle.pep508_marker_text_laws.specs.Clauses.{clauses_of}
use Rattle.pep508_marker_text_laws.specs.Simplified.{has_some}

-- the number of its clauses before they are simplified; one without terms is none
abbrev pub clause_count : Diagram Question → ℕ
clause_count diagram = length (filter has_some (clauses_of diagram))
