-- The query of a table: the nodes of an interner, the valuation of an environment with extras, the
-- candidates, and the format of the rows.
use Rattle.std.specs.Prelude.{List}
use Rattle.pep508_diagram.specs.Question.{Valuation}
use Rattle.pep508_evaluation.specs.Valuations.{valuation_of}
use Rattle.pep508_tree.specs.Meaning.{NodeRecord}
use Rattle.reqtable_candidates.specs.declared.candidates.Candidate.{Candidate}
use Rattle.reqs_json.specs.declared.format.Format.{Format}
use Rattle.reqs_rows.specs.declared.row_query.Asked.{Asked}

abbrev pub nodes_in : Asked → List NodeRecord
nodes_in asked = asked.interner.now.nodes

abbrev pub valuation_in : Asked → Valuation
valuation_in asked = valuation_of asked.environment.now asked.extras.now

abbrev pub candidates_in : Asked → List Candidate
candidates_in asked = asked.candidates.now

abbrev pub format_in : Asked → Format
format_in asked = asked.format
