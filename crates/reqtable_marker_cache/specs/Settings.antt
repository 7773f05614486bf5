-- Where markers are evaluated: the nodes of an interner, and the valuation of an environment with extras.
use Rattle.std.specs.Prelude.{List}
use Rattle.pep508_diagram.specs.Question.{Valuation}
use Rattle.pep508_evaluation.specs.Valuations.{valuation_of}
use Rattle.pep508_tree.specs.Meaning.{NodeRecord}
use Rattle.reqtable_marker_cache.specs.declared.setting.Setting.{Setting}

abbrev pub nodes_in : Setting → List NodeRecord
nodes_in setting = setting.interner.now.nodes

abbrev pub valuation_in : Setting → Valuation
valuation_in setting = valuation_of setting.environment.now setting.extras.now
