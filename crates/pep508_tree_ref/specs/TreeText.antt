-- The print of a tree with its interner.
use Rattle.std.specs.Prelude.{ℕ, List, codes, unwrap_or}
use Rattle.pep508_diagram.specs.Diagram.{Diagram}
use Rattle.pep508_diagram.specs.Question.{Question}
use Rattle.pep508_marker_text_laws.specs.MarkerText.{marker_text}

-- the text of a diagram, and `true` for what always holds, which has none
abbrev pub tree_text : Diagram Question → List ℕ
tree_text diagram = unwrap_or (marker_text diagram) (codes "true")
