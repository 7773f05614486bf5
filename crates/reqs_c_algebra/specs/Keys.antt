-- The reply with the key of a marker (PEP 508, "Environment Markers").
use Rattle.std.specs.Prelude.{◌≡◌, ℕ, List}
use Rattle.pep508_diagram.specs.Diagram.{Diagram}
use Rattle.pep508_diagram.specs.Question.{Question, Valuation, truth, IsCanonical}
use Rattle.pep508_marker_key.specs.Key.{diagram_key}
use Rattle.reqs_c_reply.specs.Endings.{Ending, EndsIn}
use Rattle.reqs_c_markers.specs.Markers.{RefusesTree}
use Rattle.reqs_c_algebra.specs.Relations.{Values, SaysOf}

-- the text is the key of a diagram that has no needless question and these values
pub record IsKeyOf (value : Values) (text : List ℕ) : Type 0 where
  pub diagram : Diagram Question
  pub canonical : IsCanonical diagram
  pub means : (v : Valuation) → truth diagram v ≡ value v
  pub is_key : text ≡ diagram_key diagram

-- the text is the key of the marker in these bytes, which has a tree of at most `most` nodes
abbrev pub GivesKey : ℕ → List ℕ → List ℕ → Type 0
GivesKey most bytes = SaysOf most bytes IsKeyOf

-- how a call for the key of a marker ends
abbrev pub KeyEnds : ℕ → List ℕ → Ending → Type 0
KeyEnds most bytes = EndsIn (GivesKey most bytes) (RefusesTree 1 most bytes)
