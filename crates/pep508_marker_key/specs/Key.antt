-- The key of a marker's meaning (PEP 508, "Environment Markers"): the bytes of its diagram.
use Rattle.std.specs.Prelude.{◌≡◌, ◌↔◌, ℕ, List, [], ◌++◌, None}
use Rattle.pep440_key.specs.Key.{component_bytes, version_bytes}
use Rattle.pep508_diagram.specs.Diagram.{Diagram}
use Rattle.pep508_diagram.specs.Question.{Question, Valuation, place_of, version_boundaries, text_boundaries}
use Rattle.pep508_diagram.specs.Question.{marker, truth, IsCanonical}
use Rattle.pep508_marker_key.specs.Told.{listed_bytes, boundary_bytes}
use Rattle.pep508_marker_key.specs.Walk.{written}

-- a question: the rank of its variable, and its endpoint, of a version or of a text
unfoldable pub question_bytes : Question → List ℕ
question_bytes q =
    component_bytes (place_of q)
    ++ (listed_bytes (boundary_bytes version_bytes) (version_boundaries q)
    ++ listed_bytes (boundary_bytes component_bytes) (text_boundaries q))

-- the key of a diagram
unfoldable pub diagram_key : Diagram Question → List ℕ
diagram_key diagram = (written marker question_bytes None [] diagram).bytes

-- keys are the same exactly where the diagrams hold under the same valuations
abbrev pub OneKey : Type 0
OneKey = (d e : Diagram Question) → IsCanonical d → IsCanonical e →
    (diagram_key d ≡ diagram_key e) ↔ ((v : Valuation) → truth d v ≡ truth e v)
