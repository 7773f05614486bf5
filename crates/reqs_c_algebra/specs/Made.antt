-- The reply with the normal text of a marker that is derived from another one (PEP 508, "Environment
-- Markers").
use Rattle.std.specs.Prelude.{◌≡◌, not, ℕ, List}
use Rattle.pep508_diagram.specs.Question.{Valuation}
use Rattle.reqs_c_reply.specs.Endings.{Ending}
use Rattle.reqs_c_markers.specs.declared.bounds.Bounds.{Bounds}
use Rattle.reqs_c_markers.specs.Markers.{Wants, marker_holds, TextEnds}

-- the values are true where the marker doesn't hold
abbrev pub HoldsElsewhere : Wants
HoldsElsewhere marker value = (v : Valuation) → value v ≡ not (marker_holds marker v)

-- how a call for the normal text of a marker's negation ends
abbrev pub NegatedEnds : Bounds → List ℕ → Ending → Type 0
NegatedEnds bounds bytes = TextEnds bounds bytes HoldsElsewhere
