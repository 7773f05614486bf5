-- The questions of marker trees about environments and extras (PEP 508, "Environment Markers"): whether the
-- version or the text of a key lies below an endpoint; and whether texts occur in one another, and extras
-- are present.
use Rattle.std.specs.Prelude.{◌≡◌, ℕ, ◌+◌, ◌==◌, Bool, true, false, not, cond, List, [], ◌∷◌}
use Rattle.std.specs.declared.cmp.Ordering.{Ordering}
use Rattle.std.specs.Ordering.{is_eq, on, then_cmp}
use Rattle.std.specs.Cmp.Lexicographic.{slice_cmp}
use Rattle.version_ranges.specs.declared.boundary.Boundary.{Boundary}
use Rattle.version_ranges.specs.Boundaries.{point_of, boundary_cmp}
use Rattle.version_ranges.specs.Point.{Point, BelowAll, point_cmp}
use Rattle.version_ranges.specs.Turns.{reaches}
use Rattle.pep440_text.specs.Record.{VersionRecord}
use Rattle.pep440_version.specs.Order.{version_cmp}
use Rattle.pep508_marker.specs.declared.keys.MarkerValueString.{MarkerValueString}
use Rattle.pep508_marker.specs.Keys.{text_key_rank}
use Rattle.pep508_diagram.specs.declared.variable.VersionVariable.{VersionVariable}
use Rattle.pep508_diagram.specs.declared.variable.VersionVariable.TheVariants.{ImplementationVersion}
use Rattle.pep508_diagram.specs.declared.variable.VersionVariable.TheVariants.{PythonFullVersion}
use Rattle.pep508_diagram.specs.declared.variable.Flag.{Flag}
use Rattle.pep508_diagram.specs.declared.variable.Flag.TheVariants.{In, Contains, Extra, Arbitrary}
use Rattle.pep508_diagram.specs.Text.{text_cmp}
use Rattle.pep508_diagram.specs.Diagram.{Diagram, Asking, truth_by, IsAlike, IsCanonicalBy}

-- a question: the version, or the text, lies below an endpoint; the flag is set
pub data Question : Type 0 where
  VersionBelow : VersionVariable → Boundary VersionRecord → Question
  TextBelow : MarkerValueString → Boundary (List ℕ) → Question
  IsSet : Flag → Question

-- a point for each key whose values are versions, one for each key whose values are texts, and a truth for
-- each flag, all independent of one another
pub record Valuation : Type 0 where
  pub version : VersionVariable → Point VersionRecord
  pub text : MarkerValueString → Point (List ℕ)
  pub flag : Flag → Bool

-- ---- the order of variables: keys of versions, keys of texts, texts in which the key's text occurs, texts
-- that occur in it, names of extras, and other texts of extras

abbrev pub version_rank : VersionVariable → ℕ
version_rank ImplementationVersion = 0
version_rank PythonFullVersion = 1

abbrev pub text_rank : MarkerValueString → ℕ
text_rank key = 2 + text_key_rank key

abbrev pub flag_rank : Flag → ℕ
flag_rank (In key text) = 16 + text_key_rank key
flag_rank (Contains key text) = 30 + text_key_rank key
flag_rank (Extra name) = 44
flag_rank (Arbitrary text) = 45

-- the text that a flag is about
abbrev pub flag_text : Flag → List ℕ
flag_text (In key text) = text
flag_text (Contains key text) = text
flag_text (Extra name) = name
flag_text (Arbitrary text) = text

-- the place of a flag among the variables
abbrev pub flag_place : Flag → List ℕ
flag_place flag = flag_rank flag ∷ flag_text flag

-- the place of a question's variable among the variables
abbrev pub place_of : Question → List ℕ
place_of (VersionBelow key boundary) = version_rank key ∷ []
place_of (TextBelow key boundary) = text_rank key ∷ []
place_of (IsSet flag) = flag_place flag

abbrev pub version_boundaries : Question → List (Boundary VersionRecord)
version_boundaries (VersionBelow key boundary) = boundary ∷ []
version_boundaries (TextBelow key boundary) = []
version_boundaries (IsSet flag) = []

abbrev pub text_boundaries : Question → List (Boundary (List ℕ))
text_boundaries (VersionBelow key boundary) = []
text_boundaries (TextBelow key boundary) = boundary ∷ []
text_boundaries (IsSet flag) = []

-- the order of questions: by their variables, and then by their endpoints
unfoldable pub question_cmp : Question → Question → Ordering
question_cmp =
    then_cmp (on place_of text_cmp)
    (then_cmp (on version_boundaries (slice_cmp (boundary_cmp version_cmp)))
    (on text_boundaries (slice_cmp (boundary_cmp text_cmp))))

-- whether two questions are about one variable
unfoldable pub shares_variable : Question → Question → Bool
shares_variable q r = is_eq (text_cmp (place_of q) (place_of r))

-- ---- answers

-- whether a point lies below an endpoint
abbrev pub lies_below : {T : Type 0} → (T → T → Ordering) → Point T → Boundary T → Bool
lies_below cmp p boundary = not (reaches (point_cmp cmp) (point_of boundary) p)

unfoldable pub answer : Valuation → Question → Bool
answer v (VersionBelow key boundary) = lies_below version_cmp (v.version key) boundary
answer v (TextBelow key boundary) = lies_below text_cmp (v.text key) boundary
answer v (IsSet flag) = v.flag flag

-- ---- valuations that are moved in one variable

abbrev pub with_version : Valuation → VersionVariable → Point VersionRecord → Valuation
with_version v key p = record v { version = λ k. cond (version_rank key == version_rank k) p (v.version k) }

abbrev pub with_text : Valuation → MarkerValueString → Point (List ℕ) → Valuation
with_text v key p = record v { text = λ k. cond (text_key_rank key == text_key_rank k) p (v.text k) }

abbrev pub with_flag : Valuation → Flag → Bool → Valuation
with_flag v flag b =
    record v { flag = λ f. cond (is_eq (text_cmp (flag_place flag) (flag_place f))) b (v.flag f) }

-- the question's variable below all of its endpoints, or set
unfoldable pub below_all : Valuation → Question → Valuation
below_all v (VersionBelow key boundary) = with_version v key BelowAll
below_all v (TextBelow key boundary) = with_text v key BelowAll
below_all v (IsSet flag) = with_flag v flag true

-- the question's variable at its endpoint, or not set
unfoldable pub at_place : Valuation → Question → Valuation
at_place v (VersionBelow key boundary) = with_version v key (point_of boundary)
at_place v (TextBelow key boundary) = with_text v key (point_of boundary)
at_place v (IsSet flag) = with_flag v flag false

-- questions and valuations of markers
abbrev pub marker : Asking Question Valuation
marker = record {
  cmp = question_cmp;
  shares = shares_variable;
  answer = answer;
  below_all = below_all;
  at_place = at_place;
}

-- ---- diagrams of markers

-- the truth of a diagram under a valuation
abbrev pub truth : Diagram Question → Valuation → Bool
truth = truth_by marker

-- two diagrams are identical, up to the spelling of equal versions
abbrev pub AreOne : Diagram Question → Diagram Question → Type 0
AreOne = IsAlike marker

-- the questions rise along each path, and none is needless
abbrev pub IsCanonical : Diagram Question → Type 0
IsCanonical = IsCanonicalBy marker

-- canonical diagrams with one truth under every valuation are identical, up to the spelling of equal
-- versions
abbrev pub OneDiagram : Type 0
OneDiagram = (d e : Diagram Question) → IsCanonical d → IsCanonical e →
    ((v : Valuation) → truth d v ≡ truth e v) → AreOne d e
