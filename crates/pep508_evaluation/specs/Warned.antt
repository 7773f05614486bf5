-- The warnings of evaluating a tree: old names of PEP 345 anywhere in it, and the bounds that texts are
-- compared with on the way to the answer (PEP 508, "Environment Markers"). Tests of one variable in a row,
-- each for where the answer to the one before is no, are one node; the texts before its first test, between
-- two of them and from its last one on are its edges.
use Rattle.std.specs.Prelude.{ℕ, Bool, false, cond, List, [], ◌∷◌, ◌++◌, map, Option, Some, None, is_some}
use Rattle.version_ranges.specs.declared.boundary.Boundary.{Boundary}
use Rattle.version_ranges.specs.Boundaries.{point_of}
use Rattle.version_ranges.specs.Bounds.{single_value}
use Rattle.pep508_marker.specs.declared.keys.MarkerValueString.{MarkerValueString}
use Rattle.pep508_marker.specs.declared.warnings.MarkerWarningKind.{MarkerWarningKind}
use Rattle.pep508_marker.specs.declared.warnings.MarkerWarningKind.TheVariants.{DeprecatedMarkerName}
use Rattle.pep508_marker.specs.declared.warnings.MarkerWarningKind.TheVariants.{LexicographicComparison}
use Rattle.pep508_marker.specs.Keys.{is_deprecated}
use Rattle.pep508_marker.specs.Warnings.{Warning}
use Rattle.pep508_diagram.specs.Text.{text_cmp}
use Rattle.pep508_diagram.specs.Diagram.{Diagram, Leaf, Test}
use Rattle.pep508_diagram.specs.Question.{Question, VersionBelow, TextBelow, IsSet, Valuation}
use Rattle.pep508_diagram.specs.Question.{text_boundaries, shares_variable, answer}

-- a test belongs to the node of the test before it
abbrev pub goes_on : Option Question → Question → Bool
goes_on None q = false
goes_on (Some before) q = shares_variable before q

-- ---- old names

abbrev pub key_names : MarkerValueString → List MarkerWarningKind
key_names key = cond (is_deprecated key) (DeprecatedMarkerName ∷ []) []

abbrev pub names_of : Question → List MarkerWarningKind
names_of (VersionBelow key boundary) = []
names_of (TextBelow key boundary) = key_names key
names_of (IsSet flag) = []

-- one warning for each node of an old name, a node's before those of its children
abbrev pub old_names : Option Question → Diagram Question → List MarkerWarningKind
old_names before (Leaf b) = []
old_names before (Test q low high) =
    cond (goes_on before q) [] (names_of q) ++ (old_names None low ++ old_names (Some q) high)

-- ---- texts that are compared

-- one warning for each bound of an edge, the lower one first, unless the edge is a single text
abbrev pub edge : List (Boundary (List ℕ)) → List (Boundary (List ℕ)) → List MarkerWarningKind
edge lower upper =
    cond (is_some (single_value text_cmp (map point_of (lower ++ upper)))) []
    (map (λ bound. LexicographicComparison) (lower ++ upper))

-- the bound of the test before, whose answer was no
abbrev pub passed : Option Question → List (Boundary (List ℕ))
passed None = []
passed (Some before) = text_boundaries before

-- the edge up to a test, after the last edge of the node before it, if there is one
abbrev pub edges_to : Option Question → Question → List MarkerWarningKind
edges_to before q =
    cond (goes_on before q) (edge (passed before) (text_boundaries q))
    (edge (passed before) [] ++ edge [] (text_boundaries q))

-- the edges on the way that a valuation selects, in each node up to the one that contains the text
abbrev pub compared : Valuation → Option Question → Diagram Question → List MarkerWarningKind
compared v before (Leaf b) = edge (passed before) []
compared v before (Test q low high) =
    edges_to before q ++ cond (answer v q) (compared v None low) (compared v (Some q) high)

-- ---- all

-- the kinds of all warnings, in order: old names first, then what is compared
abbrev pub warned : Valuation → Diagram Question → List MarkerWarningKind
warned v d = old_names None d ++ compared v None d

-- a warning of this kind was received, with some text
abbrev pub TakesKind : {P : Type 0} → (P → Warning → P → Type 0) → P → MarkerWarningKind → P → Type 0
TakesKind takes old kind new = (text : List ℕ) × takes old (record { kind = kind; text = text }) new
