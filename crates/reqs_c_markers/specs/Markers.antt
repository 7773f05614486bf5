-- The replies on the texts of markers (PEP 508, "Environment Markers").
use Rattle.std.specs.Prelude.{◌≡◌, ◌⊎◌, ◌<◌, ◌≤◌, ℕ, Bool, true, if◌then◌else◌, List, [], ◌++◌, length, codes}
use Rattle.std.specs.Prelude.{Result, Ok, Err}
use Rattle.std.specs.Fmt.{decimal}
use Rattle.std.specs.Str.{is_utf8, chars}
use Rattle.pep508_diagram.specs.Question.{Valuation}
use Rattle.pep508_formula.specs.Postfix.{Part, formula_of}
use Rattle.pep508_marker.specs.Expression.{ExpressionRecord}
use Rattle.pep508_expression.specs.Expressions.{expression_holds}
use Rattle.pep508_error.specs.Errors.{told_error}
use Rattle.pep508_comparison_parser.specs.SideReading.{Refused}
use Rattle.pep508_comparison_parser.specs.Outcome.{Shows}
use Rattle.pep508_marker_parser.specs.Formula.{formula_holds}
use Rattle.pep508_marker_parser.specs.MarkerReading.{Marker, marker_at}
use Rattle.pep508_marker_parser.specs.MarkerOutcome.{IsTreeOf}
use Rattle.pep508_tree.specs.Tree.{Tree}
use Rattle.pep508_tree.specs.Meaning.{NodeRecord}
use Rattle.pep508_tree.specs.Nodes.{AreSound}
use Rattle.reqs_c_reply.specs.declared.place.Place.{Place}
use Rattle.reqs_c_reply.specs.Endings.{Ending, EndsIn, IsNotText, span}
use Rattle.reqs_c_markers.specs.declared.bounds.Bounds.{Bounds}
use Rattle.reqs_c_markers.specs.Errors.{TextError, IsToldBy}
use Rattle.reqs_c_markers.specs.NormalTexts.{IsTextOf, IsNoTextOf}

-- whether a marker holds; one without any meaningful comparison does
abbrev pub marker_holds : Marker → Valuation → Bool
marker_holds marker v = formula_holds (λ e. expression_holds e v) marker.formula

-- bytes are the text of this marker
pub record IsMarkerIn (bytes : List ℕ) (marker : Marker) : Type 0 where
  pub is_utf8_text : is_utf8 bytes ≡ true
  pub is_marker : marker_at (chars bytes) ≡ Ok marker

-- these parts are the formula of the marker in these bytes
pub record IsFormulaIn (bytes : List ℕ) (parts : List (Part ExpressionRecord)) : Type 0 where
  pub marker : Marker
  pub is_marker : IsMarkerIn bytes marker
  pub is_formula : formula_of parts ≡ marker.formula

-- a tree of these nodes is that of the marker in these bytes
pub record IsMarkerTree (nodes : List NodeRecord) (bytes : List ℕ) (tree : Tree) : Type 0 where
  pub marker : Marker
  pub is_marker : IsMarkerIn bytes marker
  pub is_tree : IsTreeOf nodes tree marker.formula

-- ---- refusals

-- the argument of this number is a text that is not a marker, for the reason of an error
pub record IsNoMarker (input : ℕ) (bytes : List ℕ) (place : Place) (message : List ℕ) : Type 0 where
  pub error : TextError
  pub is_utf8_text : is_utf8 bytes ≡ true
  pub told : IsToldBy input error place message
  pub shows : Shows bytes (told_error error) (marker_at (chars bytes))

abbrev pub RefusesMarker : ℕ → List ℕ → Place → List ℕ → Type 0
RefusesMarker input bytes place message =
    IsNotText input bytes place message ⊎ IsNoMarker input bytes place message

-- the text is empty, and the bytes are a marker
pub record IsChecked (bytes text : List ℕ) : Type 0 where
  pub marker : Marker
  pub is_marker : IsMarkerIn bytes marker
  pub is_empty : text ≡ []

-- how a call for whether bytes are a marker ends
abbrev pub CheckedEnds : List ℕ → Ending → Type 0
CheckedEnds bytes = EndsIn (IsChecked bytes) (RefusesMarker 1 bytes)

-- ---- bounds on nodes

-- at most `most` nodes, no two of which are equal
pub record AreFew (most : ℕ) (nodes : List NodeRecord) : Type 0 where
  pub sound : AreSound nodes
  pub few : length nodes ≤ most

-- the marker in these bytes has a tree of at most `most` nodes
pub record HasTree (most : ℕ) (bytes : List ℕ) : Type 0 where
  pub nodes : List NodeRecord
  pub tree : Tree
  pub are_few : AreFew most nodes
  pub is_tree : IsMarkerTree nodes bytes tree

-- these nodes, no two of which are equal, are more than `most`, for which the argument of this number is
-- refused
pub record AreMore (input most : ℕ) (nodes : List NodeRecord) (place : Place) (message : List ℕ)
    : Type 0 where
  pub sound : AreSound nodes
  pub more : most < length nodes
  pub stands : place ≡ span input 0 0
  pub says : message ≡ codes "more than " ++ (decimal most ++ codes " nodes")

-- the argument of this number is a marker, and these nodes, which were made for it, are more than `most`
pub record HasMoreNodes (input most : ℕ) (nodes : List NodeRecord) (bytes : List ℕ) (place : Place)
    (message : List ℕ) : Type 0 where
  pub marker : Marker
  pub is_marker : IsMarkerIn bytes marker
  pub are_more : AreMore input most nodes place message

-- the argument of this number is refused where these nodes were made
abbrev pub RefusesTreeOf : ℕ → ℕ → List NodeRecord → List ℕ → Place → List ℕ → Type 0
RefusesTreeOf input most nodes bytes place message =
    RefusesMarker input bytes place message ⊎ HasMoreNodes input most nodes bytes place message

-- the argument of this number is refused, where some nodes were made
abbrev pub RefusesTree : ℕ → ℕ → List ℕ → Place → List ℕ → Type 0
RefusesTree input most bytes place message =
    RefusesMarker input bytes place message
    ⊎ ((nodes : List NodeRecord) × HasMoreNodes input most nodes bytes place message)

-- ---- normal texts

-- the wanted values of a marker that is derived from another one
abbrev pub Wants : Type 1
Wants = Marker → (Valuation → Bool) → Type 0

-- the text is the normal one with the wanted values of the marker in these bytes
pub record GivesText (bounds : Bounds) (bytes : List ℕ) (Wanted : Wants) (text : List ℕ) : Type 0 where
  pub marker : Marker
  pub is_marker : IsMarkerIn bytes marker
  pub has_tree : HasTree bounds.nodes bytes
  pub is_text : IsTextOf bounds.clauses (Wanted marker) text

-- the wanted values of the marker in these bytes have no normal text within the bounds, and the message is
-- the reason
pub record GivesNoText (bounds : Bounds) (bytes : List ℕ) (Wanted : Wants) (place : Place) (message : List ℕ)
    : Type 0 where
  pub marker : Marker
  pub is_marker : IsMarkerIn bytes marker
  pub has_tree : HasTree bounds.nodes bytes
  pub has_none : IsNoTextOf bounds.clauses (Wanted marker) place message

abbrev pub RefusesText : Bounds → List ℕ → Wants → Place → List ℕ → Type 0
RefusesText bounds bytes Wanted place message =
    RefusesTree 1 bounds.nodes bytes place message ⊎ GivesNoText bounds bytes Wanted place message

-- how a call for the normal text with the wanted values of a marker ends
abbrev pub TextEnds : Bounds → List ℕ → Wants → Ending → Type 0
TextEnds bounds bytes Wanted = EndsIn (GivesText bounds bytes Wanted) (RefusesText bounds bytes Wanted)

-- the values are those of the marker
abbrev pub HoldsAlike : Wants
HoldsAlike marker value = (v : Valuation) → value v ≡ marker_holds marker v

-- how a call for the normal text of a marker ends
abbrev pub MarkerEnds : Bounds → List ℕ → Ending → Type 0
MarkerEnds bounds bytes = TextEnds bounds bytes HoldsAlike

-- the text is read as a marker with these values; an empty one is no marker, and then the values are all true
abbrev pub ReadsBack : List ℕ → (Valuation → Bool) → Type 0
ReadsBack text value =
    ((text ≡ []) × ((v : Valuation) → value v ≡ true))
    ⊎ ((again : Marker) × (marker_at (chars text) ≡ Ok again) × HoldsAlike again value)

-- ---- many markers

-- `1` if a marker holds, `0` if it doesn't, `?` if there is none
abbrev pub held_mark : Valuation → Result Marker Refused → ℕ
held_mark v (Ok marker) = if marker_holds marker v then 49 else 48
held_mark v (Err refused) = 63

-- the byte for the marker in these bytes
unfoldable pub mark_in : Valuation → List ℕ → ℕ
mark_in v bytes = if is_utf8 bytes then held_mark v (marker_at (chars bytes)) else 63
