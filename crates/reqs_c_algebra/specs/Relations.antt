-- The replies on the meaning of markers (PEP 508, "Environment Markers"): of one alone, and of two together.
use Rattle.std.specs.Prelude.{◌≡◌, ◌⊎◌, ◌&&◌, ℕ, Bool, true, false, List, codes}
use Rattle.pep508_tree.specs.Tree.{Tree}
use Rattle.pep508_tree.specs.Meaning.{NodeRecord}
use Rattle.pep508_diagram.specs.Question.{Valuation}
use Rattle.pep508_marker_parser.specs.MarkerReading.{Marker}
use Rattle.reqs_c_reply.specs.declared.place.Place.{Place}
use Rattle.reqs_c_reply.specs.Endings.{Ending, EndsIn}
use Rattle.reqs_c_markers.specs.Markers.{marker_holds, IsMarkerIn, IsMarkerTree, AreFew, HasTree, RefusesTree}

-- whether a marker holds under each valuation
abbrev pub Values : Type 0
Values = Valuation → Bool

-- ---- one marker

-- the text has this relation to the values of the marker in these bytes, which has a tree of at most `most`
-- nodes
pub record SaysOf (most : ℕ) (bytes : List ℕ) (Says : Values → List ℕ → Type 0) (text : List ℕ)
    : Type 0 where
  pub marker : Marker
  pub is_marker : IsMarkerIn bytes marker
  pub has_tree : HasTree most bytes
  pub says : Says (marker_holds marker) text

abbrev pub AlwaysHolds : Values → Type 0
AlwaysHolds value = (v : Valuation) → value v ≡ true

abbrev pub NeverHolds : Values → Type 0
NeverHolds value = (v : Valuation) → value v ≡ false

-- `1` for what always holds, `0` for what never does, `-` for anything else
abbrev pub IsTruthOf : Values → List ℕ → Type 0
IsTruthOf value text =
    ((text ≡ codes "1") × AlwaysHolds value)
    ⊎ (((text ≡ codes "0") × NeverHolds value)
    ⊎ ((text ≡ codes "-") × (AlwaysHolds value → ⊥) × (NeverHolds value → ⊥)))

-- how a call for whether a marker always holds, or never, ends
abbrev pub TruthEnds : ℕ → List ℕ → Ending → Type 0
TruthEnds most bytes = EndsIn (SaysOf most bytes IsTruthOf) (RefusesTree 1 most bytes)

-- ---- two markers

-- `1` if it holds, `0` if it doesn't
abbrev pub IsYesOrNo : Type 0 → List ℕ → Type 0
IsYesOrNo Holds text = ((text ≡ codes "1") × Holds) ⊎ ((text ≡ codes "0") × (Holds → ⊥))

-- the markers in both arguments have trees of at most `most` nodes together
pub record HaveTrees (most : ℕ) (left right : List ℕ) : Type 0 where
  pub nodes : List NodeRecord
  pub first : Tree
  pub second : Tree
  pub are_few : AreFew most nodes
  pub is_first : IsMarkerTree nodes left first
  pub is_second : IsMarkerTree nodes right second

-- the text is whether the markers in both arguments are in this relation
pub record SaysOfTwo (most : ℕ) (left right : List ℕ) (StandSo : Values → Values → Type 0) (text : List ℕ)
    : Type 0 where
  pub first : Marker
  pub second : Marker
  pub is_first : IsMarkerIn left first
  pub is_second : IsMarkerIn right second
  pub have_trees : HaveTrees most left right
  pub says : IsYesOrNo (StandSo (marker_holds first) (marker_holds second)) text

-- the second argument is refused, and the first is a marker
pub record RefusesSecond (most : ℕ) (left right : List ℕ) (place : Place) (message : List ℕ) : Type 0 where
  pub first : Marker
  pub is_first : IsMarkerIn left first
  pub refuses : RefusesTree 2 most right place message

abbrev pub RefusesEither : ℕ → List ℕ → List ℕ → Place → List ℕ → Type 0
RefusesEither most left right place message =
    RefusesTree 1 most left place message ⊎ RefusesSecond most left right place message

-- how a call for whether two markers are in this relation ends
abbrev pub EndsOnTwo : (Values → Values → Type 0) → ℕ → List ℕ → List ℕ → Ending → Type 0
EndsOnTwo StandSo most left right =
    EndsIn (SaysOfTwo most left right StandSo) (RefusesEither most left right)

-- both hold together under no valuation
abbrev pub AreDisjoint : Values → Values → Type 0
AreDisjoint first second = (v : Valuation) → (first v && second v) ≡ false

-- how a call for whether two markers are disjoint ends
abbrev pub DisjointEnds : ℕ → List ℕ → List ℕ → Ending → Type 0
DisjointEnds = EndsOnTwo AreDisjoint

-- the second holds wherever the first one does
abbrev pub Implies : Values → Values → Type 0
Implies first second = (v : Valuation) → first v ≡ true → second v ≡ true

-- how a call for whether the first marker implies the second ends
abbrev pub ImpliesEnds : ℕ → List ℕ → List ℕ → Ending → Type 0
ImpliesEnds = EndsOnTwo Implies
