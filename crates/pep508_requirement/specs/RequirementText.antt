-- The text of a requirement with its marker (PEP 508, "Grammar").
use Rattle.std.specs.Prelude.{◌≡◌, ◌⊎◌, ℕ, List, ◌∷◌, ◌++◌}
use Rattle.pep440_specifier.specs.SpecifierText.{AreSpaces}
use Rattle.pep508_error.specs.declared.error.Pep508ErrorSource.{Pep508ErrorSource}
use Rattle.pep508_error.specs.declared.error.Pep508ErrorSource.TheVariants.{Memory, String, UrlError}
use Rattle.pep508_error.specs.declared.error.Pep508ErrorSource.TheVariants.{UnsupportedRequirement}
use Rattle.pep508_error.specs.declared.error.Pep508ErrorSource.TheVariants.{NumberAtEnd}
use Rattle.pep508_marker_parser.specs.MarkerReading.{Marker}
use Rattle.pep508_marker_parser.specs.MarkerText.{IsMarkerText}
use Rattle.pep508_requirement_text.specs.FrontReading.{Front}
use Rattle.pep508_requirement_text.specs.FrontText.{IsFrontText}
use Rattle.pep508_requirement_text.specs.UnnamedReading.{UnnamedFront}
use Rattle.pep508_requirement_text.specs.UnnamedText.{IsUnnamedText}
use Rattle.pep508_requirement.specs.MarkerBehind.{no_marker}

-- the text after a front: white space, and then nothing, or a `;` and a marker
abbrev pub IsBehindText : List ℕ → Marker → Type 0
IsBehindText rest marker =
    (AreSpaces rest × (marker ≡ no_marker))
    ⊎ ((spaces cs : List ℕ) × (rest ≡ spaces ++ 59 ∷ cs) × AreSpaces spaces × IsMarkerText cs marker)

-- the text is that of a requirement with this front and this marker
abbrev pub IsMarkedText : List ℕ → Front → Marker → Type 0
IsMarkedText text front marker = (rest : List ℕ) × IsFrontText text front rest × IsBehindText rest marker

-- the text is that of a requirement without a name with this front and this marker
abbrev pub IsUnnamedMarkedText : List ℕ → UnnamedFront → Marker → Type 0
IsUnnamedMarkedText text front marker =
    (rest : List ℕ) × IsUnnamedText text front rest × IsBehindText rest marker

-- the text is refused by the grammar or for a number of its marker: not for its URL, nor for lack of memory
abbrev pub IsOfText : {T E : Type 0} → Pep508ErrorSource T E → Type 0
IsOfText (String message) = Unit {0}
IsOfText (UnsupportedRequirement message) = Unit {0}
IsOfText NumberAtEnd = Unit {0}
IsOfText (UrlError error) = ⊥
IsOfText Memory = ⊥
