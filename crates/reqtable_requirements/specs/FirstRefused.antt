-- Which line of a requirements text is refused, and why: the first that is not a requirement.
use Rattle.std.specs.Prelude.{◌≡◌, ℕ, List, ◌∷◌, ◌++◌, Err}
use Rattle.std.specs.List.{AllZip}
use Rattle.pep440_specifier.specs.SpecifierText.{AreSpaces}
use Rattle.pep508_url.specs.Vars.{Variables}
use Rattle.pep508_marker_parser.specs.SideReading.{AtEnd}
use Rattle.pep508_marker_parser.specs.MarkerReading.{marker_at}
use Rattle.pep508_requirement_text.specs.FrontReading.{Front}
use Rattle.pep508_requirement_text.specs.FrontText.{IsFrontText}
use Rattle.reqtable_requirements.specs.LineReading.{LineRecord}
use Rattle.reqtable_requirements.specs.LineText.{HasItsUrl, IsRequirementLine, IsNumberedLine}

-- front and URL are those of a requirement, and the first thing that is wrong in the marker after the `;` is
-- a number that can't be raised
pub record HasNumberAtEnd (vars : Variables) (text : List ℕ) : Type 0 where
  pub front : Front
  pub rest : List ℕ
  pub spaces : List ℕ
  pub marker : List ℕ
  pub is_front : IsFrontText text front rest
  pub has_url : HasItsUrl vars front.source
  pub split : rest ≡ spaces ++ 59 ∷ marker
  pub are_spaces : AreSpaces spaces
  pub at_end : marker_at marker ≡ Err AtEnd

-- the text is not that of a requirement line, for another reason
pub record IsNoRequirement (vars : Variables) (text : List ℕ) : Type 0 where
  pub is_none : (line : LineRecord) → IsRequirementLine vars text line → ⊥
  pub no_number : HasNumberAtEnd vars text → ⊥

-- the first of some numbered lines that is not a requirement has this number, and is refused for this reason
pub record IsFirstRefused (IsRefused : List ℕ → Type 0) (vars : Variables) (lines : List (ℕ × List ℕ))
    (number : ℕ) : Type 0 where
  pub front : List (ℕ × List ℕ)
  pub said : List LineRecord
  pub text : List ℕ
  pub back : List (ℕ × List ℕ)
  pub split : lines ≡ front ++ (number, text) ∷ back
  pub are_lines : AllZip (IsNumberedLine vars) front said
  pub is_refused : IsRefused text
