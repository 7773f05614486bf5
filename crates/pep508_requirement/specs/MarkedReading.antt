-- The results of reading the text of a requirement whose marker is kept as a formula.
use Rattle.std.specs.Prelude.{◌≡◌, ℕ, Bool, List, Result, Ok, Err}
use Rattle.pep508_url.specs.Vars.{Variables}
use Rattle.pep508_error.specs.declared.error.Pep508Error.{Pep508Error}
use Rattle.pep508_formula.specs.Postfix.{formula_of}
use Rattle.pep508_marker_parser.specs.MarkerReading.{Marker}
use Rattle.pep508_requirement_text.specs.FrontReading.{Front}
use Rattle.pep508_requirement.specs.MarkerBehind.{marker_behind}
use Rattle.pep508_requirement.specs.RequirementReading.{IsReadUpTo, IsRefused}
use Rattle.pep508_requirement.specs.declared.marked_requirement.MarkedRequirement.{MarkedRequirement}

-- the text is read as this requirement, with the formula of its marker
pub record IsReadMarked {T E : Type 0} (Reads : List ℕ → Result T E → Type 0) (text : List ℕ)
    (r : MarkedRequirement T E) : Type 0 where
  pub front : Front
  pub left : List ℕ
  pub marker : Marker
  pub whole : IsReadUpTo Reads text front r.version_or_url left
  pub name : r.name ≡ front.name
  pub extras : r.extras.items ≡ front.extras
  pub is_marker : marker_behind left ≡ Ok marker
  pub formula : formula_of r.formula ≡ marker.formula

-- the results of reading the text
abbrev pub ReadsMarked : {T E : Type 0} → (List ℕ → Result T E → Type 0) → (E → Bool) → Variables → List ℕ
    → Result (MarkedRequirement T E) (Pep508Error T E) → Type 0
ReadsMarked Reads lacks vars text (Ok r) = IsReadMarked Reads text r
ReadsMarked Reads lacks vars text (Err error) = IsRefused Reads lacks vars text error
