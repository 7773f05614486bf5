-- The marker of a requirement, which follows its front (PEP 508, "Grammar").
use Rattle.std.specs.Prelude.{◌≡◌, ℕ, ◌==◌, if◌then◌else◌, List, [], ◌∷◌, Result, Ok, Err}
use Rattle.std.specs.Str.{skip_leading_whitespace}
use Rattle.pep508_marker.specs.Warnings.{Warning}
use Rattle.pep508_marker_parser.specs.Formula.{LeftOut}
use Rattle.pep508_marker_parser.specs.SideReading.{Refused, Malformed}
use Rattle.pep508_marker_parser.specs.MarkerReading.{Marker, marker_at}
use Rattle.pep508_marker_parser.specs.Outcome.{IsWarned}
use Rattle.pep508_requirement_text.specs.FrontReading.{Front, front_reading}
use Rattle.pep508_requirement_text.specs.UnnamedReading.{UnnamedFront, IsUnnamedReading}

-- no comparison, so that the requirement always holds
abbrev pub no_marker : Marker
no_marker = record { formula = LeftOut; warned = [] }

-- the marker of the characters after a front and white space: none, or a `;` and the characters that a
-- marker is read from
abbrev pub marker_behind : List ℕ → Result Marker Refused
marker_behind [] = Ok no_marker
marker_behind (c ∷ cs) = if c == 59 then marker_at cs else Err Malformed

-- a reporter received the warnings of the marker after the text's front, in their order
pub record TakesWarnings {R : Type 0} (takes : R → Warning → R → Type 0) (old new : R) (text : List ℕ)
    : Type 0 where
  pub front : Front
  pub rest : List ℕ
  pub marker : Marker
  pub reading : front_reading text ≡ Ok (front, rest)
  pub is_marker : marker_behind (skip_leading_whitespace rest) ≡ Ok marker
  pub warned : IsWarned takes old new marker.warned

pub record TakesUnnamedWarnings {R : Type 0} (takes : R → Warning → R → Type 0) (old new : R)
    (text : List ℕ) : Type 0 where
  pub front : UnnamedFront
  pub rest : List ℕ
  pub marker : Marker
  pub reading : IsUnnamedReading text (Ok (front, rest))
  pub is_marker : marker_behind (skip_leading_whitespace rest) ≡ Ok marker
  pub warned : IsWarned takes old new marker.warned
