-- Lines that can't be compared by version ranges.
use Rattle.std.specs.Prelude.{ℕ, Bool, true, false, List, [], ◌∷◌, Option, Some, None, is_none, is_some}
use Rattle.std.specs.Prelude.{if◌then◌else◌}
use Rattle.std.specs.List.{list_any}
use Rattle.pep440_operator.specs.declared.operator.Operator.{Operator}
use Rattle.pep440_operator.specs.declared.operator.Operator.TheVariants.{ExactEqual, LessThan, GreaterThan}
use Rattle.pep440_operator.specs.declared.operator.Operator.TheVariants.{Equal, EqualStar, NotEqual}
use Rattle.pep440_operator.specs.declared.operator.Operator.TheVariants.{NotEqualStar, TildeEqual}
use Rattle.pep440_operator.specs.declared.operator.Operator.TheVariants.{LessThanEqual, GreaterThanEqual}
use Rattle.pep440_specifier.specs.Matching.{SpecifierRecord}
use Rattle.pep440_range.specs.Ranges.{range_of}
use Rattle.pep508_requirement_text.specs.FrontReading.{Front}
use Rattle.reqtable_answer.specs.Asks.{specifiers_of, is_url}
use Rattle.reqtable_search.specs.Told.{is_bound}
use Rattle.reqtable_requirements.specs.LineReading.{LineRecord}
use Rattle.reqtable_compare.specs.declared.sides.LineCause.{LineCause}
use Rattle.reqtable_compare.specs.declared.sides.LineCause.TheVariants as causes
use Rattle.reqtable_compare.specs.declared.sides.Side.{Side}
use Rattle.reqtable_compare.specs.declared.sides.Side.TheVariants.{Left, Right}

-- the operator is `===`
abbrev pub is_exact : Operator → Bool
is_exact ExactEqual = true
is_exact LessThan = false
is_exact GreaterThan = false
is_exact Equal = false
is_exact EqualStar = false
is_exact NotEqual = false
is_exact NotEqualStar = false
is_exact TildeEqual = false
is_exact LessThanEqual = false
is_exact GreaterThanEqual = false

abbrev pub bounds_post : SpecifierRecord → Bool
bounds_post s = if is_bound s.operator then is_some s.version.post else false

abbrev pub members_cause : List SpecifierRecord → Option LineCause
members_cause members =
    if list_any (λ s. is_exact s.operator) members then Some causes.ExactEqual
    else if list_any bounds_post members then Some causes.PostAfterBound
    else if list_any (λ s. is_none (range_of s)) members then Some causes.NumberAtEnd
    else None

-- the first cause for which a line can't be compared
abbrev pub line_cause : Front → Option LineCause
line_cause front =
    if is_url front.source then Some causes.Url else members_cause (specifiers_of front.source)

-- a line of a list, by its number, that can't be compared
pub record Refusal : Type 0 where
  pub side : Side
  pub number : ℕ
  pub cause : LineCause

abbrev pub refused_by : Side → ℕ → Option LineCause → Option Refusal → Option Refusal
refused_by side number (Some cause) later =
    Some (record { side = side; number = number; cause = cause })
refused_by side number None later = later

-- the first refusal in a list, or else the later one
abbrev pub refusal_in : Side → List LineRecord → Option Refusal → Option Refusal
refusal_in side [] later = later
refusal_in side (line ∷ lines) later =
    refused_by side line.number (line_cause line.front) (refusal_in side lines later)

-- the first refusal in two lists
abbrev pub line_refusal : List LineRecord → List LineRecord → Option Refusal
line_refusal left right = refusal_in Left left (refusal_in Right right None)
