-- Copies of lines.
use Rattle.std.specs.Prelude.{◌≡◌, ℕ, List, filter}
use Rattle.std.specs.List.{list_any}
use Rattle.std.specs.Str.{bytes_eq}
use Rattle.pep508_requirement.specs.Requirements.{IsCopy}
use Rattle.reqtable_requirements.specs.declared.requirements.Line.{Line}

-- a line is a copy of another
pub record IsLineCopy (copy original : Line) : Type 0 where
  pub number : copy.number ≡ original.number
  pub requirement : IsCopy copy.requirement original.requirement

-- the lines of the packages with these names
abbrev pub lines_among : List (List ℕ) → List Line → List Line
lines_among names lines = filter (λ line. list_any (bytes_eq line.requirement.name) names) lines
