-- Lists that have the same answers if they require the same.
use Rattle.std.specs.Prelude.{List, All}
use Rattle.pep440_specifier.specs.Building.{IsBuilt}
use Rattle.pep440_specifier.specs.Matching.{SpecifierRecord}
use Rattle.pep440_range.specs.Agreement.{IsSaid}
use Rattle.reqtable_candidates.specs.declared.candidates.Candidate.{Candidate}
use Rattle.reqtable_range.specs.Together.{IsPlain}
use Rattle.reqtable_answer.specs.Asks.{specifiers_of}
use Rattle.reqtable_requirements.specs.LineReading.{LineRecord}

-- a specifier that can be written: its version fits its operator, and marks no end of a range
pub record IsOfText (specifier : SpecifierRecord) : Type 0 where
  pub built : IsBuilt specifier
  pub said : IsSaid specifier.version

-- each specifier of the lines can be written
abbrev pub AreOfTexts : List LineRecord → Type 0
AreOfTexts lines = All (λ line. All IsOfText (specifiers_of line.front.source)) lines

-- each candidate has neither a local part nor a post-release
abbrev pub ArePlain : List Candidate → Type 0
ArePlain = All (λ candidate. IsPlain candidate.version)
