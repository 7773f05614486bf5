use Rattle.std.proofs.Common.{◌∙◌}
use Rattle.version_ranges.specs.Point.{At}
use Rattle.pep440_range.specs.Ranges.{range_of}
use Rattle.pep440_range.specs.Agreement.{IsAgreeing}
use Rattle.pep440_range.proofs.Lists.{each, list_agrees, agreeing}
use Rattle.pep440_range.proofs.laws.list_ranges_agree_with_matching.Goals as goal

pub returns : goal.returns
returns c = λ members candidate set all said plain given.
    given.1 (At candidate)
    ∙ list_agrees range_of candidate (IsAgreeing candidate) (agreeing candidate said plain) members
    (each (IsAgreeing candidate) members all) given.0
