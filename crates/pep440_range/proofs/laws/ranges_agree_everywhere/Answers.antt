use Rattle.std.proofs.Common.{◌∙◌, refl}
use Rattle.version_ranges.specs.Point.{At}
use Rattle.pep440_version.specs.Record.{without_local}
use Rattle.pep440_range.specs.Ranges.{range_of}
use Rattle.pep440_range.specs.Agreement.{IsSimple}
use Rattle.pep440_range.proofs.Lists.{each, list_agrees, agreeing}
use Rattle.pep440_range.proofs.Simple.{simple_agrees, said_without_local, all_alike}
use Rattle.pep440_range.proofs.laws.ranges_agree_everywhere.Goals as goal

pub returns : goal.returns
returns c = λ members candidate set all said given.
    let seen = without_local candidate in
    let simple = each IsSimple members all in
    given.1 (At seen)
    ∙ list_agrees range_of seen IsSimple
    (λ member m. agreeing seen (said_without_local candidate said) refl member (simple_agrees seen member m))
    members simple given.0
    ∙ all_alike candidate members simple
