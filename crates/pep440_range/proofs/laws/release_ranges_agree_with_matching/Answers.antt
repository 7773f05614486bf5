use Rattle.std.proofs.Common.{◌∙◌, ap, sym}
use Rattle.version_ranges.specs.Point.{At}
use Rattle.pep440_version.specs.Record.{VersionRecord}
use Rattle.pep440_specifier.specs.Matching.{matches}
use Rattle.pep440_range.proofs.ReleaseRanges.{releases_agree}
use Rattle.pep440_range.proofs.laws.release_ranges_agree_with_matching.Goals as goal

pub returns : goal.returns
returns c = λ specifier candidate range own other not_exact e.
    ap (λ (version : VersionRecord). range (At version)) other
    ∙ releases_agree specifier.operator specifier.version.release candidate.release range not_exact e
    ∙ sym (λ i. matches specifier.operator (own i) (other i))
