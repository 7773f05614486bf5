-- Diagrams whose versions are releases of epoch 0 (PEP 440, "Final releases"), as are those of markers that
-- list no exact versions.
use Rattle.std.specs.Prelude.{◌<◌, ◌^◌}
use Rattle.std.specs.List.{AllByRecursion}
use Rattle.version_ranges.specs.declared.boundary.Boundary.{Boundary}
use Rattle.version_ranges.specs.declared.boundary.Boundary.TheVariants.{At, JustAbove}
use Rattle.pep440_text.specs.Record.{VersionRecord}
use Rattle.pep440_specifier.specs.Bounds.{IsReleaseVersion}
use Rattle.pep508_diagram.specs.Diagram.{Diagram}
use Rattle.pep508_diagram.specs.Question.{Question, VersionBelow, TextBelow, IsSet}
use Rattle.pep508_diagram.specs.Questions.{AllQuestions}

-- a version of epoch 0 and release numbers alone, each of 64 bits
abbrev pub IsPlainRelease : VersionRecord → Type 0
IsPlainRelease version = IsReleaseVersion version × AllByRecursion (λ number. number < 2 ^ 64) version.release

abbrev pub StandsAtRelease : Boundary VersionRecord → Type 0
StandsAtRelease (At version) = IsPlainRelease version
StandsAtRelease (JustAbove version) = IsPlainRelease version

abbrev pub AsksOfReleases : Question → Type 0
AsksOfReleases (VersionBelow key boundary) = StandsAtRelease boundary
AsksOfReleases (TextBelow key boundary) = Unit {0}
AsksOfReleases (IsSet flag) = Unit {0}

-- each version in the diagram's questions is a release of epoch 0
abbrev pub HasReleasesAlone : Diagram Question → Type 0
HasReleasesAlone = AllQuestions AsksOfReleases
