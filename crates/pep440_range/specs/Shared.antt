-- The range of a member of a list, among all versions or among releases.
use Rattle.std.specs.Prelude.{Option}
use Rattle.pep440_specifier.specs.Matching.{SpecifierRecord}
use Rattle.pep440_range.specs.declared.shared.Among.{Among}
use Rattle.pep440_range.specs.declared.shared.Among.TheVariants.{Versions, Releases}
use Rattle.pep440_range.specs.Ranges.{PointTest, range_of, release_range_of}

abbrev pub range_among : Among → SpecifierRecord → Option PointTest
range_among Versions = range_of
range_among Releases = release_range_of
