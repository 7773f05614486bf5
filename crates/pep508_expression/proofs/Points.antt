-- The points of a comparison of versions.
use Rattle.std.proofs.Common.{◌≡◌, refl, Bool, List, Option, Some, None, is_some}
use Rattle.version_ranges.specs.Point.{Point}
use Rattle.pep440_text.specs.Record.{VersionRecord}
use Rattle.pep440_range.specs.Ranges.{PointTest, range_holds}
use Rattle.pep440_specifier.specs.Matching.{SpecifierRecord}
use Rattle.pep508_marker.specs.declared.keys.MarkerValueVersion.{MarkerValueVersion}
use Rattle.pep508_marker.specs.Expression.{Version, VersionIn}
use Rattle.pep508_diagram.specs.Question.{Valuation}
use Rattle.pep508_expression.specs.Expressions.{or_nowhere, compared_points, listed_points, variable_of}
use Rattle.pep508_expression.specs.Expressions.{has_points, expression_holds}

pub points_or_nowhere : (points : Option PointTest) (p : Point VersionRecord) →
    or_nowhere points p ≡ range_holds points p
points_or_nowhere (Some points) p = refl
points_or_nowhere None p = refl

pub version_has_points : (key : MarkerValueVersion) (specifier : SpecifierRecord) →
    has_points (Version key specifier) ≡ is_some (compared_points key specifier)
unfolding has_points
version_has_points key specifier = refl

pub list_has_points : (key : MarkerValueVersion) (versions : List VersionRecord) (negated : Bool) →
    has_points (VersionIn key versions negated) ≡ is_some (listed_points key negated versions)
unfolding has_points
list_has_points key versions negated = refl

pub version_holds : (key : MarkerValueVersion) (specifier : SpecifierRecord) (v : Valuation) →
    expression_holds (Version key specifier) v
    ≡ range_holds (compared_points key specifier) (v.version (variable_of key))
unfolding expression_holds
version_holds key specifier v = points_or_nowhere (compared_points key specifier) (v.version (variable_of key))

pub list_holds : (key : MarkerValueVersion) (versions : List VersionRecord) (negated : Bool) (v : Valuation) →
    expression_holds (VersionIn key versions negated) v
    ≡ range_holds (listed_points key negated versions) (v.version (variable_of key))
unfolding expression_holds
list_holds key versions negated v =
    points_or_nowhere (listed_points key negated versions) (v.version (variable_of key))

-- Of which versions a comparison of a key tells, and whether there are any such.
pub ruleset version_points = (version_has_points, version_holds)

pub ruleset list_points = (list_has_points, list_holds)
