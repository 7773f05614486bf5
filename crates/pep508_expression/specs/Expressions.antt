-- When a comparison of a marker holds, under valuations of the variables of markers (PEP 508, "Environment
-- Markers").
use Rattle.std.specs.Prelude.{ℕ, Bool, true, false, not, List, Option, Some, None}
use Rattle.std.specs.Option.{is_some}
use Rattle.std.specs.Ordering.{is_eq}
use Rattle.std.specs.declared.ops.Bound.TheVariants.{Included, Excluded}
use Rattle.version_ranges.specs.Bounds.{starts_by, goes_on_to}
use Rattle.version_ranges.specs.Point.{At, point_cmp}
use Rattle.pep440_text.specs.Record.{VersionRecord}
use Rattle.pep440_specifier.specs.Matching.{SpecifierRecord}
use Rattle.pep440_range.specs.Ranges.{PointTest, release_range_of}
use Rattle.pep508_marker.specs.declared.keys.MarkerValueVersion.{MarkerValueVersion}
use Rattle.pep508_marker.specs.declared.keys.MarkerValueVersion.TheVariants.{ImplementationVersion}
use Rattle.pep508_marker.specs.declared.keys.MarkerValueVersion.TheVariants.{PythonFullVersion, PythonVersion}
use Rattle.pep508_marker.specs.declared.keys.MarkerValueString.{MarkerValueString}
use Rattle.pep508_marker.specs.declared.operators.MarkerOperator.{MarkerOperator}
use Rattle.pep508_marker.specs.declared.operators.MarkerOperator.TheVariants.{Equal, NotEqual, GreaterThan}
use Rattle.pep508_marker.specs.declared.operators.MarkerOperator.TheVariants.{GreaterEqual, LessThan}
use Rattle.pep508_marker.specs.declared.operators.MarkerOperator.TheVariants.{LessEqual, TildeEqual, In}
use Rattle.pep508_marker.specs.declared.operators.MarkerOperator.TheVariants.{NotIn, Contains, NotContains}
use Rattle.pep508_marker.specs.declared.operators.ExtraOperator.{ExtraOperator}
use Rattle.pep508_marker.specs.declared.operators.ExtraOperator.TheVariants as extra
use Rattle.pep508_marker.specs.Expression.{ExpressionRecord, Version, VersionIn, String, Extra}
use Rattle.pep508_marker.specs.Values.{ExtraRecord, Name, Arbitrary}
use Rattle.pep508_comparison.specs.Comparisons.{python_version_points, python_listed_points, negated_points}
use Rattle.pep508_comparison.specs.Comparisons.{listed, nowhere}
use Rattle.pep508_diagram.specs.declared.variable.VersionVariable.{VersionVariable}
use Rattle.pep508_diagram.specs.declared.variable.VersionVariable.TheVariants as variable
use Rattle.pep508_diagram.specs.declared.variable.Flag.{Flag}
use Rattle.pep508_diagram.specs.declared.variable.Flag.TheVariants as flag
use Rattle.pep508_diagram.specs.Text.{text_cmp}
use Rattle.pep508_diagram.specs.Question.{Valuation}

-- the variable of a key: `python_version` is read off `python_full_version`
abbrev pub variable_of : MarkerValueVersion → VersionVariable
variable_of ImplementationVersion = variable.ImplementationVersion
variable_of PythonFullVersion = variable.PythonFullVersion
variable_of PythonVersion = variable.PythonFullVersion

-- the points at which a key compares so, unless a number can't be raised
abbrev pub compared_points : MarkerValueVersion → SpecifierRecord → Option PointTest
compared_points ImplementationVersion specifier = release_range_of specifier
compared_points PythonFullVersion specifier = release_range_of specifier
compared_points PythonVersion specifier = python_version_points specifier

abbrev pub listed_points : MarkerValueVersion → Bool → List VersionRecord → Option PointTest
listed_points ImplementationVersion negated versions = Some (negated_points negated (listed versions))
listed_points PythonFullVersion negated versions = Some (negated_points negated (listed versions))
listed_points PythonVersion negated versions = python_listed_points negated versions

-- texts compare by their bytes; `~=` doesn't compare texts
abbrev pub text_holds : MarkerValueString → MarkerOperator → List ℕ → Valuation → Bool
text_holds key Equal text v = is_eq (point_cmp text_cmp (v.text key) (At text))
text_holds key NotEqual text v = not (is_eq (point_cmp text_cmp (v.text key) (At text)))
text_holds key GreaterThan text v = starts_by text_cmp (Excluded text) (v.text key)
text_holds key GreaterEqual text v = starts_by text_cmp (Included text) (v.text key)
text_holds key LessThan text v = goes_on_to text_cmp (Excluded text) (v.text key)
text_holds key LessEqual text v = goes_on_to text_cmp (Included text) (v.text key)
text_holds key TildeEqual text v = false
text_holds key In text v = v.flag (flag.In key text)
text_holds key NotIn text v = not (v.flag (flag.In key text))
text_holds key Contains text v = v.flag (flag.Contains key text)
text_holds key NotContains text v = not (v.flag (flag.Contains key text))

abbrev pub extra_flag : ExtraRecord → Flag
extra_flag (Name name) = flag.Extra name
extra_flag (Arbitrary text) = flag.Arbitrary text

abbrev pub extra_holds : ExtraOperator → ExtraRecord → Valuation → Bool
extra_holds extra.Equal asked v = v.flag (extra_flag asked)
extra_holds extra.NotEqual asked v = not (v.flag (extra_flag asked))

-- the points of a version comparison; none where there are no points
abbrev pub or_nowhere : Option PointTest → PointTest
or_nowhere (Some points) = points
or_nowhere None = nowhere

-- whether no number of the comparison that has to be raised is the greatest of 64 bits
unfoldable pub has_points : ExpressionRecord → Bool
has_points (Version key specifier) = is_some (compared_points key specifier)
has_points (VersionIn key versions negated) = is_some (listed_points key negated versions)
has_points (String key operator text) = true
has_points (Extra operator asked) = true

-- whether the comparison holds
unfoldable pub expression_holds : ExpressionRecord → Valuation → Bool
expression_holds (Version key specifier) v =
    or_nowhere (compared_points key specifier) (v.version (variable_of key))
expression_holds (VersionIn key versions negated) v =
    or_nowhere (listed_points key negated versions) (v.version (variable_of key))
expression_holds (String key operator text) v = text_holds key operator text v
expression_holds (Extra operator asked) v = extra_holds operator asked v
