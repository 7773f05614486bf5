-- The kinds of the warnings of comparisons (PEP 508, "Environment Markers").
use Rattle.pep508_marker.specs.declared.warnings.MarkerWarningKind.{MarkerWarningKind}
use Rattle.pep508_marker.specs.declared.warnings.MarkerWarningKind.TheVariants.{ExtraInvalidComparison}
use Rattle.pep508_marker.specs.declared.warnings.MarkerWarningKind.TheVariants.{LexicographicComparison}
use Rattle.pep508_marker.specs.declared.warnings.MarkerWarningKind.TheVariants.{MarkerMarkerComparison}
use Rattle.pep508_marker.specs.declared.warnings.MarkerWarningKind.TheVariants.{Pep440Error}
use Rattle.pep508_marker.specs.declared.warnings.MarkerWarningKind.TheVariants.{StringStringComparison}
use Rattle.pep508_comparison_parser.specs.declared.notice.Notice.{Notice}
use Rattle.pep508_comparison_parser.specs.declared.notice.Notice.TheVariants.{Unquoted, Listed, Pattern}
use Rattle.pep508_comparison_parser.specs.declared.notice.Notice.TheVariants.{Operator, Combination, Keys}
use Rattle.pep508_comparison_parser.specs.declared.notice.Notice.TheVariants.{Compatible, Extra, Name, Quoted}

abbrev pub kind_of : Notice → MarkerWarningKind
kind_of (Unquoted key found) = Pep440Error
kind_of (Listed key text fault) = Pep440Error
kind_of (Pattern key text fault) = Pep440Error
kind_of (Operator key version operator) = Pep440Error
kind_of (Combination fault) = Pep440Error
kind_of Keys = MarkerMarkerComparison
kind_of Compatible = LexicographicComparison
kind_of Extra = ExtraInvalidComparison
kind_of (Name text fault) = ExtraInvalidComparison
kind_of (Quoted left operator right) = StringStringComparison
