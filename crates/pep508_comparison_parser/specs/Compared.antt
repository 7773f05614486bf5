-- The meaning of a comparison of a marker, where it has one (PEP 508, "Environment Markers").
use Rattle.std.specs.Prelude.{ℕ, Bool, true, false, List, [], ◌∷◌, map, filter, encode_utf8_all, Option, Some}
use Rattle.std.specs.Prelude.{None, option_and_then}
use Rattle.std.specs.Char.{is_whitespace}
use Rattle.std.specs.List.{slice_split}
use Rattle.std.specs.Option.{option_map}
use Rattle.std.specs.Result.{result_ok}
use Rattle.std.specs.Str.{chars}
use Rattle.pep440_text.specs.Record.{VersionRecord}
use Rattle.pep440_text.specs.Reading.{version_of, pattern_of}
use Rattle.pep440_specifier.specs.Matching.{SpecifierRecord}
use Rattle.pep440_specifier.specs.Building.{built, built_of_pattern}
use Rattle.pep508_name.specs.Name.{name_of, is_part}
use Rattle.pep508_marker.specs.declared.keys.MarkerValueVersion.{MarkerValueVersion}
use Rattle.pep508_marker.specs.declared.keys.MarkerValueString.{MarkerValueString}
use Rattle.pep508_marker.specs.declared.operators.MarkerOperator.{MarkerOperator}
use Rattle.pep508_marker.specs.declared.operators.MarkerOperator.TheVariants.{TildeEqual, In, NotIn}
use Rattle.pep508_marker.specs.declared.operators.ExtraOperator.{ExtraOperator}
use Rattle.pep508_marker.specs.declared.warnings.MarkerWarningKind.{MarkerWarningKind}
use Rattle.pep508_marker.specs.declared.warnings.MarkerWarningKind.TheVariants.{ExtraInvalidComparison}
use Rattle.pep508_marker.specs.declared.warnings.MarkerWarningKind.TheVariants.{LexicographicComparison}
use Rattle.pep508_marker.specs.declared.warnings.MarkerWarningKind.TheVariants.{MarkerMarkerComparison}
use Rattle.pep508_marker.specs.declared.warnings.MarkerWarningKind.TheVariants.{Pep440Error}
use Rattle.pep508_marker.specs.declared.warnings.MarkerWarningKind.TheVariants.{StringStringComparison}
use Rattle.pep508_marker.specs.Operators.{inverted, specifier_operator, extra_operator}
use Rattle.pep508_marker.specs.Values.{ValueRecord, VersionKey, TextKey, ExtraKey, Quoted, ExtraRecord, Name}
use Rattle.pep508_marker.specs.Values.{Arbitrary}
use Rattle.pep508_marker.specs.Expression.{ExpressionRecord}
use Rattle.pep508_marker.specs.Expression as expression

-- a comparison, if it has a meaning, and the kinds of its warnings
pub record Compared : Type 0 where
  pub said : Option ExpressionRecord
  pub warned : List MarkerWarningKind

-- a comparison that is left out, with one warning
abbrev pub left_out : MarkerWarningKind → Compared
left_out kind = record { said = None; warned = kind ∷ [] }

abbrev pub says : ExpressionRecord → Compared
says expression = record { said = Some expression; warned = [] }

-- the comparison with a warning before its own
abbrev pub warned_before : MarkerWarningKind → Compared → Compared
warned_before kind compared = record compared { warned = kind ∷ compared.warned }

-- ---- keys of versions

abbrev pub of_specifier : MarkerValueVersion → Option SpecifierRecord → Compared
of_specifier key (Some specifier) = says (expression.Version key specifier)
of_specifier key None = left_out Pep440Error

-- the specifier of a pattern after the key, which may have a star, or of a version before it, which may not
abbrev pub specifier_behind : MarkerOperator → List ℕ → Option SpecifierRecord
specifier_behind operator text =
    option_and_then (λ pattern. option_and_then (λ sign. result_ok (built_of_pattern sign pattern))
    (specifier_operator operator)) (pattern_of text)

abbrev pub specifier_before : MarkerOperator → List ℕ → Option SpecifierRecord
specifier_before operator text =
    option_and_then (λ version. option_and_then (λ sign. result_ok (built sign version))
    (specifier_operator operator)) (version_of text)

-- the runs of characters between white space, as texts
abbrev pub runs_of : List ℕ → List (List ℕ)
runs_of text = map encode_utf8_all (filter is_part (slice_split is_whitespace (chars text)))

abbrev pub with_version : Option VersionRecord → Option (List VersionRecord) → Option (List VersionRecord)
with_version None versions = None
with_version (Some version) versions = option_map (λ others. version ∷ others) versions

-- the versions that texts are, if all are
abbrev pub versions_of : List (List ℕ) → Option (List VersionRecord)
versions_of [] = Some []
versions_of (text ∷ texts) = with_version (version_of text) (versions_of texts)

-- `in` and `not in` don't compare a single version, so an invalid list gives a second warning
abbrev pub of_list : MarkerValueVersion → Bool → Option (List VersionRecord) → Compared → Compared
of_list key negated (Some versions) otherwise = says (expression.VersionIn key versions negated)
of_list key negated None otherwise = warned_before Pep440Error otherwise

-- a key of versions before a text
abbrev pub version_before : MarkerValueVersion → MarkerOperator → List ℕ → Compared
version_before key In text =
    of_list key false (versions_of (runs_of text)) (of_specifier key (specifier_behind In text))
version_before key NotIn text =
    of_list key true (versions_of (runs_of text)) (of_specifier key (specifier_behind NotIn text))
version_before key operator text = of_specifier key (specifier_behind operator text)

-- a text before a key of versions
abbrev pub version_behind : MarkerValueVersion → MarkerOperator → List ℕ → Compared
version_behind key operator text = of_specifier key (specifier_before (inverted operator) text)

-- ---- keys of texts, and extras

abbrev pub text_compared : MarkerValueString → MarkerOperator → List ℕ → Compared
text_compared key TildeEqual text = left_out LexicographicComparison
text_compared key operator text = says (expression.String key operator text)

-- the extra of a name, or of a text that is not a name
abbrev pub extra_of : Option (List ℕ) → List ℕ → ExtraRecord
extra_of (Some name) text = Name name
extra_of None text = Arbitrary text

abbrev pub of_extra : ExtraRecord → Option ExtraOperator → Compared
of_extra extra (Some operator) = says (expression.Extra operator extra)
of_extra extra None = left_out ExtraInvalidComparison

abbrev pub warned_of_name : Option (List ℕ) → Compared → Compared
warned_of_name (Some name) compared = compared
warned_of_name None compared = warned_before ExtraInvalidComparison compared

abbrev pub extra_compared : MarkerOperator → List ℕ → Compared
extra_compared operator text =
    warned_of_name (name_of text) (of_extra (extra_of (name_of text) text) (extra_operator operator))

-- ---- the two sides

unfoldable pub compared : ValueRecord → MarkerOperator → ValueRecord → Compared
compared (VersionKey key) operator (Quoted text) = version_before key operator text
compared (VersionKey key) operator other = left_out Pep440Error
compared (TextKey key) operator (Quoted text) = text_compared key operator text
compared (TextKey key) operator other = left_out MarkerMarkerComparison
compared ExtraKey operator (Quoted text) = extra_compared operator text
compared ExtraKey operator other = left_out ExtraInvalidComparison
compared (Quoted text) operator (VersionKey key) = version_behind key operator text
compared (Quoted text) operator (TextKey key) = text_compared key (inverted operator) text
compared (Quoted text) operator ExtraKey = extra_compared operator text
compared (Quoted text) operator (Quoted other) = left_out StringStringComparison
