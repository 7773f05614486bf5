-- The comparisons that express a key's values (PEP 508, "Environment Markers"; PEP 440, "Version
-- specifiers").
use Rattle.std.specs.Prelude.{ℕ, ◌&&◌, Bool, cond, List, [], ◌∷◌, Option, Some, None, option_map}
use Rattle.pep440_text.specs.Record.{VersionRecord, release_record, without_local}
use Rattle.pep440_version.specs.Order.{version_cmp, version_eq}
use Rattle.pep440_specifier.specs.Bounds.{next_minor, equals_release}
use Rattle.pep440_operator.specs.declared.operator.Operator.{Operator}
use Rattle.pep440_operator.specs.declared.operator.Operator.TheVariants as versions
use Rattle.pep508_marker.specs.declared.keys.MarkerValueVersion.{MarkerValueVersion}
use Rattle.pep508_marker.specs.declared.keys.MarkerValueVersion.TheVariants as keys
use Rattle.pep508_marker.specs.declared.keys.MarkerValueString.{MarkerValueString}
use Rattle.pep508_marker.specs.declared.operators.MarkerOperator.TheVariants as texts
use Rattle.pep508_marker.specs.declared.operators.ExtraOperator.TheVariants as extras
use Rattle.pep508_marker.specs.Expression.{ExpressionRecord, Version, String, Extra}
use Rattle.pep508_marker.specs.Values.{Name, Arbitrary}
use Rattle.pep508_diagram.specs.declared.variable.VersionVariable.{VersionVariable}
use Rattle.pep508_diagram.specs.declared.variable.VersionVariable.TheVariants.{ImplementationVersion}
use Rattle.pep508_diagram.specs.declared.variable.VersionVariable.TheVariants.{PythonFullVersion}
use Rattle.pep508_diagram.specs.declared.variable.Flag.{Flag}
use Rattle.pep508_diagram.specs.declared.variable.Flag.TheVariants as flag
use Rattle.pep508_diagram.specs.Text.{text_cmp}
use Rattle.pep508_marker_text_laws.specs.Saying.{Saying}

-- ---- versions

-- the key that is written for a variable
abbrev pub key_of_variable : VersionVariable → MarkerValueVersion
key_of_variable ImplementationVersion = keys.ImplementationVersion
key_of_variable PythonFullVersion = keys.PythonFullVersion

-- the two numbers of a release; the second is 0 where there is only one
abbrev pub two_numbers : List ℕ → Option (List ℕ)
two_numbers (major ∷ []) = Some (major ∷ 0 ∷ [])
two_numbers (major ∷ minor ∷ []) = Some (major ∷ minor ∷ [])
two_numbers numbers = None

-- the versions are the releases `a.b` and `a.(b+1)`, of these numbers `a.b`
abbrev pub is_minor_of : VersionRecord → VersionRecord → List ℕ → Bool
is_minor_of lower upper numbers =
    version_eq (release_record numbers) lower && equals_release (next_minor numbers) upper

abbrev pub kept_where : {A : Type 0} → (A → Bool) → Option A → Option A
kept_where test None = None
kept_where test (Some x) = cond (test x) (Some x) None

-- the numbers `a.b` where one version is the release `a.b` and the other `a.(b+1)`
abbrev pub minor_between : VersionRecord → VersionRecord → Option (List ℕ)
minor_between lower upper = kept_where (is_minor_of lower upper) (two_numbers lower.release)

-- a comparison of a version, which has no local part there
abbrev pub version_term : VersionVariable → Operator → VersionRecord → ExpressionRecord
version_term key operator version =
    Version (key_of_variable key) (record { operator = operator; version = without_local version })

-- a comparison of a star
abbrev pub star_term : VersionVariable → Operator → VersionRecord → VersionRecord → Option ExpressionRecord
star_term key operator lower upper =
    option_map (λ numbers. version_term key operator (release_record numbers)) (minor_between lower upper)

abbrev pub version_saying : VersionVariable → Saying VersionRecord
version_saying key = record {
  cmp = version_cmp;
  equal = version_term key versions.Equal;
  differs = version_term key versions.NotEqual;
  at_least = version_term key versions.GreaterThanEqual;
  above = version_term key versions.GreaterThan;
  at_most = version_term key versions.LessThanEqual;
  below = version_term key versions.LessThan;
  star = star_term key versions.EqualStar;
  no_star = star_term key versions.NotEqualStar;
}

-- ---- texts, which no star expresses

abbrev pub text_saying : MarkerValueString → Saying (List ℕ)
text_saying key = record {
  cmp = text_cmp;
  equal = String key texts.Equal;
  differs = String key texts.NotEqual;
  at_least = String key texts.GreaterEqual;
  above = String key texts.GreaterThan;
  at_most = String key texts.LessEqual;
  below = String key texts.LessThan;
  star = λ lower upper. None;
  no_star = λ lower upper. None;
}

-- ---- flags

-- that the flag is set
abbrev pub set_term : Flag → ExpressionRecord
set_term (flag.In key text) = String key texts.In text
set_term (flag.Contains key text) = String key texts.Contains text
set_term (flag.Extra name) = Extra extras.Equal (Name name)
set_term (flag.Arbitrary text) = Extra extras.Equal (Arbitrary text)

-- that it is not
abbrev pub unset_term : Flag → ExpressionRecord
unset_term (flag.In key text) = String key texts.NotIn text
unset_term (flag.Contains key text) = String key texts.NotContains text
unset_term (flag.Extra name) = Extra extras.NotEqual (Name name)
unset_term (flag.Arbitrary text) = Extra extras.NotEqual (Arbitrary text)
