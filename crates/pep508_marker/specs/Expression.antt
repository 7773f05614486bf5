-- Comparisons of markers, and their prints (PEP 508, "Environment Markers").
use Rattle.std.specs.Prelude.{ℕ, Bool, if◌then◌else◌, List, [], ◌∷◌, ◌++◌, codes}
use Rattle.std.specs.List.{flat_map}
use Rattle.std.specs.String.{string_bytes}
use Rattle.pep440_text.specs.Record.{VersionRecord}
use Rattle.pep440_specifier.specs.Matching.{SpecifierRecord}
use Rattle.pep440_operator.specs.OperatorPrint.{operator_text, star_text}
use Rattle.pep440_text.specs.Print.{version_text}
use Rattle.pep508_marker.specs.declared.keys.MarkerValueVersion.{MarkerValueVersion}
use Rattle.pep508_marker.specs.declared.keys.MarkerValueString.{MarkerValueString}
use Rattle.pep508_marker.specs.declared.operators.ExtraOperator.{ExtraOperator}
use Rattle.pep508_marker.specs.declared.operators.MarkerOperator.{MarkerOperator}
use Rattle.pep508_marker.specs.declared.operators.MarkerOperator.TheVariants.{Equal, NotEqual, GreaterThan}
use Rattle.pep508_marker.specs.declared.operators.MarkerOperator.TheVariants.{GreaterEqual, LessThan}
use Rattle.pep508_marker.specs.declared.operators.MarkerOperator.TheVariants.{LessEqual, TildeEqual, In}
use Rattle.pep508_marker.specs.declared.operators.MarkerOperator.TheVariants.{NotIn, Contains, NotContains}
use Rattle.pep508_marker.specs.declared.expression.MarkerExpression.{MarkerExpression}
use Rattle.pep508_marker.specs.declared.expression.MarkerExpression.TheVariants as rust
use Rattle.pep508_marker.specs.Keys.{version_key_name, text_key_name}
use Rattle.pep508_marker.specs.Operators.{marker_operator_text, extra_operator_text}
use Rattle.pep508_marker.specs.Values.{ExtraRecord, extra_of, extra_text}

-- a comparison: a version with a specifier; a version with the versions of a list, or none of them; a text
-- with a text; an extra
pub data ExpressionRecord : Type 0 where
  Version : MarkerValueVersion → SpecifierRecord → ExpressionRecord
  VersionIn : MarkerValueVersion → List VersionRecord → Bool → ExpressionRecord
  String : MarkerValueString → MarkerOperator → List ℕ → ExpressionRecord
  Extra : ExtraOperator → ExtraRecord → ExpressionRecord

-- that of the program, with texts as their bytes
abbrev pub expression_of : MarkerExpression → ExpressionRecord
expression_of (rust.Version key specifier) = Version key specifier
expression_of (rust.VersionIn key versions negated) = VersionIn key versions.items negated
expression_of (rust.String key operator value) = String key operator (string_bytes value)
expression_of (rust.Extra operator name) = Extra operator (extra_of name)

-- a term of a key, an operator and a quoted text
abbrev pub term_text : List ℕ → List ℕ → List ℕ → List ℕ
term_text key operator value = key ++ codes " " ++ operator ++ codes " '" ++ value ++ codes "'"

-- a term whose quoted text comes first
abbrev pub turned_text : List ℕ → List ℕ → List ℕ → List ℕ
turned_text key operator value = codes "'" ++ value ++ codes "' " ++ operator ++ codes " " ++ key

-- a comparison of a text; of containment the sides are exchanged
abbrev pub string_text : MarkerOperator → List ℕ → List ℕ → List ℕ
string_text Equal key value = term_text key (marker_operator_text Equal) value
string_text NotEqual key value = term_text key (marker_operator_text NotEqual) value
string_text GreaterThan key value = term_text key (marker_operator_text GreaterThan) value
string_text GreaterEqual key value = term_text key (marker_operator_text GreaterEqual) value
string_text LessThan key value = term_text key (marker_operator_text LessThan) value
string_text LessEqual key value = term_text key (marker_operator_text LessEqual) value
string_text TildeEqual key value = term_text key (marker_operator_text TildeEqual) value
string_text In key value = term_text key (marker_operator_text In) value
string_text NotIn key value = term_text key (marker_operator_text NotIn) value
string_text Contains key value = turned_text key (marker_operator_text Contains) value
string_text NotContains key value = turned_text key (marker_operator_text NotContains) value

abbrev pub behind_blank : VersionRecord → List ℕ
behind_blank version = codes " " ++ version_text version

-- versions with a blank between them
abbrev pub versions_text : List VersionRecord → List ℕ
versions_text [] = []
versions_text (version ∷ versions) = version_text version ++ flat_map behind_blank versions

abbrev pub list_operator_text : Bool → List ℕ
list_operator_text negated = if negated then codes "not in" else codes "in"

-- the print of a comparison, which reads back as it in a marker
abbrev pub expression_text : ExpressionRecord → List ℕ
expression_text (Version key specifier) =
    term_text (version_key_name key) (operator_text specifier.operator)
    (version_text specifier.version ++ star_text specifier.operator)
expression_text (VersionIn key versions negated) =
    term_text (version_key_name key) (list_operator_text negated) (versions_text versions)
expression_text (String key operator value) = string_text operator (text_key_name key) value
expression_text (Extra operator name) =
    term_text (codes "extra") (extra_operator_text operator) (extra_text name)
