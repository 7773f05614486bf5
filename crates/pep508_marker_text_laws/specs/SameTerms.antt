-- When two terms of clauses are the same, and when one is the negation of the other: of one key and one
-- value. A clause contains no list of versions.
use Rattle.std.specs.Prelude.{ℕ, ◌==◌, ◌&&◌, Bool, false, List}
use Rattle.std.specs.Option.{option_map_or}
use Rattle.std.specs.Ordering.{eq_by_cmp}
use Rattle.pep440_text.specs.Record.{VersionRecord}
use Rattle.pep440_version.specs.Order.{version_eq}
use Rattle.pep440_operator.specs.Operators.{negated}
use Rattle.pep440_specifier.specs.SpecifierOrder.{operator_rank}
use Rattle.pep440_operator.specs.declared.operator.Operator.{Operator}
use Rattle.pep508_marker.specs.declared.operators.ExtraOperator.{ExtraOperator}
use Rattle.pep508_marker.specs.declared.operators.ExtraOperator.TheVariants as extras
use Rattle.pep508_marker.specs.declared.operators.MarkerOperator.{MarkerOperator}
use Rattle.pep508_marker.specs.declared.operators.MarkerOperator.TheVariants.{Equal, NotEqual, GreaterThan}
use Rattle.pep508_marker.specs.declared.operators.MarkerOperator.TheVariants.{GreaterEqual, LessThan}
use Rattle.pep508_marker.specs.declared.operators.MarkerOperator.TheVariants.{LessEqual, TildeEqual, In}
use Rattle.pep508_marker.specs.declared.operators.MarkerOperator.TheVariants.{NotIn, Contains, NotContains}
use Rattle.pep508_marker.specs.Expression.{ExpressionRecord, Version, String, Extra}
use Rattle.pep508_marker.specs.Keys.{version_key_rank, text_key_rank}
use Rattle.pep508_marker.specs.Operators.{marker_negated, extra_negated}
use Rattle.pep508_marker.specs.Values.{ExtraRecord, Name, Arbitrary}
use Rattle.pep508_diagram.specs.Text.{text_cmp}

-- ---- operators, in the order of their variants

abbrev pub marker_operator_rank : MarkerOperator → ℕ
marker_operator_rank Equal = 0
marker_operator_rank NotEqual = 1
marker_operator_rank GreaterThan = 2
marker_operator_rank GreaterEqual = 3
marker_operator_rank LessThan = 4
marker_operator_rank LessEqual = 5
marker_operator_rank TildeEqual = 6
marker_operator_rank In = 7
marker_operator_rank NotIn = 8
marker_operator_rank Contains = 9
marker_operator_rank NotContains = 10

abbrev pub extra_operator_rank : ExtraOperator → ℕ
extra_operator_rank extras.Equal = 0
extra_operator_rank extras.NotEqual = 1

-- ---- values

abbrev pub same_text : List ℕ → List ℕ → Bool
same_text = eq_by_cmp text_cmp

-- equal versions with equally many release numbers, which a star counts
abbrev pub same_version : VersionRecord → VersionRecord → Bool
same_version v w = version_eq v w && same_text v.release w.release

abbrev pub same_extra : ExtraRecord → ExtraRecord → Bool
same_extra (Name name) (Name other) = same_text name other
same_extra (Arbitrary text) (Arbitrary other) = same_text text other
same_extra asked other = false

-- ---- terms

-- one key and one value, and operators that the test accepts
abbrev pub terms_by : (Operator → Operator → Bool) → (MarkerOperator → MarkerOperator → Bool)
    → (ExtraOperator → ExtraOperator → Bool) → ExpressionRecord → ExpressionRecord → Bool
terms_by versions texts names (Version key specifier) (Version other_key other) =
    version_key_rank key == version_key_rank other_key
    && (versions specifier.operator other.operator && same_version specifier.version other.version)
terms_by versions texts names (String key operator text) (String other_key other other_text) =
    text_key_rank key == text_key_rank other_key && (texts operator other && same_text text other_text)
terms_by versions texts names (Extra operator asked) (Extra other other_asked) =
    names operator other && same_extra asked other_asked
terms_by versions texts names term other = false

-- the same term
abbrev pub same_term : ExpressionRecord → ExpressionRecord → Bool
same_term =
    terms_by (λ a b. operator_rank a == operator_rank b)
    (λ a b. marker_operator_rank a == marker_operator_rank b)
    (λ a b. extra_operator_rank a == extra_operator_rank b)

-- the negation of a term: `==` and `!=`, also with stars, `<` and `>=`, `<=` and `>`, `in` and `not in`
abbrev pub opposite_term : ExpressionRecord → ExpressionRecord → Bool
opposite_term =
    terms_by (λ a b. option_map_or (λ c. operator_rank c == operator_rank b) (negated a) false)
    (λ a b. option_map_or (λ c. marker_operator_rank c == marker_operator_rank b) (marker_negated a) false)
    (λ a b. extra_operator_rank (extra_negated a) == extra_operator_rank b)
