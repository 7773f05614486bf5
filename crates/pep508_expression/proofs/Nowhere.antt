-- The tree that never holds.
use Rattle.std.proofs.Common.{◌≡◌, ◌∙◌, ℕ, Bool, false, zero-le, refl, sym, true≢false, List, Option, Some, None}
use Rattle.std.specs.Option.{is_some}
use Rattle.version_ranges.specs.Point.{Point}
use Rattle.pep440_text.specs.Record.{VersionRecord}
use Rattle.pep440_range.specs.Ranges.{PointTest}
use Rattle.pep508_marker.specs.Expression.{ExpressionRecord, Version, VersionIn, String, Extra}
use Rattle.pep508_marker.specs.declared.keys.MarkerValueString.{MarkerValueString}
use Rattle.pep508_marker.specs.declared.operators.MarkerOperator.TheVariants.{TildeEqual}
use Rattle.pep508_diagram.specs.Question.{Valuation}
use Rattle.pep508_tree.specs.Tree.{never}
use Rattle.pep508_tree.specs.Meaning.{NodeRecord}
use Rattle.pep508_tree.specs.Truths.{IsTreeOf}
use Rattle.pep508_tree.proofs.Disjoint.{never_holds}
use Rattle.pep508_expression.specs.Expressions.{or_nowhere, has_points, expression_holds, variable_of}
use Rattle.pep508_expression.specs.Expressions.{compared_points, listed_points, text_holds}

never_tree : (nodes : List NodeRecord) (says : Valuation → Bool) → ((v : Valuation) → says v ≡ false) →
    IsTreeOf nodes says never
never_tree nodes says none = record { made = zero-le; truth = λ v. never_holds nodes v ∙ sym (none v) }

nowhere_at : (points : Option PointTest) (p : Point VersionRecord) → is_some points ≡ false →
    or_nowhere points p ≡ false
nowhere_at (Some points) p e = absurd (true≢false e)
nowhere_at None p e = refl

nowhere : (e : ExpressionRecord) → has_points e ≡ false → (v : Valuation) → expression_holds e v ≡ false
unfolding has_points expression_holds
nowhere (Version key specifier) h v = nowhere_at (compared_points key specifier) (v.version (variable_of key)) h
nowhere (VersionIn key versions negated) h v =
    nowhere_at (listed_points key negated versions) (v.version (variable_of key)) h
nowhere (String key operator text) h v = absurd (true≢false h)
nowhere (Extra operator asked) h v = absurd (true≢false h)

-- a comparison without points holds nowhere
pub nowhere_tree : (nodes : List NodeRecord) (e : ExpressionRecord) → has_points e ≡ false →
    IsTreeOf nodes (expression_holds e) never
nowhere_tree nodes e h = never_tree nodes (expression_holds e) (nowhere e h)

-- so does one of texts by `~=`
pub no_text_tree : (nodes : List NodeRecord) (key : MarkerValueString) (text : List ℕ) →
    IsTreeOf nodes (text_holds key TildeEqual text) never
no_text_tree nodes key text = never_tree nodes (text_holds key TildeEqual text) (λ v. refl)
