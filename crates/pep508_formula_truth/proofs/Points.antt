-- The points of a comparison, if it has any.
use Rattle.std.proofs.Common.{◌≡◌, ◌∙◌, Bool, false, refl, true≢false, Option, Some, None, is_some}
use Rattle.version_ranges.specs.Point.{Point}
use Rattle.pep440_text.specs.Record.{VersionRecord}
use Rattle.pep440_range.specs.Ranges.{PointTest, range_holds}
use Rattle.pep508_expression.specs.Expressions.{or_nowhere}

pub held_there : (points : Option PointTest) (p : Point VersionRecord) (answer held : Bool) → answer ≡ held →
    held ≡ range_holds points p → answer ≡ or_nowhere points p
held_there (Some points) p answer held a b = a ∙ b
held_there None p answer held a b = a ∙ b

pub nowhere_there : (points : Option PointTest) (p : Point VersionRecord) → is_some points ≡ false →
    false ≡ or_nowhere points p
nowhere_there (Some points) p e = absurd (true≢false e)
nowhere_there None p e = refl
