-- The rest of a set of points.
use Rattle.std.proofs.Common.{◌≡◌, ◌∙◌, not, List, Option, Some, None, Ok, refl, ap}
use Rattle.std.specs.Option.{option_map}
use Rattle.version_ranges.specs.Point.{Point}
use Rattle.version_ranges.specs.Held.{holds_at}
use Rattle.pep440_version.specs.Record.{VersionRecord}
use Rattle.pep440_version.specs.Order.{version_cmp}
use Rattle.pep440_range.specs.Ranges.{PointTest, all_but, Gives}

-- the rest of what was given is the rest of the range
pub rest_given : (set rest : List (Point VersionRecord)) (range : Option PointTest) → Gives (Ok set) range
    → ((p : Point VersionRecord) → holds_at version_cmp rest p ≡ not (holds_at version_cmp set p))
    → Gives (Ok rest) (option_map all_but range)
rest_given set rest (Some test) g h = (refl, λ p. h p ∙ ap not (g.1 p))
rest_given set rest None g h = absurd (cc)
