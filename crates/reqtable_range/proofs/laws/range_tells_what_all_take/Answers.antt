use Rattle.std.proofs.Common.{◌∙◌, ◌&&◌, sym}
use Rattle.version_ranges.specs.Point.{At}
use Rattle.version_ranges.specs.Held.{holds_at}
use Rattle.pep440_version.specs.Order.{version_cmp}
use Rattle.pep440_specifier_list.specs.Lists.{matches_all}
use Rattle.reqtable_range.specs.Together.{lent}
use Rattle.reqtable_range.proofs.Telling.{held_public}
use Rattle.reqtable_range.proofs.laws.range_tells_what_all_take.Goals as goal

pub returns : goal.returns
returns c = λ lists one candidate found plain.
    let simple = held_public one.simple candidate plain.no_local in
    c.simple_range_tells_what_all_take.ensures lists one candidate found plain.said
    ∙ (λ i. sym simple i
    && (holds_at version_cmp one.local (At candidate) && matches_all (lent one.single.items) candidate))
