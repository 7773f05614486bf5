use Rattle.std.proofs.Common.{Ok}
use Rattle.version_ranges.specs.Held.{holds_at}
use Rattle.pep440_version.specs.Order.{version_cmp}
use Rattle.reqs_c_versions.specs.Ranges.{IsEmpty, HoldsSome, SaysIsEmpty, RefusesRange}
use Rattle.reqs_c_versions.proofs.RangeAnswers.{ends_saying}
use Rattle.reqs_c_versions.proofs.ranges.empty_range.Goals as goal

pub returns-in-Ok : goal.returns-in-Ok
returns-in-Ok c =
    let bytes = c.args.bytes.now in
    let range = holds_at version_cmp c.in-Ok.range in
    ends_saying (IsEmpty range) (HoldsSome range) {E = Unit {0}} (Ok c.is_empty.result) (SaysIsEmpty bytes)
    (RefusesRange 1 bytes) _ c.is_empty.ensures
    (λ text says. record { range = range; is_range = c.in-Ok.ensures.range; says = says }) c.mark.ensures
