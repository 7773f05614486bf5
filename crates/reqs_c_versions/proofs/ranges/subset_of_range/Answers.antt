use Rattle.version_ranges.specs.Held.{holds_at}
use Rattle.pep440_version.specs.Order.{version_cmp}
use Rattle.reqs_c_versions.specs.Ranges.{IsSubset, GoesBeyond, SaysOfRanges, RefusesRanges}
use Rattle.reqs_c_versions.proofs.RangeAnswers.{ends_saying}
use Rattle.reqs_c_versions.proofs.ranges.subset_of_range.Goals as goal

pub returns-in-Ok : goal.returns-in-Ok
returns-in-Ok c =
    let left = c.args.left.now in
    let right = c.args.right.now in
    let first = holds_at version_cmp c.in-Ok.left in
    let second = holds_at version_cmp c.in-Ok.right in
    ends_saying (IsSubset first second) (GoesBeyond first second) c.is_subset.result (SaysOfRanges IsSubset GoesBeyond left right)
    (RefusesRanges left right) _ c.is_subset.ensures (λ text says. record {
      first = first;
      second = second;
      is_first = c.in-Ok.ensures.left;
      is_second = c.in-Ok.ensures.right;
      says = says;
    }) c.whether.ensures
