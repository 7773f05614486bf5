use Rattle.version_ranges.specs.Held.{holds_at}
use Rattle.pep440_version.specs.Order.{version_cmp}
use Rattle.reqs_c_versions.proofs.RangeAnswers.{subset_by}
use Rattle.reqs_c_versions.proofs.ranges.is_subset.Goals as goal

pub returns : goal.returns
returns c =
    subset_by (holds_at version_cmp c.in_ok-both.both) (holds_at version_cmp c.args.left.now)
    (holds_at version_cmp c.args.right.now) (holds_at version_cmp c.in_ok-others.others) c.is_empty.result
    c.is_empty.ensures c.in_ok-others.ensures c.in_ok-both.ensures
