use Rattle.std.proofs.Common.{rules}
use Rattle.pep508_marker_display.proofs.Minor.{no_minor}
use Rattle.pep508_marker_display.proofs.says.is_minor_of.Goals as goal

pub returns-then-not-is_only_release : goal.returns-then-not-is_only_release
returns-then-not-is_only_release c =
    no_minor c.args.release.now.release c.args.lower.now c.args.upper.now c.is_only_release.result
    c.is_only_release.ensures (search rules)
