use Rattle.std.proofs.Common.{◌++◌, take}
use Rattle.std.specs.Fmt.{HasWritten, IsPlainFormatter}
use Rattle.std.specs.List.{flat_map}
use Rattle.pep440_text.specs.Print.{version_text}
use Rattle.pep508_marker.specs.Expression.{behind_blank}
use Rattle.pep508_marker.proofs.expression_print.VersionsDisplay.fmt.Given as goal

abbrev pub invariant-loop-version : goal.invariant-loop-version
invariant-loop-version g l =
    IsPlainFormatter l.fn.f → HasWritten g.W.Write.write_str_gives l.fn.f (version_text l.fn.self.first.now ++ flat_map behind_blank (take l.version-index l.version-items)) l.f
