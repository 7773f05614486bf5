use Rattle.std.proofs.Common.{◌++◌, take}
use Rattle.std.specs.Fmt.{HasWritten, IsPlainFormatter}
use Rattle.std.specs.List.{flat_map}
use Rattle.pep508_requirement_ref.specs.RequirementPrint.{behind_comma}
use Rattle.pep508_requirement_ref.proofs.requirement_parts.NamesDisplay.fmt.Given as goal

abbrev pub invariant-loop-name : goal.invariant-loop-name
invariant-loop-name g l =
    IsPlainFormatter l.fn.f → HasWritten g.W.Write.write_str_gives l.fn.f
    (l.fn.self.first.now ++ flat_map behind_comma (take l.name-index l.name-items)) l.f
