use Rattle.std.proofs.Common.{◌++◌, take}
use Rattle.std.specs.Fmt.{HasWritten, IsPlainFormatter}
use Rattle.std.specs.List.{flat_map}
use Rattle.pep440_specifier.specs.SpecifierPrint.{specifier_text}
use Rattle.pep440_specifier_list.specs.ListText.{behind_separator}
use Rattle.pep440_specifier_list.proofs.print.MembersDisplay.fmt.Given as goal

abbrev pub invariant-loop-member : goal.invariant-loop-member
invariant-loop-member g l =
    IsPlainFormatter l.fn.f → HasWritten g.W.Write.write_str_gives l.fn.f (specifier_text l.fn.self.first.now ++ flat_map (behind_separator l.fn.self.separator.now) (take l.member-index l.member-items)) l.f
