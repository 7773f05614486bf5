use Rattle.std.proofs.Common.{◌≡◌, map, take, string_bytes}
use Rattle.pep440_specifier.specs.SpecifierPrint.{specifier_text}
use Rattle.reqs_c_versions.specs.Specifiers.{as_lines}
use Rattle.reqs_c_versions.proofs.specifier_lists.member_lines.Given as goal

abbrev pub invariant-loop-member : goal.invariant-loop-member
invariant-loop-member l =
    string_bytes l.text ≡ as_lines (map specifier_text (take l.member-index l.member-items))
