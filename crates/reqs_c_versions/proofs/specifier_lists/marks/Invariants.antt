use Rattle.std.proofs.Common.{◌≡◌, map, take}
use Rattle.reqs_c_versions.specs.Specifiers.{taken_mark}
use Rattle.reqs_c_versions.specs.Versions.{version_in}
use Rattle.reqs_c_versions.proofs.specifier_lists.marks.Given as goal

abbrev pub invariant-loop-line : goal.invariant-loop-line
invariant-loop-line l =
    l.marks.items
    ≡ map (λ line. taken_mark l.list (version_in line)) (map (λ line. line.now) (take l.line-index l.line-items))
