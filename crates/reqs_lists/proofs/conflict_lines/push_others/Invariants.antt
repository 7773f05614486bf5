use Rattle.std.proofs.Common.{◌≡◌, ◌∷◌, ◌++◌, take, string_bytes}
use Rattle.std.specs.List.{flat_map}
use Rattle.std.specs.Fmt.{decimal}
use Rattle.reqs_lists.proofs.conflict_lines.push_others.Given as goal

abbrev pub invariant-loop-number : goal.invariant-loop-number
invariant-loop-number l =
    string_bytes l.text
    ≡ string_bytes l.fn.text ++ flat_map (λ number. 44 ∷ decimal number) (take l.number-index l.numbers)
