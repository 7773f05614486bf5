use Rattle.std.proofs.Common.{◌≡◌, ◌∷◌, ◌++◌, take, string_bytes}
use Rattle.std.specs.List.{flat_map}
use Rattle.reqtable_answer.proofs.answer.push_others.Given as goal

abbrev pub invariant-loop-extra : goal.invariant-loop-extra
invariant-loop-extra l =
    string_bytes l.text ≡ string_bytes l.fn.text ++ flat_map (λ extra. 44 ∷ extra) (take l.extra-index l.extras)
