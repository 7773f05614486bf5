use Rattle.std.proofs.Common.{◌≡◌, ◌++◌, map, take}
use Rattle.reqtable_answer.proofs.extras.lend.Given as goal

abbrev pub invariant-loop-extra : goal.invariant-loop-extra
invariant-loop-extra l = map (λ extra. extra.now) l.lent.items ≡ map (λ extra. extra.now) l.fn.lent.items ++ take l.extra-index l.extras
