use Rattle.std.proofs.Common.{◌≡◌, map, take}
use Rattle.pep508_url.specs.Vars.{copied_pair}
use Rattle.pep508_url.proofs.vars.Vars.new.Given as goal

abbrev pub invariant-loop-name : goal.invariant-loop-name
invariant-loop-name l =
    map copied_pair l.copies.items ≡ map (λ pair. (pair.0.now, pair.1.now)) (take l.name-index l.pairs)
