use Rattle.std.proofs.Common.{◌≡◌, ◌++◌, map}
use Rattle.std.specs.Prelude.{flat_map}
use Rattle.std.specs.String.{string_bytes}
use Rattle.pep508_url.specs.Expansion.{behind_dollar}
use Rattle.pep508_url.proofs.vars.expand_env_vars.Given as goal

abbrev pub invariant-loop-part : goal.invariant-loop-part
invariant-loop-part l =
    string_bytes l.expanded ≡ string_bytes l.initial.expanded ++ flat_map (behind_dollar l.vars) (map (λ part. part.now) l.yielded)
