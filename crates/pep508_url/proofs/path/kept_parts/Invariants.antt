use Rattle.std.proofs.Common.{◌≡◌, map, length, take, eqb, Some}
use Rattle.std.specs.List.{slice_split}
use Rattle.pep508_url.specs.Paths.{normal_parts}
use Rattle.pep508_url.proofs.path.kept_parts.Given as goal

abbrev pub invariant-loop-part : goal.invariant-loop-part
invariant-loop-part l =
    normal_parts (take (length l.yielded) (slice_split (λ b. eqb b 47) l.path)) ≡ Some (map (λ part. part.now) l.kept.items)
