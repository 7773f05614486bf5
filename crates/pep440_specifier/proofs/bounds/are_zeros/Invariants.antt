use Rattle.std.proofs.Common.{◌≡◌, [], drop}
use Rattle.pep440_specifier.specs.Matching.{begins_padded}
use Rattle.pep440_specifier.proofs.bounds.are_zeros.Given as goal

abbrev pub invariant-loop-number : goal.invariant-loop-number
invariant-loop-number l = begins_padded (drop l.number-index l.numbers) [] ≡ begins_padded l.numbers []
