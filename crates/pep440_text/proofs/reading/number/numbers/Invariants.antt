use Rattle.std.proofs.Common.{◌≡◌, ◌-◌, ◌∷◌, [], length}
use Rattle.pep440_text.specs.Reading.{with_front, numbers_at}
use Rattle.pep440_text.proofs.reading.number.numbers.Given as goal

abbrev pub invariant-loop : goal.invariant-loop
invariant-loop l = with_front l.numbers.items (numbers_at (length l.bytes - l.counter) l.rest) ≡ with_front (l.fn.first ∷ []) (numbers_at (length l.bytes) l.bytes)
