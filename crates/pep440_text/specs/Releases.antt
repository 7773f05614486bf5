-- The numbers of a release, wherever they lie, and numbers that are raised by one.
use Rattle.std.specs.Prelude.{ℕ, ◌+◌, ◌^◌, nat_lt, if◌then◌else◌, List, [], ◌∷◌, Option, Some, None}
use Rattle.std.specs.Option.{option_map}
use Rattle.pep440_text.specs.declared.release.Release.{Release}
use Rattle.pep440_text.specs.declared.release.Release.TheVariants.{One, Two, Three, More}

-- the numbers, the first in front (PEP 440, "Final releases")
abbrev pub numbers_of : Release → List ℕ
numbers_of (One numbers) = numbers
numbers_of (Two numbers) = numbers
numbers_of (Three numbers) = numbers
numbers_of (More numbers) = numbers.items

-- one more, where 64 bits hold it
abbrev pub raised : ℕ → Option ℕ
raised number = if nat_lt (number + 1) (2 ^ 64) then Some (number + 1) else None

-- release numbers, of which there is at least one, with the last of them raised
abbrev pub last_raised : List ℕ → Option (List ℕ)
last_raised [] = None
last_raised (number ∷ []) = option_map (λ next. next ∷ []) (raised number)
last_raised (number ∷ other ∷ numbers) = option_map (λ later. number ∷ later) (last_raised (other ∷ numbers))
