-- Release numbers that are raised by one.
use Rattle.std.specs.Prelude.{◌≡◌, Option, Some, None, Result, Ok, Err}
use Rattle.pep440_range.specs.declared.range_error.RangeError.{RangeError}
use Rattle.pep440_range.specs.declared.range_error.RangeError.TheVariants.{NumberAtEnd, Memory}

-- a result, seen by `view`, is what is raised, and is an error where 64 bits don't hold that; only lack of
-- memory leaves both open
abbrev pub Raises : {A B : Type 0} → (A → B) → Result A RangeError → Option B → Type 0
Raises view (Ok number) found = found ≡ Some (view number)
Raises view (Err NumberAtEnd) found = found ≡ None
Raises view (Err Memory) found = Unit {0}
