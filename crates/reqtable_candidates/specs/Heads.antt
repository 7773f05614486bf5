-- The heads of versions as numbers, whose order is that of the versions unless the heads are equal.
use Rattle.std.specs.Prelude.{ℕ, ◌+◌, ◌-◌, ◌*◌, ◌^◌, ◌==◌, min, if◌then◌else◌, get_or}
use Rattle.pep440_text.specs.Record.{VersionRecord}

-- two numbers as one, 32 bits for each: a larger second number counts as the greatest of 32 bits, and a
-- larger first one makes the greatest of 64
abbrev pub two_numbers : ℕ → ℕ → ℕ
two_numbers first second = min (first * 2 ^ 32 + min second (2 ^ 32 - 1)) (2 ^ 64 - 1)

-- the first two numbers of a release, of which a missing one is 0; the greatest of 64 bits if there is an
-- epoch
unfoldable pub head_of : VersionRecord → ℕ
head_of version =
    if version.epoch == 0 then two_numbers (get_or version.release 0 0) (get_or version.release 1 0)
    else 2 ^ 64 - 1
