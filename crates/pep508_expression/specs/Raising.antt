-- Numbers that can be raised by one.
use Rattle.std.specs.Prelude.{ℕ, ◌^◌, ◌-◌, nat_lt, Bool}
use Rattle.std.specs.List.{list_all}
use Rattle.pep440_text.specs.Record.{VersionRecord}

-- less than the greatest of 64 bits
abbrev pub is_small : ℕ → Bool
is_small number = nat_lt number (2 ^ 64 - 1)

abbrev pub has_small : VersionRecord → Bool
has_small version = list_all is_small version.release
