-- How often a table's specifiers were tested.
use Rattle.std.specs.Prelude.{ℕ, ◌+◌, ◌-◌, ◌^◌, min, List, [], ◌∷◌}
use Rattle.reqtable_table.specs.Kept.{KeptLine, KeptPackage}

-- a number, or the greatest of 64 bits if it is greater
abbrev pub up_to_64_bits : ℕ → ℕ
up_to_64_bits n = min n (2 ^ 64 - 1)

-- the number of tests of lines
abbrev pub tests_of : List KeptLine → ℕ
tests_of [] = 0
tests_of (line ∷ lines) = line.specifiers.tests + tests_of lines

abbrev pub all_tests : List KeptPackage → ℕ
all_tests [] = 0
all_tests (kept ∷ table) = tests_of kept.lines + all_tests table

-- the number of tests of all lines
abbrev pub table_tests : List KeptPackage → ℕ
table_tests table = up_to_64_bits (all_tests table)
