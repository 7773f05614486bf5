-- The input to a hash of a list.
use Rattle.std.specs.Prelude.{ℕ, List, ◌++◌}
use Rattle.std.specs.Hash as fed
use Rattle.std.specs.List.{flat_map}
use Rattle.pep440_specifier.specs.Matching.{SpecifierRecord}
use Rattle.pep440_specifier.specs.SpecifierHash.{fed_specifier}

-- the input to a hash of a list: each member with a byte before it, and a byte that ends it
abbrev pub fed_member : SpecifierRecord → List (List ℕ)
fed_member member = fed.u8 1 ++ fed_specifier member

abbrev pub fed_list : List SpecifierRecord → List (List ℕ)
fed_list members = flat_map fed_member members ++ fed.u8 0
