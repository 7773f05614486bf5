-- The input to a hash of a specifier.
use Rattle.std.specs.Prelude.{ℕ, List}
use Rattle.pep440_version.specs.Order.{fed_key}
use Rattle.pep440_specifier.specs.Matching.{SpecifierRecord}
use Rattle.pep440_specifier.specs.SpecifierOrder.{specifier_key}

-- the input to a hash of a specifier: its key
abbrev pub fed_specifier : SpecifierRecord → List (List ℕ)
fed_specifier specifier = fed_key (specifier_key specifier)
