-- The order of lists: member by member, each by operator and then by version; a list comes before a longer
-- one that begins with it.
use Rattle.std.specs.Prelude.{Bool, List}
use Rattle.std.specs.declared.cmp.Ordering.{Ordering}
use Rattle.std.specs.Ordering.{eq_by_cmp}
use Rattle.std.specs.Cmp.Lexicographic.{slice_cmp}
use Rattle.pep440_specifier.specs.Matching.{SpecifierRecord}
use Rattle.pep440_specifier.specs.SpecifierOrder.{specifier_cmp}

-- the order of lists
abbrev pub list_cmp : List SpecifierRecord → List SpecifierRecord → Ordering
list_cmp = slice_cmp specifier_cmp

abbrev pub list_eq : List SpecifierRecord → List SpecifierRecord → Bool
list_eq = eq_by_cmp list_cmp
