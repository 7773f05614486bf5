-- The single range of many lists.
use Rattle.std.specs.Prelude.{List, All}
use Rattle.pep440_specifier.specs.Matching.{SpecifierRecord}
use Rattle.reqtable_range.specs.declared.one.OneRange.{OneRange}
use Rattle.reqtable_range.specs.declared.specifier_sets.Kind.TheVariants.{Simple, Local, Single}
use Rattle.reqtable_range.specs.Sorting.{IsOfKind, TakeAs}
use Rattle.reqtable_range.specs.Together.{lent, IsShared}

-- the ranges of the simple and of the local ones of the specifiers, and single ones; with these they accept
-- what all of the specifiers do
pub record FindsOne (members : List SpecifierRecord) (one : OneRange) : Type 0 where
  pub simple_members : List SpecifierRecord
  pub are_simple : All (IsOfKind Simple) simple_members
  pub simple : IsShared simple_members one.simple
  pub local_members : List SpecifierRecord
  pub are_local : All (IsOfKind Local) local_members
  pub local : IsShared local_members one.local
  pub are_single : All (IsOfKind Single) (lent one.single.items)
  pub take : TakeAs members simple_members local_members (lent one.single.items)
