-- Specifiers by which versions their ranges decide.
use Rattle.std.specs.Prelude.{◌≡◌, ◌&&◌, true, List, [], All}
use Rattle.pep440_version.specs.Record.{VersionRecord}
use Rattle.pep440_specifier.specs.Building.{IsBuilt}
use Rattle.pep440_specifier.specs.Matching.{SpecifierRecord, takes}
use Rattle.pep440_specifier_list.specs.Lists.{matches_all}
use Rattle.pep440_range.specs.Agreement.{AgreesEverywhere, IsSimple}
use Rattle.reqtable_range.specs.declared.specifier_sets.Kind.{Kind}
use Rattle.reqtable_range.specs.declared.specifier_sets.Kind.TheVariants.{Simple, Local, Single}
use Rattle.reqtable_range.specs.declared.specifier_sets.Sorted.{Sorted}
use Rattle.reqtable_range.specs.Together.{lent, HasRange}

-- a specifier with a local part, but for `===`: a `==` or `!=`, as no other operator allows one
pub record IsLocal (specifier : SpecifierRecord) : Type 0 where
  pub built : IsBuilt specifier
  pub has_local : ¬ (specifier.version.local ≡ [])
  pub agrees : AgreesEverywhere specifier.operator specifier.version

-- the range of a simple specifier decides each version that can be written, without its local part; that of
-- a local one each version as it is; the range of a single one is missing, or decides some versions alone
abbrev pub IsOfKind : Kind → SpecifierRecord → Type 0
IsOfKind Simple member = HasRange member × IsSimple member
IsOfKind Local member = IsLocal member
IsOfKind Single member = (¬ (HasRange member × IsSimple member)) × (¬ (IsLocal member))

-- specifiers accept a version together exactly if those of all three kinds do
abbrev pub TakeAs : List SpecifierRecord → List SpecifierRecord → List SpecifierRecord
    → List SpecifierRecord → Type 0
TakeAs members simple local single =
    (version : VersionRecord) → matches_all members version
    ≡ (matches_all simple version && (matches_all local version && matches_all single version))

-- specifiers by their kinds
pub record SortsInto (members : List SpecifierRecord) (sorted : Sorted) : Type 0 where
  pub simple : All (IsOfKind Simple) (lent sorted.simple.items)
  pub local : All (IsOfKind Local) (lent sorted.local.items)
  pub single : All (IsOfKind Single) (lent sorted.single.items)
  pub take : TakeAs members (lent sorted.simple.items) (lent sorted.local.items)
      (lent sorted.single.items)

-- each version that the one specifier accepts is accepted by the other
abbrev pub Implies : SpecifierRecord → SpecifierRecord → Type 0
Implies one other = (version : VersionRecord) → takes version one ≡ true → takes version other ≡ true

-- specifiers that accept together what others do; they are single ones where those are
pub record StandFor (members fewer : List SpecifierRecord) : Type 0 where
  pub same : (version : VersionRecord) → matches_all fewer version ≡ matches_all members version
  pub single : All (IsOfKind Single) members → All (IsOfKind Single) fewer
