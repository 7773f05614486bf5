-- Lists of specifiers: their order, which versions they accept, and how many members are tested for that.
use Rattle.std.specs.Prelude.{ℕ, ◌+◌, ◌-◌, ◌^◌, Bool, nat_lt, if◌then◌else◌, List, [], ◌∷◌}
use Rattle.std.specs.List.{list_any, list_all}
use Rattle.std.specs.List.Sorted.{IsSortedByKey, IsStableByKey}
use Rattle.pep440_version.specs.Record.{VersionRecord}
use Rattle.pep440_version.specs.Changes.{is_prerelease}
use Rattle.pep440_version.specs.Order.{version_cmp}
use Rattle.pep440_specifier.specs.Matching.{SpecifierRecord, takes}

-- by version
abbrev pub IsByVersion : List SpecifierRecord → Type 0
IsByVersion = IsSortedByKey (λ s. s.version) version_cmp

-- the given members by version, those of equal versions in the order given
pub record IsInOrder (given : List SpecifierRecord) (members : List SpecifierRecord) : Type 0 where
  pub sorted : IsByVersion members
  pub stable : IsStableByKey (λ s. s.version) version_cmp given members

-- a list accepts what each member accepts (PEP 440, "Version specifiers")
abbrev pub matches_all : List SpecifierRecord → VersionRecord → Bool
matches_all members candidate = list_all (takes candidate) members

-- some member has a pre-release or a developmental release (PEP 440, "Handling of pre-releases")
abbrev pub any_prerelease : List SpecifierRecord → Bool
any_prerelease members = list_any (λ s. is_prerelease s.version) members

-- the number of members that are tested: up to the first that rejects, this one included
abbrev pub asked : List SpecifierRecord → VersionRecord → ℕ
asked [] candidate = 0
asked (member ∷ members) candidate = if takes candidate member then 1 + asked members candidate else 1

-- a list with the number of its members that were tested so far, up to 2 ^ 64 - 1
pub record CountedRecord : Type 0 where
  pub members : List SpecifierRecord
  pub tests : ℕ

-- the count raised by `more`, as far as 64 bits hold it
abbrev pub counted : CountedRecord → ℕ → CountedRecord
counted old more =
    record old { tests = if nat_lt (old.tests + more) (2 ^ 64) then old.tests + more else 2 ^ 64 - 1 }
