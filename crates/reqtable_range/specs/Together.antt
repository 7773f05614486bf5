-- What many lists of specifiers accept together, and the range of many specifiers.
use Rattle.std.specs.Prelude.{◌≡◌, Bool, true, List, [], map, None, Ok}
use Rattle.std.specs.Option.{is_some}
use Rattle.std.specs.List.{list_all, flat_map}
use Rattle.std.specs.Borrow.{Bor}
use Rattle.version_ranges.specs.Point.{Point}
use Rattle.pep440_version.specs.Record.{VersionRecord}
use Rattle.pep440_specifier.specs.Matching.{SpecifierRecord}
use Rattle.pep440_specifier_list.specs.Lists.{matches_all}
use Rattle.pep440_range.specs.Agreement.{IsSaid}
use Rattle.pep440_range.specs.Ranges.{range_of, GivesAll}

-- the specifiers of all lists
abbrev pub members_of : List (List SpecifierRecord) → List SpecifierRecord
members_of lists = flat_map (λ list. list) lists

-- each list accepts the version
abbrev pub all_take : List (List SpecifierRecord) → VersionRecord → Bool
all_take lists candidate = list_all (λ list. matches_all list candidate) lists

-- the specifiers that are borrowed
abbrev pub lent : List (Bor SpecifierRecord) → List SpecifierRecord
lent members = map (λ member. member.now) members

-- a version without a local part and a post-release, which marks no end of a range
pub record IsPlain (candidate : VersionRecord) : Type 0 where
  pub said : IsSaid candidate
  pub no_local : candidate.local ≡ []
  pub no_post : candidate.post ≡ None

-- a specifier has a range: it needs no number past 64 bits
abbrev pub HasRange : SpecifierRecord → Type 0
HasRange member = is_some (range_of member) ≡ true

-- each specifier has a range
abbrev pub HaveRanges : List SpecifierRecord → Type 0
HaveRanges members = list_all is_some (map range_of members) ≡ true

-- each specifier has a range, and a set is their intersection
abbrev pub IsShared : List SpecifierRecord → List (Point VersionRecord) → Type 0
IsShared members set = GivesAll (Ok set) (map range_of members)
