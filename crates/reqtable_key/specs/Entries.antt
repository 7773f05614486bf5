-- What the cases of packages require, as the program gathers it.
use Rattle.std.specs.Prelude.{◌≡◌, ◌++◌, ℕ, Bool, true, false, List, [], ◌∷◌, map, filter, flat_map}
use Rattle.std.specs.Prelude.{Option, Some, None, Result, Ok, Err, Vec}
use Rattle.std.specs.Borrow.{Bor}
use Rattle.std.specs.BTreeMap.{BTreeMap}
use Rattle.std.specs.Global.{Global}
use Rattle.std.specs.List.{list_any, AllZip, AllByRecursion}
use Rattle.std.specs.List.Sorted.{IsStrictlySortedBy}
use Rattle.std.specs.Option.{option_map_or}
use Rattle.std.specs.Ordering.{nat_cmp}
use Rattle.std.specs.Cmp.Lexicographic.{slice_cmp}
use Rattle.std.specs.Str.{bytes_eq}
use Rattle.version_ranges.specs.Point.{Point}
use Rattle.version_ranges.specs.Held.{IsNormal}
use Rattle.pep440_version.specs.Record.{VersionRecord}
use Rattle.pep440_version.specs.Order.{version_cmp}
use Rattle.pep508_diagram.specs.Question.{Valuation, truth, IsCanonical}
use Rattle.pep508_tree.specs.Tree.{Tree}
use Rattle.pep508_tree.specs.Meaning.{NodeRecord, Extends, holds}
use Rattle.reqtable_answer.specs.Groups.{group_of, has_group}
use Rattle.pep508_marker_key.specs.Told.{listed_bytes}
use Rattle.reqtable_compare.specs.declared.sides.SameError.{SameError}
use Rattle.reqtable_compare.specs.Differences.{Listed, Sums}
use Rattle.reqtable_compare.specs.Summed.{SummaryRecord}
use Rattle.reqtable_key.specs.declared.entries.Entry.{Entry}
use Rattle.reqtable_key.specs.Heads.{head_bytes}
use Rattle.reqtable_key.specs.Keys.{Region, region_bytes}

-- the bytes of what a case requires, and its tree
abbrev pub EntryRecord : Type 0
EntryRecord = List ℕ × Tree

abbrev pub entry_seen : Entry → EntryRecord
entry_seen entry = (entry.head.items, entry.tree)

abbrev pub entry_by : List ℕ → SummaryRecord → Option (List (Point VersionRecord)) → List EntryRecord
entry_by name s None = []
entry_by name s (Some range) = (head_bytes name s.extras range s.prerelease, s.tree) ∷ []

abbrev pub entry_if : List ℕ → SummaryRecord → Bool → List EntryRecord
entry_if name s false = []
entry_if name s true = entry_by name s s.range

-- the entry of a case of a package, if the case has lines
abbrev pub own_entries : List ℕ → SummaryRecord → List EntryRecord
own_entries name s = entry_if name s s.some

abbrev pub IsNormalIf : Option (List (Point VersionRecord)) → Type 0
IsNormalIf None = Unit {0}
IsNormalIf (Some range) = IsNormal version_cmp range

-- the range of a case with lines is in its one form
abbrev pub HasNormal : SummaryRecord → Type 0
HasNormal s = s.some ≡ true → IsNormalIf s.range

-- the entries of the cases of a package
pub record AreOwn (side : Listed) (name : List ℕ) (entries : List EntryRecord) : Type 0 where
  pub summaries : List SummaryRecord
  pub sums : Sums side name summaries
  pub normal : AllByRecursion HasNormal summaries
  pub are : entries ≡ flat_map (own_entries name) summaries

-- those of some packages, one after another
pub record AreOfPackages (side : Listed) (names : List (List ℕ)) (entries : List EntryRecord) : Type 0 where
  pub parts : List (List EntryRecord)
  pub each : AllZip (AreOwn side) names parts
  pub are : entries ≡ flat_map (λ part. part) parts

-- entries were appended, those of a package
pub record AppendsOwn (side : Listed) (name : List ℕ) (old new : List EntryRecord) : Type 0 where
  pub own : List EntryRecord
  pub are : AreOwn side name own
  pub appended : new ≡ old ++ own

abbrev pub key_seen : Result (Vec ℕ Global) SameError → Result (List ℕ) SameError
key_seen (Ok key) = Ok key.items
key_seen (Err error) = Err error

-- ---- by their bytes

abbrev pub is_under : List ℕ → EntryRecord → Bool
is_under bytes entry = bytes_eq bytes entry.0

-- the trees of the entries with these bytes
abbrev pub trees_under : List ℕ → List EntryRecord → List Tree
trees_under bytes entries = map (λ e. e.1) (filter (is_under bytes) entries)

-- the trees of a group of entries
abbrev pub trees_at : {Y : Type 0} → BTreeMap (Bor (List ℕ)) (Vec Tree Y) → List ℕ → List Tree
trees_at groups bytes = option_map_or (λ trees. trees.items) (group_of groups bytes) []

-- one of some trees holds
abbrev pub any_holds : List NodeRecord → List Tree → Valuation → Bool
any_holds nodes trees v = list_any (λ t. holds nodes t v) trees

-- the region where one of some trees holds was appended
pub record AppendsRegion (nodes : List NodeRecord) (bytes : List ℕ) (trees : List Tree) (old new : List ℕ)
    : Type 0 where
  pub region : Region
  pub under : region.0 ≡ bytes
  pub canonical : IsCanonical region.1
  pub means : (v : Valuation) → truth region.1 v ≡ any_holds nodes trees v
  pub appended : new ≡ old ++ 1 ∷ region_bytes region

-- the regions of groups, whose trees are of these nodes
abbrev pub IsRegionOf : {Y : Type 0} → List NodeRecord → BTreeMap (Bor (List ℕ)) (Vec Tree Y) → Region → Type 0
IsRegionOf nodes groups r =
    IsCanonical r.1 × ((v : Valuation) → truth r.1 v ≡ any_holds nodes (trees_at groups r.0) v)

-- the key of groups: the regions of all, in the order of their bytes
pub record WritesRegions {Y : Type 0} (nodes : List NodeRecord) (groups : BTreeMap (Bor (List ℕ)) (Vec Tree Y))
    (key : List ℕ) : Type 0 where
  pub regions : List Region
  pub rising : IsStrictlySortedBy (slice_cmp nat_cmp) (map (λ r. r.0) regions)
  pub all : (q : List ℕ) → list_any (bytes_eq q) (map (λ r. r.0) regions) ≡ has_group groups q
  pub each : AllByRecursion (IsRegionOf nodes groups) regions
  pub is : key ≡ listed_bytes region_bytes regions

-- the regions of some of the groups, whose entries are these, with the nodes afterwards
pub record AreWritten {Y : Type 0} (old new : List NodeRecord) (groups : BTreeMap (Bor (List ℕ)) (Vec Tree Y))
    (entries : List (Bor (List ℕ) × Vec Tree Y)) (key : List ℕ) : Type 0 where
  pub keeps : Extends old new
  pub regions : List Region
  pub under : map (λ r. r.0) regions ≡ map (λ e. e.0.now) entries
  pub each : AllByRecursion (IsRegionOf old groups) regions
  pub is : key ≡ flat_map (λ r. 1 ∷ region_bytes r) regions
