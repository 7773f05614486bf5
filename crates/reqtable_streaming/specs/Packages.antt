-- The required packages, while candidates are read and offered to them.
use Rattle.std.specs.Prelude.{◌≡◌, ℕ, ◌<◌, Bool, true, false, List, [], ◌∷◌, ◌++◌, map, filter, length}
use Rattle.std.specs.Prelude.{Option, Some, None, option_map, Box}
use Rattle.std.specs.Borrow.{Bor}
use Rattle.std.specs.BTreeMap.{BTreeMap}
use Rattle.std.specs.List.{slice_index_or, list_any, enumerate_from, AllByRecursion}
use Rattle.std.specs.List.Sorted.{IsStrictlySortedBy}
use Rattle.std.specs.Ordering.{nat_cmp}
use Rattle.std.specs.Cmp.Lexicographic.{slice_cmp}
use Rattle.std.specs.Str.{bytes_eq}
use Rattle.std.specs.declared.cmp.Ordering.{Ordering}
use Rattle.pep440_version.specs.Record.{VersionRecord}
use Rattle.pep440_version.specs.Order.{version_cmp}
use Rattle.pep440_version.specs.Packing.{packed}
use Rattle.pep508_requirement_text.specs.FrontReading.{Front}
use Rattle.reqtable_candidates.specs.declared.candidates.Candidate.{Candidate}
use Rattle.reqtable_answer.specs.declared.answer.Outcome.{Outcome}
use Rattle.reqtable_answer.specs.declared.answer.Outcome.TheVariants.{Taken, Nothing, Direct}
use Rattle.reqtable_answer.specs.declared.grouping.Group.{Group}
use Rattle.reqtable_answer.specs.Admission.{Admits}
use Rattle.reqtable_answer.specs.Asks.{is_of, is_candidate, has_url, has_prerelease, may_be_taken}
use Rattle.reqtable_answer.specs.Answer as answer
use Rattle.reqtable_answer.specs.Groups.{asks_for, has_group, better_of, passes_by}
use Rattle.reqtable_range.specs.declared.one.OneRange.{OneRange}
use Rattle.reqtable_answer.specs.Ranged.{TellsTaken}
use Rattle.reqtable_answer.specs.Says.{ask_seen, asks_seen}
use Rattle.reqtable_streaming.specs.declared.required.Package.{Package}
use Rattle.reqtable_streaming.specs.declared.fronts.Fronted.{Fronted}

-- requirements grouped by package, those of each in their order
pub record AreGroups (all : List Front) (groups : BTreeMap (Bor (List ℕ)) Group) : Type 0 where
  pub packages : (q : List ℕ) → has_group groups q ≡ list_any (is_of q) all
  pub asks : (q : List ℕ) → asks_for groups q ≡ filter (is_of q) all

abbrev pub names_of : List Package → List (List ℕ)
names_of packages = map (λ p. p.name.now) packages

abbrev pub AreRising : List Package → Type 0
AreRising packages = IsStrictlySortedBy (slice_cmp nat_cmp) (names_of packages)

-- the names of packages, in their order
abbrev pub AreNamesOf : List Package → List Fronted → Type 0
AreNamesOf packages names = map (λ n. n.name.now) names ≡ names_of packages

-- the place at which a package of a name stands, or none if no package has the name
abbrev pub Finds : List Package → List ℕ → Option ℕ → Type 0
Finds packages name None = AllByRecursion (λ p. bytes_eq p.name.now name ≡ false) packages
Finds packages name (Some place) =
    (place < length packages) × ((d : Package) → (slice_index_or packages place d).name.now ≡ name)

-- a word that is known of the best candidate is that of its version
abbrev pub IsWordOf : Option ℕ → Option Candidate → Type 0
IsWordOf None best = Unit {0}
IsWordOf (Some word) None = ⊥
IsWordOf (Some word) (Some best) = packed best.version ≡ Some word

-- the range in a box, if there is one
abbrev pub unboxed : {Z : Type 0} → Option (Box OneRange Z) → Option OneRange
unboxed None = None
unboxed (Some boxed) = Some boxed.value

-- what a package keeps of its requirements is theirs, and the word is that of its best candidate
pub record IsSound (wanted : Package) : Type 0 where
  pub direct : wanted.direct ≡ list_any (λ ask. has_url (ask_seen ask)) wanted.asks.items
  pub prerelease : wanted.prerelease ≡ list_any (λ ask. has_prerelease (ask_seen ask)) wanted.asks.items
  pub told : TellsTaken wanted.asks.items (unboxed wanted.range)
  pub word : IsWordOf wanted.word wanted.best

abbrev pub AreSound : List Package → Type 0
AreSound packages = AllByRecursion IsSound packages

-- a package of these requirements, of which no candidate was read
pub record IsNew (all : List Front) (wanted : Package) : Type 0 where
  pub asks : asks_seen wanted.asks.items ≡ filter (is_of wanted.name.now) all
  pub best : wanted.best ≡ None

-- the packages that are required, by their names; no candidate was read
pub record AreNew (all : List Front) (packages : List Package) : Type 0 where
  pub rising : AreRising packages
  pub asked : (q : List ℕ) → list_any (bytes_eq q) (names_of packages) ≡ list_any (is_of q) all
  pub sound : AreSound packages
  pub each : AllByRecursion (IsNew all) packages

-- ---- a candidate is offered

abbrev pub candidate_with : List ℕ → VersionRecord → Candidate
candidate_with name version = record { name = name; version = version }

-- a package is the same but for how its requirements are tested
pub record IsAsBefore (old new : Package) : Type 0 where
  pub name : new.name ≡ old.name
  pub asks : new.asks ≡ old.asks
  pub direct : new.direct ≡ old.direct
  pub prerelease : new.prerelease ≡ old.prerelease
  pub best : new.best ≡ old.best

abbrev pub by_version : Candidate → Candidate → Ordering
by_version a b = version_cmp a.version b.version

-- the package's requirements accept the candidate, and it is admitted
abbrev pub passes : Admits → Package → Candidate → Bool
passes admits wanted candidate = passes_by admits wanted.asks.items wanted.prerelease (0, candidate)

-- a package after a candidate of it was offered
pub record IsOffered (admits : Admits) (candidate : Candidate) (old new : Package) : Type 0 where
  pub name : new.name ≡ old.name
  pub asks : new.asks ≡ old.asks
  pub direct : new.direct ≡ old.direct
  pub best : old.direct ≡ false →
      new.best ≡ better_of by_version (passes admits old) candidate old.best

-- offering a candidate with this word to its package changes nothing
abbrev pub IsPassedOver : ℕ → Package → Type 0
IsPassedOver word wanted = (admits : Admits) (candidate : Candidate) → packed candidate.version ≡ Some word →
    IsOffered admits candidate wanted wanted

-- a package after a candidate was offered to the package of its name, which is this one or not
abbrev pub IsNextBy : Bool → Admits → Candidate → Package → Package → Type 0
IsNextBy true admits candidate old new = IsOffered admits candidate old new
IsNextBy false admits candidate old new = new ≡ old

abbrev pub IsNext : Admits → Candidate → Package → Package → Type 0
IsNext admits candidate old new = IsNextBy (bytes_eq old.name.now candidate.name) admits candidate old new

-- ---- all candidates were read

-- the best candidate of a package is the first among the highest of the list that are accepted and admitted
pub record HasBest (admits : Admits) (all : List Front) (candidates : List Candidate) (wanted : Package)
    : Type 0 where
  pub asks : asks_seen wanted.asks.items ≡ filter (is_of wanted.name.now) all
  pub best : wanted.direct ≡ false → wanted.best ≡ option_map (λ found. found.1)
      (answer.first_greatest answer.by_version (filter (may_be_taken admits (asks_seen wanted.asks.items))
      (filter (is_candidate wanted.name.now) (enumerate_from 0 candidates))))

-- the packages that are required, by their names, with their best candidates of the list
pub record HaveBests (admits : Admits) (all : List Front) (candidates : List Candidate)
    (packages : List Package) : Type 0 where
  pub rising : AreRising packages
  pub asked : (q : List ℕ) → list_any (bytes_eq q) (names_of packages) ≡ list_any (is_of q) all
  pub each : AllByRecursion (HasBest admits all candidates) packages

-- the outcome of a package with a URL or not and with this best candidate, which is appended to a list
abbrev pub IsKeptAs : Bool → Option Candidate → List Candidate → List Candidate → Outcome → Type 0
IsKeptAs true best old new outcome = (outcome ≡ Direct) × (new ≡ old)
IsKeptAs false None old new outcome = (outcome ≡ Nothing) × (new ≡ old)
IsKeptAs false (Some best) old new outcome = (outcome ≡ Taken (length old)) × (new ≡ old ++ best ∷ [])
