-- What the ranges, and the single members beside them, tell.
use Rattle.std.proofs.Common.{◌≡◌, ◌∙◌, Bool, true, false, ◌&&◌, List, [], map, All, Ok, ap, sym}
use Rattle.std.proofs.lemmas.List.Elements.{All-weaker}
use Rattle.version_ranges.specs.Point.{Point, At}
use Rattle.version_ranges.specs.Held.{holds_at}
use Rattle.pep440_version.specs.Record.{VersionRecord, without_local}
use Rattle.pep440_version.specs.Order.{version_cmp}
use Rattle.pep440_specifier.specs.Matching.{SpecifierRecord}
use Rattle.pep440_specifier_list.specs.Lists.{matches_all}
use Rattle.pep440_range.specs.Agreement.{IsSaid, IsSimple}
use Rattle.pep440_range.specs.Ranges.{range_of, GivesAll}
use Rattle.reqtable_range.specs.declared.one.OneRange.{OneRange}
use Rattle.reqtable_range.specs.declared.specifier_sets.Kind.TheVariants.{Simple, Local}
use Rattle.reqtable_range.specs.One.{FindsOne}
use Rattle.reqtable_range.specs.Sorting.{IsOfKind}
use Rattle.reqtable_range.specs.Together.{members_of, all_take, lent, HasRange, HaveRanges}
use Rattle.reqtable_range.proofs.Halves.{members_take, all_have}
use Rattle.reqtable_range.proofs.Local.{local_range, local_tells}

abbrev Set : Type 0
Set = List (Point VersionRecord)

abbrev Members : Type 0
Members = List SpecifierRecord

-- ---- members of a kind that have ranges

pub simple_have : (members : Members) → All (IsOfKind Simple) members → HaveRanges members
simple_have members h = all_have members (All-weaker (IsOfKind Simple) HasRange (λ m k. k.0) members h)

pub local_have : (members : Members) → All (IsOfKind Local) members → HaveRanges members
local_have members h = all_have members (All-weaker (IsOfKind Local) HasRange local_range members h)

-- ---- what the ranges tell

abbrev pub SimpleLaw : Type 0
SimpleLaw =
    (members : Members) (version : VersionRecord) (set : Set)
    → All IsSimple members → IsSaid version → GivesAll (Ok set) (map range_of members)
    → holds_at version_cmp set (At (without_local version)) ≡ matches_all members version

-- the three questions: both ranges, and the single members
abbrev pub Told : List Members → OneRange → VersionRecord → Type 0
Told lists one version =
    all_take lists version
    ≡ (holds_at version_cmp one.simple (At (without_local version))
    && (holds_at version_cmp one.local (At version) && matches_all (lent one.single.items) version))

pub all_told : SimpleLaw → (lists : List Members) (one : OneRange) (version : VersionRecord)
    → FindsOne (members_of lists) one → IsSaid version → Told lists one version
all_told law lists one version found said =
    let simple = law found.simple_members version one.simple
    (All-weaker (IsOfKind Simple) IsSimple (λ m k. k.1) found.simple_members found.are_simple) said found.simple in
    let local = local_tells found.local_members version one.local found.are_local found.local in
    sym (members_take lists version) ∙ found.take version
    ∙ (λ i. sym simple i && (sym local i && matches_all (lent one.single.items) version))

-- a version without a local part is what is left of it without one
public_is : (version : VersionRecord) → version.local ≡ [] → version ≡ without_local version
public_is version plain = λ i. record version { local = plain i }

pub held_public : (set : Set) (version : VersionRecord) → version.local ≡ []
    → holds_at version_cmp set (At version) ≡ holds_at version_cmp set (At (without_local version))
held_public set version plain = ap (λ (v : VersionRecord). holds_at version_cmp set (At v)) (public_is version plain)

-- ---- three questions, of which one may refuse

first_refuses : (a b c all : Bool) → all ≡ (a && (b && c)) → a ≡ false → false ≡ all
first_refuses a b c all h e = sym (h ∙ ap (λ x. x && (b && c)) e)

second_refuses : (a b c all : Bool) → all ≡ (a && (b && c)) → a ≡ true → b ≡ false → false ≡ all
second_refuses a b c all h e f = sym (h ∙ (λ i. e i && (f i && c)))

third_answers : (a b c all : Bool) → all ≡ (a && (b && c)) → a ≡ true → b ≡ true → c ≡ all
third_answers a b c all h e f = sym (h ∙ (λ i. e i && (f i && c)))

-- what a version is told where the ranges are asked first, and then the single members
module _ (law : (lists : List Members) (one : OneRange) (version : VersionRecord) → FindsOne (members_of lists) one
    → IsSaid version → Told lists one version)
    (one : OneRange) (version : VersionRecord) (said : IsSaid version)
    (simple : Bool) (simple_is : simple ≡ holds_at version_cmp one.simple (At (without_local version))) where
  pub first_told : simple ≡ false → (lists : List Members) → FindsOne (members_of lists) one → false ≡ all_take lists version
  first_told e lists found =
      first_refuses (holds_at version_cmp one.simple (At (without_local version)))
      (holds_at version_cmp one.local (At version)) (matches_all (lent one.single.items) version)
      (all_take lists version) (law lists one version found said) (sym simple_is ∙ e)

  pub second_told : simple ≡ true → (local : Bool) → local ≡ holds_at version_cmp one.local (At version)
      → local ≡ false → (lists : List Members) → FindsOne (members_of lists) one → false ≡ all_take lists version
  second_told e local is f lists found =
      second_refuses (holds_at version_cmp one.simple (At (without_local version)))
      (holds_at version_cmp one.local (At version)) (matches_all (lent one.single.items) version)
      (all_take lists version) (law lists one version found said) (sym simple_is ∙ e) (sym is ∙ f)

  pub third_told : simple ≡ true → (local : Bool) → local ≡ holds_at version_cmp one.local (At version)
      → local ≡ true → (taken : Bool) → taken ≡ matches_all (lent one.single.items) version
      → (lists : List Members) → FindsOne (members_of lists) one → taken ≡ all_take lists version
  third_told e local is f taken single lists found =
      single ∙ third_answers (holds_at version_cmp one.simple (At (without_local version)))
      (holds_at version_cmp one.local (At version)) (matches_all (lent one.single.items) version)
      (all_take lists version) (law lists one version found said) (sym simple_is ∙ e) (sym is ∙ f)
