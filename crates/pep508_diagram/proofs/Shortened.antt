-- A version in its shortest spelling stands where it stood.
use Rattle.std.proofs.Common.{◌≡◌, ℕ, ◌==◌, Bool, true, false, if◌then◌else◌, List, [], ◌∷◌, Option, Some}
use Rattle.std.proofs.Common.{None, map, refl, ap, sym, subst, ◌∙◌}
use Rattle.std.specs.Ordering.{ordering_then}
use Rattle.std.specs.Cmp.{tied_itself}
use Rattle.std.specs.Cmp.Lexicographic.{slice_cmp}
use Rattle.std.specs.declared.cmp.Ordering.TheVariants.{Equal}
use Rattle.version_ranges.specs.declared.boundary.Boundary.{Boundary}
use Rattle.version_ranges.specs.declared.boundary.Boundary.TheVariants as boundary
use Rattle.version_ranges.specs.Boundaries.{boundary_cmp}
use Rattle.version_ranges.specs.OrderLaws.{boundaries_total}
use Rattle.version_ranges.specs.Turns.{Rising}
use Rattle.version_ranges.proofs.Membership.{tied_rises}
use Rattle.pep440_text.specs.declared.Prerelease.{Prerelease}
use Rattle.pep440_text.specs.Record.{VersionRecord}
use Rattle.pep440_version.specs.Changes.{or_zero}
use Rattle.pep440_version.specs.Order.{before_stripped, stripped, suffix_class, class_below, post_key, key_of}
use Rattle.pep440_version.specs.Order.{key_cmp, version_cmp}
use Rattle.pep440_version.specs.OrderLaws.{version_cmp_total}
use Rattle.pep508_diagram.specs.declared.branch.Branch.{Branch}
use Rattle.pep508_diagram.specs.Diagram.{Diagram, Leaf, Test, turned_by}
use Rattle.pep508_diagram.specs.Question.{Question}
use Rattle.pep508_diagram.specs.Branches.{RisingBranches, AllBranches, NeighboursDiffer}
use Rattle.pep508_diagram.specs.Shortened.{post_beside, shortest, shortened, shortened_branch, AllShort}
use Rattle.pep508_diagram.specs.Shortened.{HasShortVersions}

-- ---- releases

one_kept : (x : ℕ) (zero : Bool) → (x == 0) ≡ zero →
    stripped (if zero then [] else x ∷ []) ≡ if zero then [] else x ∷ []
one_kept x true e = refl
one_kept x false e = rw e refl

before_kept : (x : ℕ) (rest : List ℕ) → stripped rest ≡ rest →
    stripped (before_stripped x rest) ≡ before_stripped x rest
before_kept x [] e = one_kept x (x == 0) refl
before_kept x (y ∷ rest) e = ap (before_stripped x) e

pub stripped_twice : (numbers : List ℕ) → stripped (stripped numbers) ≡ stripped numbers
stripped_twice [] = refl
stripped_twice (x ∷ numbers) = before_kept x (stripped numbers) (stripped_twice numbers)

stripped_or_zero : (numbers : List ℕ) → stripped (or_zero numbers) ≡ stripped numbers
stripped_or_zero [] = refl
stripped_or_zero (x ∷ numbers) = refl

pub short_release : (numbers : List ℕ) → stripped (or_zero (stripped numbers)) ≡ stripped numbers
short_release numbers = stripped_or_zero (stripped numbers) ∙ stripped_twice numbers

-- ---- post-releases beside `most`

class_kept : (pre : Option Prerelease) (post dev most : Option ℕ) →
    suffix_class pre (post_beside most post) dev most ≡ suffix_class pre post dev most
class_kept (Some pre) post dev most = refl
class_kept None post dev None = refl
class_kept None (Some p) dev (Some m) = refl
class_kept None None dev (Some m) = refl

post_kept : (post most : Option ℕ) → post_key (post_beside most post) most ≡ post_key post most
post_kept post (Some m) = refl
post_kept post None = refl

beside_twice : (most post : Option ℕ) → post_beside most (post_beside most post) ≡ post_beside most post
beside_twice (Some m) post = refl
beside_twice None post = refl

-- ---- versions and boundaries

pub short_key : (version : VersionRecord) → key_of (shortest version) ≡ key_of version
unfolding key_of
short_key version =
    let same = short_release version.release in
    let class =
    ap (class_below version.least) (class_kept version.pre version.post version.dev version.most) in
    let post = post_kept version.post version.most in
    cc

short_tied : (version : VersionRecord) → version_cmp (shortest version) version ≡ Equal
short_tied version =
    ap (λ key. key_cmp key (key_of version)) (short_key version) ∙ tied_itself version_cmp_total version

pub short_twice : (version : VersionRecord) → shortest (shortest version) ≡ shortest version
short_twice version = λ i. record version {
  release = or_zero (short_release version.release i);
  post = beside_twice version.most version.post i;
}

pub shortened_tied : (b : Boundary VersionRecord) → boundary_cmp version_cmp (shortened b) b ≡ Equal
shortened_tied (boundary.At version) = short_tied version
shortened_tied (boundary.JustAbove version) = short_tied version

pub shortened_twice : (b : Boundary VersionRecord) → shortened (shortened b) ≡ shortened b
shortened_twice (boundary.At version) = ap boundary.At (short_twice version)
shortened_twice (boundary.JustAbove version) = ap boundary.JustAbove (short_twice version)

all_tied : (boundaries : List (Boundary VersionRecord)) →
    slice_cmp (boundary_cmp version_cmp) (map shortened boundaries) boundaries ≡ Equal
all_tied [] = refl
all_tied (b ∷ later) =
    ap (λ o. ordering_then o (slice_cmp (boundary_cmp version_cmp) (map shortened later) later))
    (shortened_tied b)
    ∙ all_tied later

-- ---- branches

module _ {C : Type 0} where
  same_places : (later : List (Branch VersionRecord C)) →
      map (λ branch. branch.boundary) (map shortened_branch later)
      ≡ map shortened (map (λ branch. branch.boundary) later)
  same_places [] = refl
  same_places (branch ∷ later) = ap (λ bs. shortened branch.boundary ∷ bs) (same_places later)

  pub shortened_rise : (later : List (Branch VersionRecord C)) → RisingBranches version_cmp later →
      RisingBranches version_cmp (map shortened_branch later)
  shortened_rise later rising =
      let boundaries = map (λ branch. branch.boundary) later in
      subst (Rising (boundary_cmp version_cmp)) (sym (same_places later))
      (tied_rises (boundaries_total version_cmp version_cmp_total) (map shortened boundaries) boundaries
      (all_tied boundaries) rising)

  pub shortened_differ : (first : C) (later : List (Branch VersionRecord C)) → NeighboursDiffer first later →
      NeighboursDiffer first (map shortened_branch later)
  shortened_differ first [] differ = tt
  shortened_differ first (branch ∷ later) differ = (differ.0, shortened_differ branch.child later differ.1)

  pub shortened_all : (P : C → Type 0) (first : C) (later : List (Branch VersionRecord C)) →
      AllBranches P first later → AllBranches P first (map shortened_branch later)
  shortened_all P first [] all = all
  shortened_all P first (branch ∷ later) all = (all.0, shortened_all P branch.child later all.1)

  pub shortened_none : (later : List (Branch VersionRecord C)) → map shortened_branch later ≡ [] → later ≡ []
  shortened_none [] e = refl
  shortened_none (branch ∷ later) e = absurd (cc)

  pub shortened_short : (later : List (Branch VersionRecord C)) → AllShort (map shortened_branch later)
  shortened_short [] = tt
  shortened_short (branch ∷ later) = (shortened_twice branch.boundary, shortened_short later)

-- ---- diagrams

pub turned_short : (turns : Bool) (d : Diagram Question) → HasShortVersions d →
    HasShortVersions (turned_by turns d)
turned_short turns (Leaf b) short = tt
turned_short turns (Test q low high) short =
    (short.0, turned_short turns low short.1, turned_short turns high short.2)
