-- Packages one after another, up to the first that has too many cases.
use Rattle.std.proofs.Common.{◌≡◌, ◌∙◌, ℕ, ◌≤◌, ◌<◌, ◌+◌, ◌*◌, List, [], ◌∷◌, ◌++◌, map, length, sym, ap, subst}
use Rattle.std.proofs.Common.{arith, append-nil, Option, inl, inr}
use Rattle.std.proofs.lemmas.List.{length-append}
use Rattle.std.proofs.lemmas.List.Concat.{flat_map-append}
use Rattle.std.proofs.Math.Nat.{mul-le-mul_left}
use Rattle.std.specs.List.{AllZip, AllByRecursion}
use Rattle.pep508_tree.specs.Meaning.{NodeRecord, IsTree, Extends}
use Rattle.pep508_tree.proofs.Conjoining.{tree_kept}
use Rattle.pep508_cases.specs.Cases.{marks_of, HasMore}
use Rattle.pep508_cases.proofs.Counting.{more_than_all}
use Rattle.reqtable_groups.specs.declared.given.Given.{Given}
use Rattle.reqtable_groups.specs.declared.lines_by_package.Group.{Group}
use Rattle.reqtable_table.specs.declared.table.TableError.{TableError}
use Rattle.reqtable_groups.specs.Given.{lines_in}
use Rattle.reqtable_table.specs.Kept.{KeptLine, KeptPackage}
use Rattle.reqtable_table.specs.Cases.{IsCaseOf, table_cases}
use Rattle.reqtable_table.specs.Building.{AreOfTrees, group_marks, IsPackageOf, IsRefusal, IsFirstRefusal}
use Rattle.reqtable_table.specs.Building.{most_cases, IsLeft}
use Rattle.reqtable_table.proofs.Packages.{marks_kept, given_trees, kept_markers, has_kept, as_long}

-- ---- nodes are added

trees_on : (old new : List NodeRecord) (lines : List Given) → Extends old new → AllByRecursion (λ line. IsTree old line.marker) lines →
    AllByRecursion (λ line. IsTree new line.marker) lines
trees_on old new [] keeps h = tt
trees_on old new (line ∷ lines) keeps h = (tree_kept old new keeps line.marker h.0, trees_on old new lines keeps h.1)

pub of_trees_on : (old new : List NodeRecord) (group : Group) → Extends old new → AreOfTrees old group → AreOfTrees new group
of_trees_on old new group keeps h = trees_on old new group.lines.items keeps h

-- which lines of a group apply is as before
pub group_marks_on : (old new : List NodeRecord) (group : Group) → Extends old new → AreOfTrees old group →
    group_marks old group ≡ group_marks new group
group_marks_on old new group keeps h =
    marks_kept old new (map (λ (line : Given). line.marker) group.lines.items) keeps (given_trees old group.lines.items h)

package_on : (limit : ℕ) (old new : List NodeRecord) (group : Group) (kept : KeptPackage) → Extends old new →
    IsPackageOf limit old group kept → IsPackageOf limit new group kept
package_on limit old new group kept keeps is = record {
  name = is.name;
  lines = is.lines;
  cases = has_kept old new kept keeps is.cases;
  few = is.few;
}

pub packages_on : (limit : ℕ) (old new : List NodeRecord) (groups : List Group) (table : List KeptPackage) → Extends old new →
    AllZip (IsPackageOf limit old) groups table → AllZip (IsPackageOf limit new) groups table
packages_on limit old new [] [] keeps h = tt
packages_on limit old new [] (kept ∷ table) keeps h = absurd h
packages_on limit old new (group ∷ groups) [] keeps h = absurd h
packages_on limit old new (group ∷ groups) (kept ∷ table) keeps h =
    (package_on limit old new group kept keeps h.0, packages_on limit old new groups table keeps h.1)

-- ---- counts

pub more_lines : (done : List Group) (group : Group) → length (lines_in (done ++ group ∷ [])) ≡ length (lines_in done) + length group.lines.items
more_lines done group =
    ap length (flat_map-append (λ (g : Group). g.lines.items) done (group ∷ []) ∙ ap (λ l. lines_in done ++ l) (append-nil group.lines.items))
    ∙ length-append (lines_in done) group.lines.items

pub front_lines : (done rest : List Group) → length (lines_in done) ≤ length (lines_in (done ++ rest))
front_lines done rest =
    let long = ap length (flat_map-append (λ (g : Group). g.lines.items) done rest) ∙ length-append (lines_in done) (lines_in rest) in
    omega (arith, long)

pub at_most : (a b c limit old now new : ℕ) → now ≤ old + 2 * (a * limit) → new ≤ now + 2 * (b * limit) → c ≡ a + b →
    new ≤ old + 2 * (c * limit)
at_most a b c limit old now new h k e =
    let shared : c * limit ≡ (a + b) * limit = ap (λ n. n * limit) e in
    omega (arith, h, k, shared)

pub wider : (a c limit old new : ℕ) → new ≤ old + 2 * (a * limit) → a ≤ c → new ≤ old + 2 * (c * limit)
wider a c limit old new h k =
    let wide : limit * a ≤ limit * c = mul-le-mul_left limit k in
    omega (arith, h, wide)

-- what was counted up to a group is within what all groups allow
pub so_far : (done : List Group) (group : Group) (rest all : List Group) (limit old now new : ℕ) →
    now ≤ old + 2 * (length (lines_in done) * limit) → new ≤ now + 2 * (length group.lines.items * limit) →
    (done ++ group ∷ []) ++ rest ≡ all → new ≤ old + 2 * (length (lines_in all) * limit)
so_far done group rest all limit old now new h k whole =
    let here = at_most (length (lines_in done)) (length group.lines.items) (length (lines_in (done ++ group ∷ []))) limit old now new h k
    (more_lines done group) in
    subst (λ l. new ≤ old + 2 * (length (lines_in l) * limit)) whole
    (wider (length (lines_in (done ++ group ∷ []))) (length (lines_in ((done ++ group ∷ []) ++ rest))) limit old new here
    (front_lines (done ++ group ∷ []) rest))

pub pushed_all : {A : Type 0} (P : A → Type 0) (xs : List A) (x : A) → AllByRecursion P xs → P x → AllByRecursion P (xs ++ x ∷ [])
pushed_all P [] x h p = (p, tt)
pushed_all P (y ∷ xs) x h p = (h.0, pushed_all P xs x h.1 p)

-- ---- the first that is refused

-- a package with no more cases than some number, which is at most the limit
pub of_fewer : (most limit : ℕ) (nodes : List NodeRecord) (group : Group) (kept : KeptPackage) → most ≤ limit →
    IsPackageOf most nodes group kept → IsPackageOf limit nodes group kept
of_fewer most limit nodes group kept less is = record {
  name = is.name;
  lines = is.lines;
  cases = is.cases;
  few = (let few = is.few in omega (arith, few, less));
}

-- a group has more cases than a number only where its package does
pub longer : (limit : ℕ) (nodes : List NodeRecord) (group : Group) (kept : KeptPackage) (n : ℕ) →
    IsPackageOf limit nodes group kept → HasMore n (group_marks nodes group) → n < length kept.cases
longer limit nodes group kept n is more =
    let markers : map (λ (line : KeptLine). line.marker) kept.lines ≡ map (λ (line : Given). line.marker) group.lines.items =
    ap (map (λ (line : KeptLine). line.marker)) is.lines ∙ kept_markers group.lines.items in
    let beyond = more_than_all (marks_of nodes (map (λ (line : KeptLine). line.marker) kept.lines)) nodes is.cases.sets n is.cases.are
    (subst (HasMore n) (ap (marks_of nodes) (sym markers)) more) in
    let long = as_long (IsCaseOf kept.lines) kept.cases is.cases.sets is.cases.each in
    omega (arith, beyond, long)

-- a package that was made has no more than the limit
pub no_more : (limit : ℕ) (nodes : List NodeRecord) (group : Group) (kept : KeptPackage) → IsPackageOf limit nodes group kept →
    HasMore limit (group_marks nodes group) → ⊥
no_more limit nodes group kept is more =
    let beyond = longer limit nodes group kept limit is more in
    let few = is.few in
    omega (arith, beyond, few)

pub first_refused : (limit : ℕ) (in_all : Option ℕ) (now new : List NodeRecord) (done : List Group) (group : Group)
    (rest all : List Group) (table : List KeptPackage) (left : Option ℕ) (error : TableError) → Extends now new →
    AreOfTrees now group → all ≡ done ++ group ∷ rest → AllZip (IsPackageOf limit now) done table →
    IsLeft in_all (table_cases table) left → IsRefusal limit left now group error → IsFirstRefusal limit in_all new all error
first_refused limit in_all now new done group rest all table left error keeps its split made is h = elim h [
  | inl e ↦ inl e
  | inr both ↦ inr (record {
    front = done;
    group = group;
    back = rest;
    split = split;
    table = table;
    made = packages_on limit now new done table keeps made;
    left = left;
    is_left = is;
    refused = both.0;
    more = subst (HasMore (most_cases limit left)) (group_marks_on now new group keeps its) both.1;
  })
]
