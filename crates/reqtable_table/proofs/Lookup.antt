-- A package by its name, among packages whose names rise.
use Rattle.std.proofs.Common.{◌≡◌, ◌∙◌, ℕ, zero, suc, ◌+◌, ◌<◌, ◌≤◌, Bool, true, false, cond, ◌⊎◌, List, []}
use Rattle.std.proofs.Common.{◌∷◌, map, get_or, length, refl, sym, ap, subst, arith, Some, None, Less, Equal}
use Rattle.std.proofs.Common.{Greater, inl, inr}
use Rattle.std.proofs.lemmas.Cmp.{nat_list_cmp_total, nat_list_eq_equiv}
use Rattle.std.proofs.lemmas.List.Sorted.{searchable_from_sorted}
use Rattle.std.proofs.lemmas.Map.Text.{is_eq-slice_cmp}
use Rattle.std.specs.Prelude.{find}
use Rattle.std.specs.List.{AllByRecursion}
use Rattle.std.specs.List.Sorted.{IsStrictlySortedBy, IsSortedBy, IsNonDecreasingBy, IsPartitionPoint}
use Rattle.std.specs.Ordering.{is_eq, is_lt, ordering_index, ordering_reverse}
use Rattle.std.specs.Option.{option_map}
use Rattle.std.specs.Str.{bytes_eq}
use Rattle.reqtable_answer.proofs.Tests.{same_bytes}
use Rattle.reqtable_table.specs.declared.table.Package.{Package}
use Rattle.reqtable_table.specs.Kept.{KeptPackage, names_in}
use Rattle.reqtable_table.specs.KeptLines.{package_record}
use Rattle.reqtable_table.specs.Cases.{cases_under}
use Rattle.reqtable_table.specs.Casing.{case_record}
use Rattle.reqtable_table.proofs.Rising.{name_cmp, below_other}

abbrev names_at : List Package → List (List ℕ)
names_at table = names_in (map package_record table)

abbrev test : List ℕ → KeptPackage → Bool
test name kept = bytes_eq name kept.name

adjacent : (table : List Package) → IsStrictlySortedBy name_cmp (names_at table) → (k : ℕ) (d : Package) → suc k < length table →
    name_cmp (get_or table k d).name (get_or table (suc k) d).name ≡ Less
unfolding IsStrictlySortedBy
adjacent [] h k d within = absurd (omega arith)
adjacent (p ∷ []) h k d within = absurd (omega arith)
adjacent (p ∷ (q ∷ table)) h zero d within = h.0.0
adjacent (p ∷ (q ∷ table)) h (suc k) d within = adjacent (q ∷ table) h.1 k d (omega arith)

sorted : (table : List Package) → IsStrictlySortedBy name_cmp (names_at table) →
    IsSortedBy (λ (a b : Package). is_lt (name_cmp a.name b.name)) table
sorted table h k d low within =
    let next : k + 1 ≡ suc k = omega arith in
    let less = adjacent table h k d (omega arith) in
    ap (λ n. is_lt (name_cmp (get_or table n d).name (get_or table k d).name)) next
    ∙ ap is_lt (nat_list_cmp_total.antisymm (get_or table (suc k) d).name (get_or table k d).name ∙ ap ordering_reverse less)

pub searchable : (table : List Package) (name : List ℕ) → IsStrictlySortedBy name_cmp (names_at table) →
    IsNonDecreasingBy (λ (kept : Package). ordering_index (name_cmp kept.name name)) table
searchable table name h = searchable_from_sorted nat_list_cmp_total (λ (kept : Package). kept.name) table name (sorted table h)

-- ---- found

below_at : (name : List ℕ) (table : List Package) (i : ℕ) (d : Package) → AllByRecursion (λ n. name_cmp name n ≡ Less) (names_at table) →
    i < length table → name_cmp name (get_or table i d).name ≡ Less
below_at name [] i d h within = absurd (omega arith)
below_at name (p ∷ table) zero d h within = h.0
below_at name (p ∷ table) (suc i) d h within = below_at name table i d h.1 (omega arith)

found_at : (table : List Package) (i : ℕ) (kept : Package) (name : List ℕ) → IsStrictlySortedBy name_cmp (names_at table) →
    i < length table → kept ≡ get_or table i kept → kept.name ≡ name →
    find (test name) (map package_record table) ≡ Some (package_record kept)
unfolding IsStrictlySortedBy
found_at [] i kept name h within is named = absurd (omega arith)
found_at (p ∷ table) zero kept name h within is named =
    let same : bytes_eq name p.name ≡ true =
    ap (bytes_eq name) (sym (ap (λ (k : Package). k.name) is) ∙ named) ∙ nat_list_eq_equiv.refl name in
    ap (λ b. cond b (Some (package_record p)) (find (test name) (map package_record table))) same
    ∙ ap (λ k. Some (package_record k)) (sym is)
found_at (p ∷ table) (suc i) kept name h within is named =
    let less : name_cmp p.name name ≡ Less =
    subst (λ n. name_cmp p.name n ≡ Less) (sym (ap (λ (k : Package). k.name) is) ∙ named) (below_at p.name table i kept h.0 (omega arith)) in
    ap (λ b. cond b (Some (package_record p)) (find (test name) (map package_record table)))
    (nat_list_eq_equiv.symm name p.name ∙ below_other p.name name less)
    ∙ found_at table i kept name h.1 (omega arith) is named

pub equal_names : (a b : List ℕ) → name_cmp a b ≡ Equal → a ≡ b
equal_names a b e = same_bytes a b (sym (is_eq-slice_cmp a b) ∙ ap is_eq e)

-- the package at the place that was found
pub cases_found : (table : List Package) (i : ℕ) (kept : Package) (name : List ℕ) → IsStrictlySortedBy name_cmp (names_at table) →
    i < length table → kept ≡ get_or table i kept → name_cmp kept.name name ≡ Equal →
    cases_under name (map package_record table) ≡ Some (map case_record kept.cases.items)
cases_found table i kept name h within is same =
    ap (option_map (λ (k : KeptPackage). k.cases))
    (found_at table i kept name h within is (equal_names kept.name name same))

-- ---- not found

either_side : (k i : ℕ) → (k < i) ⊎ (i ≤ k)
either_side k zero = inr (omega arith)
either_side zero (suc i) = inl (omega arith)
either_side (suc k) (suc i) = elim (either_side k i) [
  | inl e ↦ inl (omega arith)
  | inr e ↦ inr (omega arith)
]

none_found : (table : List Package) (name : List ℕ) →
    ((k : ℕ) (d : Package) → k < length table → bytes_eq name (get_or table k d).name ≡ false) →
    find (test name) (map package_record table) ≡ None
none_found [] name h = refl
none_found (p ∷ table) name h =
    ap (λ b. cond b (Some (package_record p)) (find (test name) (map package_record table))) (h 0 p (omega arith))
    ∙ none_found table name (λ k d within. h (suc k) d (omega arith))

other : (name n : List ℕ) → name_cmp n name ≡ Less → bytes_eq name n ≡ false
other name n e = nat_list_eq_equiv.symm name n ∙ below_other n name e

behind : (name n : List ℕ) → name_cmp n name ≡ Greater → bytes_eq name n ≡ false
behind name n e = nat_list_eq_equiv.symm name n ∙ sym (is_eq-slice_cmp n name) ∙ ap is_eq e

-- no package has the name
pub none_named : (table : List Package) (i : ℕ) (name : List ℕ) →
    IsPartitionPoint (λ (kept : Package). name_cmp kept.name name ≡ Less) (λ kept. name_cmp kept.name name ≡ Greater) table i →
    (k : ℕ) (d : Package) → k < length table → bytes_eq name (get_or table k d).name ≡ false
none_named table i name parted k d within = elim (either_side k i) [
  | inl less ↦ other name (get_or table k d).name (parted.0 k d (omega arith) less)
  | inr not_less ↦ behind name (get_or table k d).name (parted.1 k d not_less within)
]

pub no_cases : (table : List Package) (i : ℕ) (name : List ℕ) →
    IsPartitionPoint (λ (kept : Package). name_cmp kept.name name ≡ Less) (λ kept. name_cmp kept.name name ≡ Greater) table i →
    cases_under name (map package_record table) ≡ None
no_cases table i name parted =
    ap (option_map (λ (k : KeptPackage). k.cases))
    (none_found table name (none_named table i name parted))
