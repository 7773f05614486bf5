-- The lines that a table keeps under a name are those of the package that is found by it.
use Rattle.std.proofs.Common.{◌≡◌, ℕ, ◌<◌, suc, false, cond, List, [], ◌∷◌, ◌++◌, map, get_or, length}
use Rattle.std.proofs.Common.{refl, subst, arith, Less, Equal, Greater}
use Rattle.std.specs.List.Sorted.{IsStrictlySortedBy, IsPartitionPoint}
use Rattle.std.specs.Str.{bytes_eq}
use Rattle.reqtable_table.specs.declared.table.Package.{Package}
use Rattle.reqtable_table.specs.Kept.{KeptPackage, names_in, kept_under}
use Rattle.reqtable_table.specs.KeptLines.{line_record, package_record}
use Rattle.reqtable_table.proofs.Finding.{all_at}
use Rattle.reqtable_table.proofs.Lookup.{equal_names, none_named}
use Rattle.reqtable_table.proofs.Rising.{name_cmp}
use Rattle.reqtable_table.proofs.RowsOfLines.{own_lines}

pub lines_found : (table : List Package) (i : ℕ) (kept : Package) (name : List ℕ) →
    IsStrictlySortedBy name_cmp (names_in (map package_record table)) → i < length table → kept ≡ get_or table i kept →
    name_cmp kept.name name ≡ Equal → kept_under name (map package_record table) ≡ map line_record kept.lines.items
lines_found table i kept name h within is same =
    let all : List KeptPackage = map package_record table in
    subst (λ n. kept_under n all ≡ map line_record kept.lines.items) (equal_names kept.name name same)
    (all_at (λ (p : KeptPackage). kept_under p.name all ≡ p.lines) package_record table i kept within is (own_lines all h))

none_under : (name : List ℕ) (table : List Package) →
    ((k : ℕ) (d : Package) → k < length table → bytes_eq name (get_or table k d).name ≡ false) →
    kept_under name (map package_record table) ≡ []
none_under name [] h = refl
none_under name (p ∷ table) h =
    let here = h 0 p (omega arith) in
    let rest = none_under name table (λ k d within. h (suc k) d (omega arith)) in
    (λ i. cond (here i) (map line_record p.lines.items) [] ++ rest i)

pub no_lines : (table : List Package) (i : ℕ) (name : List ℕ) →
    IsPartitionPoint (λ (kept : Package). name_cmp kept.name name ≡ Less) (λ kept. name_cmp kept.name name ≡ Greater) table i →
    kept_under name (map package_record table) ≡ []
no_lines table i name parted = none_under name table (none_named table i name parted)
