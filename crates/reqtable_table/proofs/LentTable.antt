-- A table whose packages were lent stays one.
use Rattle.std.proofs.Common.{◌≡◌, ◌≤◌, ◌+◌, ℕ, Vec, Global, List, map, sym, subst}
use Rattle.std.specs.List.{AllZip, AllByRecursion}
use Rattle.std.specs.Vec.{with_items}
use Rattle.pep508_diagram.specs.Question.{Valuation}
use Rattle.pep508_tree.specs.Meaning.{NodeRecord, Extends}
use Rattle.reqtable_candidates.specs.declared.candidates.Candidate.{Candidate}
use Rattle.reqtable_table.specs.declared.table.Package.{Package}
use Rattle.reqtable_table.specs.Answers.{SamePackage}
use Rattle.reqtable_table.specs.Cases.{HasItsCases}
use Rattle.reqtable_table.specs.Counts.{all_tests}
use Rattle.reqtable_table.specs.Kept.{KeptPackage}
use Rattle.reqtable_table.specs.KeptLines.{package_record}
use Rattle.reqtable_table.specs.Lasting.{StillServes}
use Rattle.reqtable_table.specs.Runs.{RunsRecord, AreRunsOf}
use Rattle.reqtable_table.specs.Standing.{IsTable}
use Rattle.reqtable_table.proofs.Lasting.{serves_later}
use Rattle.reqtable_table.proofs.Same.{table_same, runs_on}

pub stays : (held : Vec Package Global) (was new : List Package) → (with_items held new).items ≡ new → was ≡ held.items →
    AllZip SamePackage (map package_record new) (map package_record was) → IsTable (map package_record held.items) →
    IsTable (map package_record (with_items held new).items)
stays held was new items e same is =
    subst (λ l. IsTable (map package_record l)) (sym items)
    (table_same (map package_record new) (map package_record held.items)
    (subst (λ l. AllZip SamePackage (map package_record new) (map package_record l)) e same) is)

pub runs_stay : (held : Vec Package Global) (was new : List Package) (all : RunsRecord) → (with_items held new).items ≡ new →
    was ≡ held.items → AllZip SamePackage (map package_record new) (map package_record was) → AreRunsOf (map package_record held.items) all →
    AreRunsOf (map package_record (with_items held new).items) all
runs_stay held was new all items e same are =
    subst (λ l. AreRunsOf (map package_record l) all) (sym items)
    (runs_on all (map package_record new) (map package_record held.items)
    (subst (λ l. AllZip SamePackage (map package_record new) (map package_record l)) e same) are)

pub serve : (held : Vec Package Global) (was new : List Package) (table : List KeptPackage) (old later : List NodeRecord) →
    (with_items held new).items ≡ new → map package_record was ≡ table → Extends old later →
    AllZip SamePackage (map package_record new) (map package_record was) → AllByRecursion (HasItsCases old) table →
    StillServes old later table (map package_record (with_items held new).items)
serve held was new table old later items is more same has =
    subst (λ l. StillServes old later table (map package_record l)) (sym items)
    (serves_later old later more table (map package_record new)
    (subst (λ l. AllZip SamePackage (map package_record new) l) is same) has)

-- at most so many tests more, by what is counted of nodes, valuation, candidates and packages
pub few_more : (most : List NodeRecord → Valuation → List Candidate → List KeptPackage → ℕ) (held : Vec Package Global)
    (was new : List Package) (table : List KeptPackage) (nodes old : List NodeRecord) (v u : Valuation) (candidates : List Candidate) →
    (with_items held new).items ≡ new → map package_record was ≡ table → old ≡ nodes → u ≡ v →
    all_tests (map package_record new) ≤ all_tests (map package_record was) + most old u candidates (map package_record was) →
    all_tests (map package_record (with_items held new).items) ≤ all_tests table + most nodes v candidates table
few_more most held was new table nodes old v u candidates items t n e h =
    subst (λ l. all_tests (map package_record l) ≤ all_tests table + most nodes v candidates table) (sym items)
    (subst (λ l. all_tests (map package_record new) ≤ all_tests l + most nodes v candidates l) t
    (subst (λ m. all_tests (map package_record new) ≤ all_tests (map package_record was) + most m v candidates (map package_record was)) n
    (subst (λ w. all_tests (map package_record new) ≤ all_tests (map package_record was) + most old w candidates (map package_record was)) e h)))
