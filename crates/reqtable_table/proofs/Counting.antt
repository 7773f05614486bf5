-- The tests of lines, one after another.
use Rattle.std.proofs.Common.{◌≡◌, ◌∙◌, ℕ, ◌+◌, ◌-◌, ◌^◌, ◌<◌, List, [], ◌∷◌, ◌++◌, map, take, get_or, length}
use Rattle.std.proofs.Common.{sym, ap, arith}
use Rattle.std.specs.Prelude.{min}
use Rattle.std.proofs.lemmas.List.{map-append, take_more}
use Rattle.reqtable_table.specs.declared.kept.TableLine.{TableLine}
use Rattle.reqtable_table.specs.declared.table.Package.{Package}
use Rattle.reqtable_table.specs.Kept.{KeptLine, KeptPackage}
use Rattle.reqtable_table.specs.KeptLines.{line_record, package_record}
use Rattle.reqtable_table.specs.Counts.{up_to_64_bits, tests_of, all_tests, table_tests}

-- a cap on the way changes nothing of the cap at the end
capped : (a b m : ℕ) → min (min a m + b) m ≡ min (a + b) m
capped a b m = omega arith

pub tests_joined : (lines others : List KeptLine) → tests_of (lines ++ others) ≡ tests_of lines + tests_of others
tests_joined [] others = omega arith
tests_joined (line ∷ lines) others =
    let rest = tests_joined lines others in
    omega (arith, rest)

all_joined : (table others : List KeptPackage) → all_tests (table ++ others) ≡ all_tests table + all_tests others
all_joined [] others = omega arith
all_joined (kept ∷ table) others =
    let rest = all_joined table others in
    omega (arith, rest)

-- one more line
pub lines_more : (start : ℕ) (lines : List TableLine) (i : ℕ) (line : TableLine) (before more after : ℕ) → i < length lines →
    line ≡ get_or lines i line → before ≡ up_to_64_bits (start + tests_of (map line_record (take i lines))) →
    more ≡ line.specifiers.tests → after ≡ up_to_64_bits (before + more) →
    after ≡ up_to_64_bits (start + tests_of (map line_record (take (i + 1) lines)))
lines_more start lines i line before more after within is b m e =
    let old = map line_record (take i lines) in
    let taken : map line_record (take (i + 1) lines) ≡ old ++ line_record line ∷ [] =
    ap (map line_record) (take_more lines i line within ∙ ap (λ l. take i lines ++ l ∷ []) (sym is))
    ∙ map-append line_record (take i lines) (line ∷ []) in
    let sum : tests_of (map line_record (take (i + 1) lines)) ≡ tests_of old + line.specifiers.tests =
    (let s = ap tests_of taken ∙ tests_joined old (line_record line ∷ []) in omega (arith, s)) in
    let total : (start + tests_of old) + more ≡ start + tests_of (map line_record (take (i + 1) lines)) = omega (arith, sum, m) in
    e ∙ ap (λ n. up_to_64_bits (n + more)) b ∙ capped (start + tests_of old) more (2 ^ 64 - 1) ∙ ap up_to_64_bits total

-- one more package
pub packages_more : (table : List Package) (i : ℕ) (kept : Package) (before after : ℕ) → i < length table → kept ≡ get_or table i kept →
    before ≡ table_tests (map package_record (take i table)) →
    after ≡ up_to_64_bits (before + tests_of (map line_record kept.lines.items)) →
    after ≡ table_tests (map package_record (take (i + 1) table))
packages_more table i kept before after within is b e =
    let old = map package_record (take i table) in
    let more = tests_of (map line_record kept.lines.items) in
    let taken : map package_record (take (i + 1) table) ≡ old ++ package_record kept ∷ [] =
    ap (map package_record) (take_more table i kept within ∙ ap (λ l. take i table ++ l ∷ []) (sym is))
    ∙ map-append package_record (take i table) (kept ∷ []) in
    let sum : all_tests (map package_record (take (i + 1) table)) ≡ all_tests old + more =
    (let s = ap all_tests taken ∙ all_joined old (package_record kept ∷ []) in omega (arith, s)) in
    e ∙ ap (λ n. up_to_64_bits (n + more)) b ∙ capped (all_tests old) more (2 ^ 64 - 1) ∙ ap up_to_64_bits (sym sum)
