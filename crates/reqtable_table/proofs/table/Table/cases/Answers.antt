use Rattle.std.proofs.Common.{◌≡◌, ◌∙◌, Some, Equal, map, get_or, sym, ap, subst, rules}
use Rattle.std.proofs.lemmas.Fn.{always_returns_same}
use Rattle.std.specs.List.Sorted.{IsStrictlySortedBy}
use Rattle.reqtable_table.specs.Kept.{names_in}
use Rattle.reqtable_table.specs.KeptLines.{package_record}
use Rattle.reqtable_table.specs.Casing.{case_record}
use Rattle.reqtable_table.specs.Cases.{cases_under}
use Rattle.reqtable_table.proofs.Rising.{name_cmp}
use Rattle.reqtable_table.proofs.Lookup.{searchable, cases_found, no_cases}
use Rattle.reqtable_table.proofs.table.Table.cases.Goals as goal

pub returns-in-Ok : goal.returns-in-Ok
returns-in-Ok c =
    let table = c.deref.result.now in
    let name = c.args.name.now in
    let place = c.in-Ok.place in
    let kept = c.index.result.now in
    let same = c.deref.ensures.value in
    let rising = subst (λ l. IsStrictlySortedBy name_cmp (names_in (map package_record l))) (sym same) c.self.invariant.rising in
    let at = c.in-Ok.ensures.position (λ kept. name_cmp kept.name name) (always_returns_same _ _ _ (λ a r f k. search rules)) in
    let is : kept ≡ get_or table place kept = c.index.ensures ∙ ap (λ l. get_or l place kept) (sym same) in
    let equal : name_cmp kept.name name ≡ Equal = ap (λ k. name_cmp k.name name) is ∙ at kept in
    ap (λ cases. Some (map case_record cases)) c.deref-in-Ok.ensures.value
    ∙ sym (cases_found table place kept name rising c.in-Ok.ensures.bound is equal)
    ∙ ap (λ l. cases_under name (map package_record l)) same ∙ ap (cases_under name) c.self.view_is

pub returns-in-Err : goal.returns-in-Err
returns-in-Err c =
    let table = c.deref.result.now in
    let name = c.args.name.now in
    let same = c.deref.ensures.value in
    let rising = subst (λ l. IsStrictlySortedBy name_cmp (names_in (map package_record l))) (sym same) c.self.invariant.rising in
    let parted = c.in-Err.ensures.position (λ kept. name_cmp kept.name name) (always_returns_same _ _ _ (λ a r f k. search rules)) in
    sym (no_cases table c.in-Err.field-0 name (parted (searchable table name rising)))
    ∙ ap (λ l. cases_under name (map package_record l)) same ∙ ap (cases_under name) c.self.view_is
