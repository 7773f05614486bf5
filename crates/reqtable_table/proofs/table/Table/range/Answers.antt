use Rattle.std.proofs.Common.{◌≡◌, ◌∙◌, Equal, map, get_or, sym, ap, subst, rules}
use Rattle.std.proofs.lemmas.Fn.{always_returns_same}
use Rattle.std.specs.List.{AllByRecursion}
use Rattle.std.specs.List.Sorted.{IsStrictlySortedBy}
use Rattle.std.specs.Result.{IfOk}
use Rattle.reqtable_cases.specs.Usable.{IsRangeOf}
use Rattle.reqtable_table.specs.Kept.{names_in, kept_under}
use Rattle.reqtable_table.specs.KeptLines.{line_record, package_record}
use Rattle.reqtable_table.specs.Numbered.{asks_at}
use Rattle.reqtable_table.specs.Standing.{HasItsLines}
use Rattle.reqtable_table.proofs.Finding.{all_at}
use Rattle.reqtable_table.proofs.Lookup.{searchable}
use Rattle.reqtable_table.proofs.Numbered.{Rise, none_rise}
use Rattle.reqtable_table.proofs.Rising.{name_cmp}
use Rattle.reqtable_table.proofs.UnderName.{lines_found, no_lines}
use Rattle.reqtable_table.proofs.table.Table.range.Goals as goal

pub range_at-requires : goal.range_at-requires
range_at-requires c =
    let table = c.deref.result.now in
    let place = c.in-Ok.place in
    let kept = c.index.result.now in
    let same = c.deref.ensures.value in
    let is : kept ≡ get_or table place kept = c.index.ensures ∙ ap (λ l. get_or l place kept) (sym same) in
    let lines = subst (λ l. AllByRecursion HasItsLines (map package_record l)) (sym same) c.self.invariant.lines in
    subst (λ l. Rise (map line_record l)) (sym c.deref-in-Ok.ensures.value)
    (all_at HasItsLines package_record table place kept c.in-Ok.ensures.bound is lines).rising

pub range_at-requires-in-Err : goal.range_at-requires-in-Err
range_at-requires-in-Err c = none_rise

pub returns-in-Ok : goal.returns-in-Ok
returns-in-Ok c =
    let table = c.deref.result.now in
    let name = c.args.name.now in
    let place = c.in-Ok.place in
    let kept = c.index.result.now in
    let same = c.deref.ensures.value in
    let rising = subst (λ l. IsStrictlySortedBy name_cmp (names_in (map package_record l))) (sym same) c.self.invariant.rising in
    let at = c.in-Ok.ensures.position (λ kept. name_cmp kept.name name) (always_returns_same _ _ _ (λ a r f k. search rules)) in
    let is : kept ≡ get_or table place kept = c.index.ensures ∙ ap (λ l. get_or l place kept) (sym same) in
    let equal : name_cmp kept.name name ≡ Equal = ap (λ k. name_cmp k.name name) is ∙ at kept in
    let lines = ap (map line_record) c.deref-in-Ok.ensures.value
    ∙ sym (lines_found table place kept name rising c.in-Ok.ensures.bound is equal)
    ∙ ap (λ l. kept_under name (map package_record l)) same ∙ ap (kept_under name) c.self.view_is in
    let numbers = c.deref-in-Ok-2.ensures.value ∙ c.in_ok-numbers.ensures in
    subst (λ asks. IfOk c.range_at.result (IsRangeOf asks)) (λ i. asks_at (numbers i) (lines i)) c.range_at.ensures

pub returns : goal.returns
returns c =
    let table = c.deref.result.now in
    let name = c.args.name.now in
    let same = c.deref.ensures.value in
    let rising = subst (λ l. IsStrictlySortedBy name_cmp (names_in (map package_record l))) (sym same) c.self.invariant.rising in
    let parted = c.in-Err.ensures.position (λ kept. name_cmp kept.name name) (always_returns_same _ _ _ (λ a r f k. search rules)) in
    let lines = sym (no_lines table c.in-Err.field-0 name (parted (searchable table name rising)))
    ∙ ap (λ l. kept_under name (map package_record l)) same ∙ ap (kept_under name) c.self.view_is in
    let numbers = c.deref-in-Err.ensures.value ∙ c.in_ok-numbers.ensures in
    subst (λ asks. IfOk c.range_at-in-Err.result (IsRangeOf asks)) (λ i. asks_at (numbers i) (lines i)) c.range_at-in-Err.ensures
