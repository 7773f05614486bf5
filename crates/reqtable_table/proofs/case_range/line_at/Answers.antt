use Rattle.std.proofs.Common.{◌≡◌, ◌∙◌, Equal, sym, ap, rules}
use Rattle.std.proofs.lemmas.Fn.{always_returns_same}
use Rattle.std.specs.Ordering.{nat_cmp}
use Rattle.reqtable_table.proofs.Numbered.{searchable, found_line, no_line, equal_numbers}
use Rattle.reqtable_table.proofs.case_range.line_at.Goals as goal

pub returns-in-Ok : goal.returns-in-Ok
returns-in-Ok c =
    let lines = c.args.lines.now in
    let n = c.args.number in
    let place = c.in-Ok.place in
    let line = c.index-lines-place.result in
    let at = c.in-Ok.ensures.position (λ line. nat_cmp line.number n)
    (always_returns_same _ _ _ (λ a r f k. search rules)) in
    let equal : nat_cmp line.number n ≡ Equal = ap (λ l. nat_cmp l.number n) c.index-lines-place.is ∙ at line in
    sym (found_line lines place line n c.requires c.in-Ok.ensures.bound c.index-lines-place.is
    (equal_numbers line.number n equal))

pub returns-in-Err : goal.returns-in-Err
returns-in-Err c =
    let lines = c.args.lines.now in
    let n = c.args.number in
    let parted = c.in-Err.ensures.position (λ line. nat_cmp line.number n)
    (always_returns_same _ _ _ (λ a r f k. search rules)) in
    sym (no_line lines c.in-Err.field-0 n (parted (searchable lines n c.requires)))
