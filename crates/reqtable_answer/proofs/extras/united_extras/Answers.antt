use Rattle.std.proofs.Common.{◌≡◌, ◌∙◌, ℕ, List, sym, ap, subst, Vec, Global}
use Rattle.std.specs.List.{list_any, dedup}
use Rattle.std.specs.List.Sorted.{IsStrictlySortedBy}
use Rattle.std.specs.Ordering.{nat_cmp}
use Rattle.std.specs.Cmp.Lexicographic.{slice_cmp}
use Rattle.std.specs.Str.{bytes_eq}
use Rattle.std.proofs.lemmas.List.Filters.{dedup_is}
use Rattle.reqtable_answer.proofs.United.{texts, same_text, kept_rise, some_has, united_there, if_ok}
use Rattle.reqtable_answer.proofs.extras.united_extras.Goals as goal

pub returns-clause-rise : goal.returns-clause-rise
returns-clause-rise c =
    let sorted = c.sort_unstable.new.self.items in
    let kept : c.deref.result.now ≡ dedup same_text sorted = c.deref.ensures.value ∙ dedup_is same_text sorted c.dedup.new.self.items c.dedup.ensures.filtered in
    let P : Vec (List ℕ) Global → Type 0 = λ copies. copies.items ≡ texts c.deref.result.now in
    let Q : Vec (List ℕ) Global → Type 0 = λ copies. IsStrictlySortedBy (slice_cmp nat_cmp) copies.items in
    if_ok P Q c.copies.result (λ copies h. subst (IsStrictlySortedBy (slice_cmp nat_cmp)) (sym (h ∙ ap texts kept)) (kept_rise sorted c.sort_unstable.ensures.sorted)) c.copies.ensures

pub returns-clause-are : goal.returns-clause-are
returns-clause-are c =
    let sorted = c.sort_unstable.new.self.items in
    let lists = c.args.lists.now in
    let kept : c.deref.result.now ≡ dedup same_text sorted = c.deref.ensures.value ∙ dedup_is same_text sorted c.dedup.new.self.items c.dedup.ensures.filtered in
    let P : Vec (List ℕ) Global → Type 0 = λ copies. copies.items ≡ texts c.deref.result.now in
    let Q : Vec (List ℕ) Global → Type 0 = λ copies. (q : List ℕ) → list_any (bytes_eq q) copies.items ≡ some_has q lists in
    if_ok P Q c.copies.result (λ copies h q. ap (list_any (bytes_eq q)) (h ∙ ap texts kept) ∙ united_there q c.in_ok-lent.lent.items sorted lists c.in_ok-lent.ensures c.sort_unstable.ensures.permutation) c.copies.ensures
