use Rattle.std.proofs.Common.{◌≡◌, ◌∙◌, sym, ap, subst}
use Rattle.std.specs.List.{list_any, dedup}
use Rattle.std.specs.List.Sorted.{IsStrictlySortedBy}
use Rattle.std.specs.Ordering.{nat_cmp}
use Rattle.std.specs.Cmp.Lexicographic.{slice_cmp}
use Rattle.std.specs.Str.{bytes_eq}
use Rattle.std.proofs.lemmas.List.Filters.{dedup_is}
use Rattle.reqtable_answer.proofs.United.{texts, same_text, kept_rise}
use Rattle.reqtable_packages.proofs.Gathered.{names_there}
use Rattle.reqtable_packages.proofs.names.package_names.Goals as goal

pub returns-clause-rise : goal.returns-clause-rise
returns-clause-rise c =
    let sorted = c.sort_unstable.new.self.items in
    let kept : c.dedup.new.self.items ≡ dedup same_text sorted =
    dedup_is same_text sorted c.dedup.new.self.items c.dedup.ensures.filtered in
    subst (IsStrictlySortedBy (slice_cmp nat_cmp)) (sym (ap texts kept))
    (kept_rise sorted c.sort_unstable.ensures.sorted)

pub returns-clause-are : goal.returns-clause-are
returns-clause-are c q =
    let sorted = c.sort_unstable.new.self.items in
    let kept : c.dedup.new.self.items ≡ dedup same_text sorted =
    dedup_is same_text sorted c.dedup.new.self.items c.dedup.ensures.filtered in
    ap (λ names. list_any (bytes_eq q) (texts names)) kept
    ∙ names_there q c.in_ok-names.names.items sorted c.args.lists.now c.in_ok-names.ensures
    c.sort_unstable.ensures.permutation
