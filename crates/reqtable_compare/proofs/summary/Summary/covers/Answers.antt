use Rattle.std.proofs.Common.{◌↔◌, IsTrue, sym, subst}
use Rattle.std.specs.List.Sorted.{IsStrictlySortedBy}
use Rattle.std.specs.Ordering.{nat_cmp}
use Rattle.std.specs.Cmp.Lexicographic.{slice_cmp}
use Rattle.reqtable_compare.specs.Seen.{summary_record}
use Rattle.reqtable_compare.specs.Summed.{HasAll}
use Rattle.reqtable_compare.proofs.Within.{not_covering, covering_by}
use Rattle.reqtable_compare.proofs.summary.Summary.covers.Goals as goal

pub has_all-requires : goal.has_all-requires
has_all-requires c = subst (IsStrictlySortedBy (slice_cmp nat_cmp)) (sym c.deref.ensures.value) c.requires

pub returns-then-not-extras : goal.returns-then-not-extras
returns-then-not-extras c =
    let has = subst (λ l. IsTrue c.in_ok-extras.extras ↔ HasAll c.args.self.now.extras.items l) c.deref-2.ensures.value
    (subst (λ l. IsTrue c.in_ok-extras.extras ↔ HasAll l c.deref-2.result.now) c.deref.ensures.value
    c.in_ok-extras.ensures) in
    not_covering (summary_record c.args.self.now) (summary_record c.args.other.now) c.if-not-self.false
    c.if-not-other.false c.in_ok-extras.extras has c.if-not-extras.true

pub returns : goal.returns
returns c =
    let has = subst (λ l. IsTrue c.in_ok-extras.extras ↔ HasAll c.args.self.now.extras.items l) c.deref-2.ensures.value
    (subst (λ l. IsTrue c.in_ok-extras.extras ↔ HasAll l c.deref-2.result.now) c.deref.ensures.value
    c.in_ok-extras.ensures) in
    covering_by (summary_record c.args.self.now) (summary_record c.args.other.now) c.if-not-self.false
    c.if-not-other.false c.in_ok-extras.extras has c.if-not-extras.false c.in_ok-range.range c.in_ok-range.ensures
