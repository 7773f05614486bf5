use Rattle.std.proofs.Common.{◌∙◌, ◌&&◌, sym, ap, subst, All}
use Rattle.pep440_specifier_list.specs.Lists.{matches_all}
use Rattle.reqtable_range.specs.declared.specifier_sets.Kind.TheVariants.{Simple, Local}
use Rattle.reqtable_range.specs.Sorting.{IsOfKind, StandFor}
use Rattle.reqtable_range.specs.Together.{lent, IsShared}
use Rattle.reqtable_range.proofs.Telling.{simple_have, local_have}
use Rattle.reqtable_range.proofs.one.one_range.Goals as goal

pub shared_range-requires : goal.shared_range-requires
shared_range-requires c =
    simple_have (lent c.deref.result.now) (subst (λ members. All (IsOfKind Simple) (lent members)) (sym c.deref.ensures.value) c.in_ok-sorted.ensures.simple)

pub shared_range-requires-2 : goal.shared_range-requires-2
shared_range-requires-2 c =
    local_have (lent c.deref-2.result.now) (subst (λ members. All (IsOfKind Local) (lent members)) (sym c.deref-2.ensures.value) c.in_ok-sorted.ensures.local)

pub returns : goal.returns
returns c =
    let sorted = c.in_ok-sorted.sorted in
    let single = lent c.in_ok-single.single.items in
    let stand = subst (λ members. StandFor (lent members) single) c.deref-3.ensures.value c.in_ok-single.ensures in
    record {
      simple_members = lent sorted.simple.items;
      are_simple = c.in_ok-sorted.ensures.simple;
      simple = subst (λ members. IsShared (lent members) c.in_ok-simple.simple) c.deref.ensures.value c.in_ok-simple.ensures;
      local_members = lent sorted.local.items;
      are_local = c.in_ok-sorted.ensures.local;
      local = subst (λ members. IsShared (lent members) c.in_ok-local.local) c.deref-2.ensures.value c.in_ok-local.ensures;
      are_single = stand.single c.in_ok-sorted.ensures.single;
      take = λ v.
          c.in_ok-sorted.ensures.take v
          ∙ ap (λ x. matches_all (lent sorted.simple.items) v && (matches_all (lent sorted.local.items) v && x)) (sym (stand.same v));
    }
