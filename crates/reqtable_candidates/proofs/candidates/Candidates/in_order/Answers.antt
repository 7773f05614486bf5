use Rattle.std.proofs.Common.{◌∙◌, ap, subst, sym, rules}
use Rattle.std.proofs.lemmas.Fn.{always_returns_same}
use Rattle.std.specs.List.{enumerate_from}
use Rattle.reqtable_candidates.specs.Ordered.{AreInOrder}
use Rattle.reqtable_candidates.proofs.InOrder.{stands_before, stands_weakly, sorted_in_order}
use Rattle.reqtable_candidates.proofs.candidates.Candidates.in_order.Goals as goal

pub invariant_of-result : goal.invariant_of-result
invariant_of-result c =
    subst (AreInOrder c.args.self.now) (sym c.in_ok-placed.ensures)
    (sorted_in_order c.args.self.now c.in_ok-fronted.fronted.items c.sort_unstable_by.new.self.items
    (c.in_ok-fronted.ensures ∙ ap (enumerate_from 0) c.items.ensures) c.sort_unstable_by.ensures.permutation
    (c.sort_unstable_by.ensures.sorted stands_before stands_weakly (always_returns_same _ _ _ (λ a r f k. search rules))))
