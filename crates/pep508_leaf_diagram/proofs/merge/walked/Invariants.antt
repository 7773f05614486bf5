use Rattle.std.specs.List.{AllByRecursion}
use Rattle.pep508_leaf_diagram.specs.Walks.{IsWalk, IsWaiting}
use Rattle.pep508_leaf_diagram.proofs.merge.walked.Given as goal

abbrev pub invariant-loop : goal.invariant-loop
invariant-loop l = record {
  walk : IsWalk l.interner.nodes l.a l.b l.walk;
  waiting : AllByRecursion (IsWaiting l.interner.nodes l.a l.b) l.waiting.items;
}
