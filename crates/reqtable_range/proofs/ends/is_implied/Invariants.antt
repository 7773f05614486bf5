use Rattle.reqtable_range.proofs.ends.is_implied.Given as goal

abbrev pub invariant-loop-end : goal.invariant-loop-end
invariant-loop-end l = Unit {0}
