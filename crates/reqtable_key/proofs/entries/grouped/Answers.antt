use Rattle.std.proofs.Common.{arith}
use Rattle.std.proofs.lemmas.Grind.{text_groups}
use Rattle.reqtable_key.proofs.entries.grouped.Goals as goal

pub loop-entry-preserved : goal.loop-entry-preserved
loop-entry-preserved c = record {
  trees = λ q. grind (arith, text_groups, c.loop-entry.invariant.trees q, c.in_ok-add.ensures.trees q);
  heads = λ q. grind (arith, text_groups, c.loop-entry.invariant.heads q, c.in_ok-add.ensures.heads q);
}
