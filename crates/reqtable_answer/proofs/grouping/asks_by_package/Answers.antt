use Rattle.std.proofs.Common.{arith}
use Rattle.std.proofs.lemmas.Grind.{text_groups}
use Rattle.reqtable_answer.proofs.grouping.asks_by_package.Goals as goal

pub loop-ask-preserved : goal.loop-ask-preserved
loop-ask-preserved c = record {
  packages = λ q. grind (arith, text_groups, c.loop-ask.invariant.packages q, c.in_ok-add_ask.ensures.packages q);
  asks = λ q. grind (arith, text_groups, c.loop-ask.invariant.asks q, c.in_ok-add_ask.ensures.asks q);
  candidates = λ q. grind (arith, text_groups, c.loop-ask.invariant.candidates q, c.in_ok-add_ask.ensures.candidates q);
}
