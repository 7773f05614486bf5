use Rattle.std.proofs.Common.{◌∙◌, sym, arith}
use Rattle.pep508_cases.proofs.Last.{trees_are}
use Rattle.pep508_cases.proofs.last_cases.LastCases.has.Goals as goal

pub returns : goal.returns
returns c = λ t. record {
  some = omega (arith, c.len-count.ensures, c.if-count-eq0.false);
  few = omega (arith, c.len-count.ensures, c.if-count-limit.false);
  same = trees_are c.args.self.now.trees.items c.args.trees.now.items (sym c.eq.ensures ∙ t);
}
