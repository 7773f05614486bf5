use Rattle.std.proofs.Common.{rules}
use Rattle.std.proofs.lemmas.Result.{IfOk-weaker}
use Rattle.pep508_simplification.specs.Simplified.{is_listed}
use Rattle.pep508_simplification.proofs.named.with_listed.Goals as goal

pub returns-clause-truth : goal.returns-clause-truth
returns-clause-truth c =
    IfOk-weaker c.with_extras.result _ _
    (λ simple named v. named.truth_is (is_listed c.args.extras.now) (λ name answer h. search rules) v)
    c.with_extras.ensures.named
