use Rattle.std.proofs.Common.{rules, ◌≡◌, true, sym}
use Rattle.std.specs.List.{list_all}
use Rattle.pep508_expression.specs.Raising.{has_small}
use Rattle.pep508_expression.proofs.Raising.{small_listed}
use Rattle.pep508_expression.proofs.raised.listed_raises.Goals as goal

pub returns-then-all_small : goal.returns-then-all_small
returns-then-all_small c =
    let small : list_all has_small c.args.versions.now ≡ true = search rules in
    sym (small_listed c.args.versions.now small c.args.key c.args.negated)
