use Rattle.std.proofs.Common.{rules, ◌≡◌, ◌∙◌, ◌<◌, true, length}
use Rattle.std.specs.List.{list_all}
use Rattle.pep508_expression.specs.Raising.{is_small}
use Rattle.pep508_expression.proofs.Raising.{small_compared}
use Rattle.pep508_expression.proofs.raised.is_plain.Goals as goal

pub returns-in_default : goal.returns-in_default
returns-in_default c =
    λ key h.
    let specifier = c.args.specifier.now in
    let some : 0 < length specifier.version.release = search rules in
    let small : list_all is_small specifier.version.release ≡ true = search (rules, h) in
    small_compared specifier some small (λ e. c.in_default.not-TildeEqual (c.operator.ensures ∙ e)) key
