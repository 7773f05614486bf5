use Rattle.std.proofs.Common.{◌≡◌, ◌<◌, ℕ, true, nat_lt, ap, sym, ◌∙◌, ◌&&◌, eqb, arith}
use Rattle.std.specs.List.{ends_with}
use Rattle.std.proofs.lemmas.Bool.Decides.{nat_tests}
use Rattle.std.proofs.lemmas.Str.Pattern.{ends_text}
use Rattle.pep508_requirement_text.proofs.archive.has_ending.Goals as goal

shorter : (a b : ℕ) → a < b → nat_lt a b ≡ true
shorter a b h = grind (arith, nat_tests)

pub returns-then-ending-text : goal.returns-then-ending-text
returns-then-ending-text c =
    ends_text c.ends_with.result c.args.ending.now c.args.text.now c.ends_with.ensures.cases
    ∙ ap (λ t. t && ends_with eqb c.args.text.now c.args.ending.now) (sym (shorter _ _ c.if-ending-text.true))
