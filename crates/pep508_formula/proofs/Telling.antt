-- The truths of a formula's parts, one after another.
use Rattle.std.proofs.Common.{◌≡◌, Bool, true, List, [], ◌∷◌, Option, None, unwrap_or, ap, sym, ◌∙◌}
use Rattle.pep508_marker.specs.Expression.{ExpressionRecord}
use Rattle.pep508_formula.specs.Formula.{formula_holds}
use Rattle.pep508_formula.specs.Postfix.{Part, told, told_by, last_or, formula_of}
use Rattle.pep508_formula.proofs.Building.{formula_told}

module _ (truth : ExpressionRecord → Bool) (whole : List (Part ExpressionRecord)) where
  pub next_told : (left behind : List (Part ExpressionRecord)) (part : Part ExpressionRecord)
      (stack new : List (Option Bool)) → left ≡ part ∷ behind → told truth stack left ≡ told truth [] whole →
      new ≡ told_by truth part stack → told truth new behind ≡ told truth [] whole
  next_told left behind part stack new e so n =
      ap (λ s. told truth s behind) n ∙ sym (ap (told truth stack) e) ∙ so

  pub all_told : (left : List (Part ExpressionRecord)) (stack : List (Option Bool)) (last : Option Bool) →
      left ≡ [] → told truth stack left ≡ told truth [] whole → last ≡ last_or None stack →
      unwrap_or last true ≡ formula_holds truth (formula_of whole)
  all_told left stack last e so is =
      ap (λ t. unwrap_or t true)
      (is ∙ ap (last_or None) (sym (ap (told truth stack) e) ∙ so) ∙ sym (formula_told truth whole))
