-- Formulas and truths behind one part more, and behind many.
use Rattle.std.proofs.Common.{◌≡◌, Bool, ◌&&◌, ◌||◌, List, [], ◌∷◌, ◌++◌, map, Option, None, refl, ap, ◌∙◌}
use Rattle.pep508_formula.specs.Formula.{Formula, Says, LeftOut, Both, Either, joined, truth_in}
use Rattle.pep508_formula.specs.Postfix.{Part, Compared, Passed, ByAnd, ByOr, postfix, built, built_by, told, told_by}
use Rattle.pep508_formula.specs.Postfix.{last_or, joined_last, formula_of}

module _ {E : Type 0} where
  pub built_behind : (stack : List (Formula E)) (first later : List (Part E)) →
      built stack (first ++ later) ≡ built (built stack first) later
  built_behind stack [] later = refl
  built_behind stack (part ∷ parts) later = built_behind (built_by part stack) parts later

  -- a formula's parts leave it behind the others
  pub built_again : (f : Formula E) (stack : List (Formula E)) → built stack (postfix f) ≡ f ∷ stack
  built_again (Says e) stack = refl
  built_again LeftOut stack = refl
  built_again (Both f g) stack =
      built_behind stack (postfix f) (postfix g ++ ByAnd ∷ [])
      ∙ ap (λ s. built s (postfix g ++ ByAnd ∷ [])) (built_again f stack)
      ∙ built_behind (f ∷ stack) (postfix g) (ByAnd ∷ [])
      ∙ ap (λ s. built s (ByAnd ∷ [])) (built_again g (f ∷ stack))
  built_again (Either f g) stack =
      built_behind stack (postfix f) (postfix g ++ ByOr ∷ [])
      ∙ ap (λ s. built s (postfix g ++ ByOr ∷ [])) (built_again f stack)
      ∙ built_behind (f ∷ stack) (postfix g) (ByOr ∷ [])
      ∙ ap (λ s. built s (ByOr ∷ [])) (built_again g (f ∷ stack))

  pub formula_again : (f : Formula E) → formula_of (postfix f) ≡ f
  formula_again f = ap (last_or LeftOut) (built_again f [])

  module _ (truth : E → Bool) where
    pub told_on : (stack : List (Option Bool)) (parts : List (Part E)) (part : Part E) →
        told truth stack (parts ++ part ∷ []) ≡ told_by truth part (told truth stack parts)
    told_on stack [] part = refl
    told_on stack (p ∷ parts) part = told_on (told_by truth p stack) parts part

    -- joined truths are those of joined formulas
    joins_told : (make : Formula E → Formula E → Formula E) (join : Option Bool → Option Bool → Option Bool) →
        ((f g : Formula E) → truth_in truth (make f g) ≡ join (truth_in truth f) (truth_in truth g)) →
        (stack : List (Formula E)) →
        map (truth_in truth) (joined_last LeftOut make stack) ≡ joined_last None join (map (truth_in truth) stack)
    joins_told make join so [] = ap (λ t. t ∷ []) (so LeftOut LeftOut)
    joins_told make join so (b ∷ []) = ap (λ t. t ∷ []) (so LeftOut b)
    joins_told make join so (b ∷ a ∷ stack) = ap (λ t. t ∷ map (truth_in truth) stack) (so a b)

    told_one : (part : Part E) (stack : List (Formula E)) →
        map (truth_in truth) (built_by part stack) ≡ told_by truth part (map (truth_in truth) stack)
    told_one (Compared e) stack = refl
    told_one Passed stack = refl
    told_one ByAnd stack = joins_told Both (joined (λ a b. a && b)) (λ f g. refl) stack
    told_one ByOr stack = joins_told Either (joined (λ a b. a || b)) (λ f g. refl) stack

    told_built : (stack : List (Formula E)) (parts : List (Part E)) →
        map (truth_in truth) (built stack parts) ≡ told truth (map (truth_in truth) stack) parts
    told_built stack [] = refl
    told_built stack (p ∷ parts) =
        told_built (built_by p stack) parts ∙ ap (λ s. told truth s parts) (told_one p stack)

    last_told : (stack : List (Formula E)) →
        truth_in truth (last_or LeftOut stack) ≡ last_or None (map (truth_in truth) stack)
    last_told [] = refl
    last_told (f ∷ stack) = refl

    -- the truth of a formula is the last of those that its parts tell
    pub formula_told : (parts : List (Part E)) →
        truth_in truth (formula_of parts) ≡ last_or None (told truth [] parts)
    formula_told parts = last_told (built [] parts) ∙ ap (last_or None) (told_built [] parts)
