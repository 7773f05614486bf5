-- What is left out of a formula is passed over.
use Rattle.std.proofs.Common.{◌≡◌, Bool, true, ◌&&◌, ◌||◌, Some, None, refl, ap, ◌∙◌}
use Rattle.std.specs.Prelude.{Option, unwrap_or}
use Rattle.pep508_marker_parser.specs.Formula.{Formula, Says, LeftOut, Both, Either, joined, truth_in}
use Rattle.pep508_marker_parser.specs.Formula.{formula_holds, IsLeftOut}

joined_none : (join : Bool → Bool → Bool) (a : Option Bool) → joined join a None ≡ a
joined_none join None = refl
joined_none join (Some a) = refl

module _ {E : Type 0} (truth : E → Bool) where
  no_truth : (f : Formula E) → IsLeftOut f → truth_in truth f ≡ None
  no_truth (Says e) h = absurd h
  no_truth LeftOut h = refl
  no_truth (Both f g) h =
      ap (λ a. joined (λ a b. a && b) a (truth_in truth g)) (no_truth f h.0) ∙ no_truth g h.1
  no_truth (Either f g) h =
      ap (λ a. joined (λ a b. a || b) a (truth_in truth g)) (no_truth f h.0) ∙ no_truth g h.1

  pub left_out_holds : (f : Formula E) → IsLeftOut f → formula_holds truth f ≡ true
  left_out_holds f h = ap (λ a. unwrap_or a true) (no_truth f h)

  pub both_behind : (f g : Formula E) → IsLeftOut g → formula_holds truth (Both f g) ≡ formula_holds truth f
  both_behind f g h =
      ap (λ b. unwrap_or (joined (λ a b. a && b) (truth_in truth f) b) true) (no_truth g h)
      ∙ ap (λ a. unwrap_or a true) (joined_none (λ a b. a && b) (truth_in truth f))

  pub both_before : (f g : Formula E) → IsLeftOut g → formula_holds truth (Both g f) ≡ formula_holds truth f
  both_before f g h = ap (λ b. unwrap_or (joined (λ a b. a && b) b (truth_in truth f)) true) (no_truth g h)

  pub either_behind : (f g : Formula E) → IsLeftOut g → formula_holds truth (Either f g) ≡ formula_holds truth f
  either_behind f g h =
      ap (λ b. unwrap_or (joined (λ a b. a || b) (truth_in truth f) b) true) (no_truth g h)
      ∙ ap (λ a. unwrap_or a true) (joined_none (λ a b. a || b) (truth_in truth f))

  pub either_before : (f g : Formula E) → IsLeftOut g → formula_holds truth (Either g f) ≡ formula_holds truth f
  either_before f g h = ap (λ b. unwrap_or (joined (λ a b. a || b) b (truth_in truth f)) true) (no_truth g h)
