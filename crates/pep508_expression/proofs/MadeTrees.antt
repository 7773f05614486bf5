-- Trees that hold where something does.
use Rattle.std.proofs.Common.{◌≡◌, ◌∙◌, Bool, true, false, not, List, Result, Ok, Err, IfOk, ap, sym, subst}
use Rattle.version_ranges.specs.Turns.{flips}
use Rattle.pep508_diagram.specs.Question.{Valuation}
use Rattle.pep508_tree.specs.Tree.{Tree, negation}
use Rattle.pep508_tree.specs.Meaning.{NodeRecord, IsTree, holds}
use Rattle.pep508_tree.specs.Truths.{IsTreeOf}
use Rattle.pep508_tree.proofs.OneTree.{negation_holds}

pub both_ok : {A E : Type 0} (P R S : A → Type 0) (result : Result A E) → ((x : A) → P x → R x → S x) →
    IfOk result P → IfOk result R → IfOk result S
both_ok P R S (Ok x) so p r = so x p r
both_ok P R S (Err e) so p r = tt

module _ (nodes : List NodeRecord) (says : Valuation → Bool) (tree other : Tree) (negated : Bool)
    (made : IsTree nodes tree) (truth : (v : Valuation) → holds nodes tree v ≡ says v) where
  pub negated_tree : negated ≡ true → other ≡ negation tree →
      IsTreeOf nodes (λ v. flips negated (says v)) other
  negated_tree turns e =
      subst (IsTreeOf nodes (λ v. flips negated (says v))) (sym e)
      (record {
        made = made;
        truth = λ v. negation_holds nodes tree v ∙ ap not (truth v) ∙ ap (λ b. flips b (says v)) (sym turns);
      })

  pub plain_tree : negated ≡ false → other ≡ tree → IsTreeOf nodes (λ v. flips negated (says v)) other
  plain_tree turns e =
      subst (IsTreeOf nodes (λ v. flips negated (says v))) (sym e)
      (record { made = made; truth = λ v. truth v ∙ ap (λ b. flips b (says v)) (sym turns) })
