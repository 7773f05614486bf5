-- Conjunctions with a constant tree, with the same tree, and with its negation.
use Rattle.std.proofs.Common.{◌≡◌, ℕ, Bool, true, false, ◌&&◌, List, refl, ap, sym, subst, ◌∙◌, arith}
use Rattle.pep508_tree.specs.Tree.{Tree, always, never, negation}
use Rattle.pep508_tree.specs.Meaning.{NodeRecord, holds, IsTree}
use Rattle.pep508_tree.specs.Nodes.{Above}
use Rattle.pep508_tree.specs.Conjunctions.{Conjunction}
use Rattle.pep508_tree.proofs.OneTree.{tree_is}
use Rattle.pep508_tree.proofs.Disjoint.{always_holds, never_holds, disjoint_negation}

module _ (nodes : List NodeRecord) where
  above_never : (place : List ℕ) → Above nodes place never
  unfolding Above
  above_never place k e = absurd (omega arith)

  itself : (x : Bool) → x ≡ (x && x)
  itself true = refl
  itself false = refl

  never_and : (b : Tree) → Conjunction nodes nodes never b never
  never_and b = record {
    made = omega arith;
    truth_is = λ v. never_holds nodes v ∙ ap (λ x. x && holds nodes b v) (sym (never_holds nodes v));
    above = λ place p q. p;
  }

  always_and : (b : Tree) → IsTree nodes b → Conjunction nodes nodes always b b
  always_and b made = record {
    made = made;
    truth_is = λ v. ap (λ x. x && holds nodes b v) (sym (always_holds nodes v));
    above = λ place p q. q;
  }

  -- a tree that never holds first
  pub first_never : (a b : Tree) → a.place ≡ 0 → a.negated ≡ true → Conjunction nodes nodes a b a
  first_never a b place sign =
      subst (λ t. Conjunction nodes nodes t b t) (sym (tree_is a never place sign)) (never_and b)

  pub first_always : (a b : Tree) → a.place ≡ 0 → a.negated ≡ false → IsTree nodes b →
      Conjunction nodes nodes a b b
  first_always a b place sign made =
      subst (λ t. Conjunction nodes nodes t b b) (sym (tree_is a always place sign)) (always_and b made)

  pub both_same : (a b : Tree) → a ≡ b → IsTree nodes a → Conjunction nodes nodes a b a
  both_same a b e made = subst (λ t. Conjunction nodes nodes a t a) e (record {
    made = made;
    truth_is = λ v. itself (holds nodes a v);
    above = λ place p q. p;
  })

  pub both_opposite : (a b : Tree) → b ≡ negation a → Conjunction nodes nodes a b never
  both_opposite a b e = subst (λ t. Conjunction nodes nodes a t never) (sym e) (record {
    made = omega arith;
    truth_is = λ v. never_holds nodes v ∙ sym (disjoint_negation nodes a v);
    above = λ place p q. above_never place;
  })
