-- When two trees of a sound interner never hold together: constant trees, one tree and its negation.
use Rattle.std.proofs.Common.{◌≡◌, ◌↔◌, ◌&&◌, Bool, true, false, not, List, refl, ap, sym, ◌∙◌}
use Rattle.pep508_diagram.specs.Question.{Valuation, truth}
use Rattle.pep508_tree.specs.Tree.{Tree, always, never, negation}
use Rattle.pep508_tree.specs.Meaning.{NodeRecord, holds, IsTree}
use Rattle.pep508_tree.specs.Nodes.{AreSound}
use Rattle.pep508_tree.specs.Disjoint.{AreDisjoint}
use Rattle.pep508_tree.proofs.OneTree.{never_true, negation_holds}
use Rattle.pep508_tree.proofs.Diagrams.{diagram_top}

and_turned : (x y : Bool) → (x && y) ≡ false → (y && x) ≡ false
and_turned true true e = e
and_turned true false e = refl
and_turned false true e = refl
and_turned false false e = refl

and_itself : (x : Bool) → (x && x) ≡ x
and_itself true = refl
and_itself false = refl

and_not : (x : Bool) → (x && not x) ≡ false
and_not true = refl
and_not false = refl

module _ (nodes : List NodeRecord) where
  pub disjoint_back : (a b : Tree) → AreDisjoint nodes a b → AreDisjoint nodes b a
  disjoint_back a b apart v = and_turned (holds nodes a v) (holds nodes b v) (apart v)

  -- a tree and its negation
  pub disjoint_negation : (a : Tree) → AreDisjoint nodes a (negation a)
  disjoint_negation a v =
      ap (λ x. holds nodes a v && x) (negation_holds nodes a v) ∙ and_not (holds nodes a v)

  pub always_holds : (v : Valuation) → holds nodes always v ≡ true
  always_holds v = ap (λ d. truth d v) (diagram_top nodes always refl)

  pub never_holds : (v : Valuation) → holds nodes never v ≡ false
  never_holds v = ap (λ d. truth d v) (diagram_top nodes never refl)

  -- the tree that never holds, and any
  pub disjoint_never : (b : Tree) → AreDisjoint nodes never b
  disjoint_never b v = ap (λ x. x && holds nodes b v) (never_holds v)

module _ (nodes : List NodeRecord) (sound : AreSound nodes) where
  -- one tree alone
  pub disjoint_itself : (a : Tree) → IsTree nodes a → AreDisjoint nodes a a ↔ (a ≡ never)
  disjoint_itself a made =
      let exactly = never_true nodes sound a made in (
        λ apart. exactly.1 (λ v. sym (and_itself (holds nodes a v)) ∙ apart v),
        λ e v. and_itself (holds nodes a v) ∙ exactly.0 e v,
      )

  -- the tree that always holds, and any
  pub disjoint_always : (b : Tree) → IsTree nodes b → AreDisjoint nodes always b ↔ (b ≡ never)
  disjoint_always b made =
      let exactly = never_true nodes sound b made in (
        λ apart. exactly.1 (λ v. sym (ap (λ x. x && holds nodes b v) (always_holds nodes v)) ∙ apart v),
        λ e v. ap (λ x. x && holds nodes b v) (always_holds nodes v) ∙ exactly.0 e v,
      )
