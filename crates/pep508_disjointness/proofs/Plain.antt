-- Whether trees are disjoint of which one is constant, or that are one tree or its negation.
use Rattle.std.proofs.Common.{◌≡◌, ◌↔◌, IsTrue, Bool, true, false, not, List, refl, sym, subst, true≢false}
use Rattle.std.proofs.Common.{ap}
use mathlib.Core.Bool.{beq}
use Rattle.pep508_tree.specs.Tree.{Tree, always, never, negation}
use Rattle.pep508_tree.specs.Meaning.{NodeRecord, IsTree}
use Rattle.pep508_tree.specs.Nodes.{AreSound}
use Rattle.pep508_tree.specs.Disjoint.{AreDisjoint}
use Rattle.pep508_tree.proofs.OneTree.{tree_is}
use Rattle.pep508_tree.proofs.Same.{bools_alike, bools_apart}
use Rattle.pep508_tree.proofs.Disjoint.{disjoint_back, disjoint_negation, disjoint_never, disjoint_itself}
use Rattle.pep508_tree.proofs.Disjoint.{disjoint_always}

module _ (nodes : List NodeRecord) (sound : AreSound nodes) (a b : Tree) where
  -- the first never holds
  pub first_never : a.place ≡ 0 → a.negated ≡ true → AreDisjoint nodes a b
  first_never place sign =
      subst (λ t. AreDisjoint nodes t b) (sym (tree_is a never place sign)) (disjoint_never nodes b)

  -- the first always holds
  pub first_always : a.place ≡ 0 → a.negated ≡ false → IsTree nodes b → AreDisjoint nodes a b ↔ (b ≡ never)
  first_always place sign made =
      let exactly = disjoint_always nodes sound b made in
      let is = tree_is a always place sign in (
        λ apart. exactly.0 (subst (λ t. AreDisjoint nodes t b) is apart),
        λ e. subst (λ t. AreDisjoint nodes t b) (sym is) (exactly.1 e),
      )

  -- they have one diagram, which is no leaf
  pub one_diagram : a.place ≡ b.place → (a.place ≡ 0 → ⊥) → IsTree nodes a →
      IsTrue (not (beq a.negated b.negated)) ↔ AreDisjoint nodes a b
  one_diagram place some made = by_sign (beq a.negated b.negated) refl
    where
      by_sign : (same : Bool) → beq a.negated b.negated ≡ same → IsTrue (not same) ↔ AreDisjoint nodes a b
      by_sign true e =
          let is = tree_is a b place (bools_alike a.negated b.negated e) in
          let exactly = disjoint_itself nodes sound a made in (
            λ h. absurd (true≢false (sym h)),
            λ apart. absurd (some (ap (λ (t : Tree). t.place)
                (exactly.0 (subst (AreDisjoint nodes a) (sym is) apart)))),
          )
      by_sign false e = (
        λ h.
            subst (AreDisjoint nodes a) (sym (tree_is b (negation a) (sym place)
            (bools_apart a.negated b.negated e)))
            (disjoint_negation nodes a),
        λ apart. refl,
      )

-- the second never holds, or always
pub second_constant : (nodes : List NodeRecord) → AreSound nodes → (a b : Tree) → b.place ≡ 0 →
    (a.place ≡ 0 → ⊥) → IsTree nodes a → (sign : Bool) → b.negated ≡ sign → IsTrue sign ↔ AreDisjoint nodes a b
second_constant nodes sound a b place some made true e = (
  λ h. disjoint_back nodes b a (first_never nodes sound b a place e),
  λ apart. refl,
)
second_constant nodes sound a b place some made false e =
    let exactly = first_always nodes sound b a place e made in (
      λ h. absurd (true≢false (sym h)),
      λ apart. absurd (some (ap (λ (t : Tree). t.place) (exactly.0 (disjoint_back nodes a b apart)))),
    )
