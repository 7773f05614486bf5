-- What a tree asks, by the node at its root.
use Rattle.std.proofs.Common.{◌≡◌, ◌+◌, ◌-◌, ◌<◌, ◌==◌, ◌||◌, inl, inr, Bool, true, false, List, [], ◌∷◌, map}
use Rattle.std.proofs.Common.{length, get_or, refl, ap, ap₂, sym, ◌∙◌, arith, true≢false, Option, Some, None}
use Rattle.std.proofs.Common.{if◌then◌else◌}
use Rattle.std.proofs.lemmas.Bool.{cases_Bool}
use Rattle.std.specs.Cmp.{unsigned_Decides}
use Rattle.std.specs.List.{list_any}
use Rattle.version_ranges.specs.declared.boundary.Boundary.{Boundary}
use Rattle.pep508_diagram.specs.declared.branch.Branch.{Branch}
use Rattle.pep508_diagram.specs.Diagram.{Diagram, Leaf, Test, turned_by}
use Rattle.pep508_diagram.specs.Chains.{chain}
use Rattle.pep508_diagram.specs.Question.{Question, VersionBelow, TextBelow, IsSet}
use Rattle.pep508_tree.specs.declared.root.TreeNode.{TreeNode}
use Rattle.pep508_tree.specs.declared.root.TreeNode.TheVariants as lent
use Rattle.pep508_tree.specs.Tree.{Tree, negation}
use Rattle.pep508_tree.specs.Meaning.{NodeRecord, Versions, Texts, Flagged, node_diagram, diagrams}
use Rattle.pep508_tree.specs.Meaning.{diagram_of, IsTree}
use Rattle.pep508_tree.specs.Nodes.{AreSound, node_at, signed, turned_branch}
use Rattle.pep508_tree.specs.Roots.{root_of, shown, IfConstant, IsConstant}
use Rattle.pep508_tree.proofs.Diagrams.{diagram_top}
use Rattle.pep508_tree.proofs.OneTree.{top_or_node, tree_at}
use Rattle.pep508_questions.specs.Asks.{asks_any}
use Rattle.pep508_questions.specs.Looked.{lent_questions, lent_children, tree_asks}
use Rattle.pep508_questions.proofs.Tests.{or_false, or_across, or_three}

module _ (test : Question → Bool) where
  -- a diagram with its leaves turned asks the same
  asks_turned : (turns : Bool) (d : Diagram Question) → asks_any test (turned_by turns d) ≡ asks_any test d
  asks_turned turns (Leaf b) = refl
  asks_turned turns (Test q low high) =
      ap₂ (λ l h. test q || l || h) (asks_turned turns low) (asks_turned turns high)

  asks_chain : {T C : Type 0} (ask : Boundary T → Question) (at : C → Diagram Question) (first : C)
      (later : List (Branch T C)) → asks_any test (chain ask at first later)
      ≡ (list_any test (map (λ branch. ask branch.boundary) later)
      || list_any (λ c. asks_any test (at c)) (first ∷ map (λ branch. branch.child) later))
  asks_chain ask at first [] = sym (or_false (asks_any test (at first)))
  asks_chain ask at first (branch ∷ later) =
      ap (λ rest. test (ask branch.boundary) || asks_any test (at first) || rest)
      (asks_chain ask at branch.child later)
      ∙ or_across (test (ask branch.boundary)) (asks_any test (at first))
      (list_any test (map (λ branch. ask branch.boundary) later))
      (list_any (λ c. asks_any test (at c)) (branch.child ∷ map (λ branch. branch.child) later))

  module _ (nodes : List NodeRecord) where
    -- trees of one place ask the same
    pub same_place : (s t : Tree) → s.place ≡ t.place → tree_asks nodes test s ≡ tree_asks nodes test t
    same_place s t e =
        asks_turned s.negated (get_or (diagrams nodes) s.place (Leaf true))
        ∙ ap (λ k. asks_any test (get_or (diagrams nodes) k (Leaf true))) e
        ∙ sym (asks_turned t.negated (get_or (diagrams nodes) t.place (Leaf true)))

    signed_chain : {T : Type 0} (ask : Boundary T → Question) (first : Tree) (later : List (Branch T Tree)) →
        asks_any test (chain ask (diagram_of nodes) (negation first) (map turned_branch later))
        ≡ asks_any test (chain ask (diagram_of nodes) first later)
    signed_chain ask first [] = same_place (negation first) first refl
    signed_chain ask first (branch ∷ later) =
        ap₂ (λ l h. test (ask branch.boundary) || l || h) (same_place (negation first) first refl)
        (signed_chain ask branch.child later)

    -- a node whose children bear a sign asks the same
    signed_asks : (turns : Bool) (n : NodeRecord) →
        asks_any test (node_diagram (diagram_of nodes) (signed turns n))
        ≡ asks_any test (node_diagram (diagram_of nodes) n)
    signed_asks true (Versions key first later) = signed_chain (VersionBelow key) first later
    signed_asks true (Texts key first later) = signed_chain (TextBelow key) first later
    signed_asks true (Flagged flag set unset) =
        ap₂ (λ l h. test (IsSet flag) || l || h) (same_place (negation set) set refl)
        (same_place (negation unset) unset refl)
    signed_asks false n = refl

    module _ (sound : AreSound nodes) (tree : Tree) (made : IsTree nodes tree) where
      abbrev root_where : Bool → Option NodeRecord
      root_where constant =
          if constant then None else Some (signed tree.negated (node_at nodes (tree.place - 1)))

      placed : (tree.place == 0) ≡ false → tree.place ≡ (tree.place - 1) + 1
      placed node = elim (top_or_node tree.place) [
        | inl e ↦ absurd (true≢false (sym ((unsigned_Decides tree.place 0).1 e) ∙ node))
        | inr e ↦ omega (arith, e.1)
      ]

      root_asks : (n : NodeRecord) → root_of nodes tree ≡ Some n →
          tree_asks nodes test tree ≡ asks_any test (node_diagram (diagram_of nodes) n)
      root_asks n e = elim (cases_Bool (tree.place == 0)) [
        | inl top ↦ absurd (none_some (sym (ap root_where top) ∙ e))
        | inr node ↦
            let k = tree.place - 1 in
            let at : tree.place ≡ k + 1 = placed node in
            let here : k < length nodes = omega (arith, at) in
            let stored = node_at nodes k in
            ap (asks_any test) (tree_at nodes sound tree k at here)
            ∙ asks_turned tree.negated (node_diagram (diagram_of nodes) stored)
            ∙ sym (signed_asks tree.negated stored)
            ∙ ap (λ m. asks_any test (node_diagram (diagram_of nodes) m))
            (some_same _ n (sym (ap root_where node) ∙ e))
      ]
        where
          none_some : None ≡ Some n → ⊥
          none_some f = absurd (cc)

          some_same : (x y : NodeRecord) → Some x ≡ Some y → x ≡ y
          some_same x y f = cc

      -- a tree asks what its node does, and what stands in it
      pub lent_asks : (node : TreeNode) → shown node ≡ root_of nodes tree →
          IfConstant node (IsConstant nodes tree) → tree_asks nodes test tree
          ≡ (list_any test (lent_questions node) || list_any (tree_asks nodes test) (lent_children node))
      lent_asks (lent.Constant truth) e constant =
          ap (asks_any test) (diagram_top nodes tree constant.place_is)
          ∙ asks_turned tree.negated (Leaf true)
      lent_asks (lent.Versions key children) e constant =
          let n = Versions key children.first children.later.now in
          root_asks (signed children.negated n) (sym e) ∙ signed_asks children.negated n
          ∙ asks_chain (VersionBelow key) (diagram_of nodes) children.first children.later.now
      lent_asks (lent.Texts key children) e constant =
          let n = Texts key children.first children.later.now in
          root_asks (signed children.negated n) (sym e) ∙ signed_asks children.negated n
          ∙ asks_chain (TextBelow key) (diagram_of nodes) children.first children.later.now
      lent_asks (lent.Flagged flag set unset) e constant =
          root_asks (Flagged flag.now set unset) (sym e)
          ∙ or_three (test (IsSet flag.now)) (tree_asks nodes test set) (tree_asks nodes test unset)
