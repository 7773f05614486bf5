-- The diagram of a tree by the node at its root.
use Rattle.std.proofs.Common.{◌≡◌, ℕ, ◌+◌, ◌-◌, ◌<◌, ◌==◌, Bool, true, false, not, List, []}
use Rattle.std.proofs.Common.{◌∷◌, ◌++◌, map, length, get_or, refl, sym, ap, ap₂, ◌∙◌, arith}
use Rattle.std.proofs.Common.{Option, Some, None, inl, inr, cond, if◌then◌else◌}
use Rattle.std.proofs.Common.{true≢false}
use Rattle.std.proofs.lemmas.Bool.{cases_Bool}
use Rattle.std.specs.List.{flat_map}
use Rattle.std.specs.Prelude.{IfSome}
use Rattle.std.specs.Cmp.{unsigned_Decides}
use Rattle.version_ranges.specs.declared.boundary.Boundary.{Boundary}
use Rattle.version_ranges.specs.Point.{Point}
use Rattle.pep440_text.specs.Record.{VersionRecord}
use Rattle.pep508_marker.specs.declared.keys.MarkerValueString.{MarkerValueString}
use Rattle.pep508_diagram.specs.declared.branch.Branch.{Branch}
use Rattle.pep508_diagram.specs.declared.variable.VersionVariable.{VersionVariable}
use Rattle.pep508_diagram.specs.Diagram.{Diagram, Leaf, Test, turned_by}
use Rattle.pep508_diagram.specs.Chains.{chain}
use Rattle.pep508_diagram.specs.Children.{RootBehind}
use Rattle.pep508_diagram.specs.Question.{Question, VersionBelow, TextBelow, IsSet, Valuation, lies_below}
use Rattle.pep508_diagram.specs.Text.{text_cmp}
use Rattle.pep508_diagram.proofs.Turned.{turned_not}
use Rattle.pep508_diagram.proofs.Questions.{not_not}
use Rattle.pep508_tree.specs.Tree.{Tree, negation}
use Rattle.pep508_tree.specs.Meaning.{NodeRecord, Versions, Texts, Flagged, node_diagram, diagrams}
use Rattle.pep508_tree.specs.Meaning.{diagram_of, IsTree}
use Rattle.pep508_tree.specs.Nodes.{Above, AreSound, chosen, node_at, node_place, signed, turned_branch}
use Rattle.pep508_tree.proofs.NodeChildren.{weaker_children, both_children}
use Rattle.pep508_tree.proofs.Diagrams.{diagram_top}
use Rattle.pep508_tree.proofs.OneTree.{top_or_node, tree_at, root_behind}
use Rattle.pep508_tree.specs.Roots.{root_of, IsRoot}
use Rattle.pep508_evaluation.specs.Steps.{children_of}
use Rattle.pep508_evaluation.specs.Warned.{key_names, old_names, edge, compared}
use Rattle.pep508_evaluation.specs.Edges.{text_edges, root_edges, root_names}
use Rattle.pep508_evaluation.proofs.Warning.{AllBehind, names_node, compared_node}

-- a diagram that is turned twice
turned_on : {Q : Type 0} (b : Bool) (d : Diagram Q) → turned_by true (turned_by b d) ≡ turned_by (not b) d
turned_on true (Leaf x) = ap Leaf (not_not x)
turned_on false (Leaf x) = refl
turned_on b (Test q low high) = ap₂ (Test q) (turned_on b low) (turned_on b high)

module _ (nodes : List NodeRecord) where
  at_negation : (c : Tree) → turned_by true (diagram_of nodes c) ≡ diagram_of nodes (negation c)
  at_negation c = turned_on c.negated (get_or (diagrams nodes) c.place (Leaf true))

  turned_chain : {T : Type 0} (ask : Boundary T → Question) (first : Tree) (later : List (Branch T Tree)) →
      turned_by true (chain ask (diagram_of nodes) first later)
      ≡ chain ask (diagram_of nodes) (negation first) (map turned_branch later)
  turned_chain ask first [] = at_negation first
  turned_chain ask first (branch ∷ later) =
      ap₂ (Test (ask branch.boundary)) (at_negation first) (turned_chain ask branch.child later)

  -- the diagram of a node whose children bear a sign
  signed_diagram : (turns : Bool) (n : NodeRecord) →
      turned_by turns (node_diagram (diagram_of nodes) n) ≡ node_diagram (diagram_of nodes) (signed turns n)
  signed_diagram true (Versions key first later) = turned_chain (VersionBelow key) first later
  signed_diagram true (Texts key first later) = turned_chain (TextBelow key) first later
  signed_diagram true (Flagged flag set unset) =
      ap₂ (Test (IsSet flag)) (at_negation set) (at_negation unset)
  signed_diagram false n = turned_not (node_diagram (diagram_of nodes) n)

  module _ (sound : AreSound nodes) (tree : Tree) (made : IsTree nodes tree) where
    -- the root's node, by whether the tree has one
    abbrev root_where : Bool → Option NodeRecord
    root_where constant =
        if constant then None else Some (signed tree.negated (node_at nodes (tree.place - 1)))

    -- a tree with a node
    placed : (tree.place == 0) ≡ false → tree.place ≡ (tree.place - 1) + 1
    placed node = elim (top_or_node tree.place) [
      | inl e ↦ absurd (true≢false (sym ((unsigned_Decides tree.place 0).1 e) ∙ node))
      | inr e ↦ omega (arith, e.1)
    ]

    pub root_diagram : (n : NodeRecord) → root_of nodes tree ≡ Some n →
        diagram_of nodes tree ≡ node_diagram (diagram_of nodes) n
    root_diagram n e = elim (cases_Bool (tree.place == 0)) [
      | inl top ↦ absurd (none_some (sym (ap root_where top) ∙ e))
      | inr node ↦
          let k = tree.place - 1 in
          let at : tree.place ≡ k + 1 = placed node in
          let here : k < length nodes = omega (arith, at) in
          tree_at nodes sound tree k at here
          ∙ signed_diagram tree.negated (node_at nodes k)
          ∙ ap (node_diagram (diagram_of nodes)) (some_same _ n (sym (ap root_where node) ∙ e))
    ]
      where
        none_some : None ≡ Some n → ⊥
        none_some f = absurd (cc)

        some_same : (x y : NodeRecord) → Some x ≡ Some y → x ≡ y
        some_same x y f = cc

    pub constant_diagram : root_of nodes tree ≡ None →
        diagram_of nodes tree ≡ turned_by tree.negated (Leaf true)
    constant_diagram e = elim (cases_Bool (tree.place == 0)) [
      | inl top ↦ diagram_top nodes tree ((unsigned_Decides tree.place 0).0 top)
      | inr node ↦ absurd (some_none _ (sym (ap root_where node) ∙ e))
    ]
      where
        some_none : (n : NodeRecord) → Some n ≡ None → ⊥
        some_none n f = absurd (cc)

    -- the children of the root's node come behind its variable
    pub root_children_behind : (n : NodeRecord) → IsRoot nodes tree n → AllBehind (diagram_of nodes) n
    root_children_behind n root =
        weaker_children (λ c. IsTree nodes c × Above nodes (node_place n) c)
        (λ c. RootBehind (node_place n) (diagram_of nodes c))
        (λ c h. root_behind nodes sound (node_place n) c h.0 h.1) n
        (both_children (IsTree nodes) (Above nodes (node_place n)) n root.made root.above)

    -- ---- what is warned of

    pub names_root : (root : Option NodeRecord) → root_of nodes tree ≡ root → IfSome root (IsRoot nodes tree) →
        old_names None (diagram_of nodes tree)
        ≡ root_names root ++ flat_map (λ c. old_names None (diagram_of nodes c)) (children_of root)
    names_root None e known = ap (old_names None) (constant_diagram e) ∙ leaf tree.negated
      where
        leaf : (b : Bool) → old_names None (turned_by b (Leaf true)) ≡ []
        leaf true = refl
        leaf false = refl
    names_root (Some n) e known =
        ap (old_names None) (root_diagram n e)
        ∙ names_node (diagram_of nodes) n known.wide (root_children_behind n known)

    pub compared_root : (v : Valuation) (n : NodeRecord) → root_of nodes tree ≡ Some n → IsRoot nodes tree n →
        compared v None (diagram_of nodes tree)
        ≡ root_edges (root_of nodes tree) v ++ compared v None (diagram_of nodes (chosen n v))
    compared_root v n e known =
        ap (compared v None) (root_diagram n e)
        ∙ compared_node (diagram_of nodes) n v (root_children_behind n known)
        ∙ ap (λ root. root_edges root v ++ compared v None (diagram_of nodes (chosen n v))) (sym e)

    pub compared_constant : (v : Valuation) → root_of nodes tree ≡ None →
        compared v None (diagram_of nodes tree) ≡ root_edges (root_of nodes tree) v
    compared_constant v e =
        ap (compared v None) (constant_diagram e) ∙ leaf tree.negated
        ∙ ap (λ root. root_edges root v) (sym e)
      where
        leaf : (b : Bool) → compared v None (turned_by b (Leaf true)) ≡ []
        leaf true = refl
        leaf false = refl

-- the edges of a node whose children bear a sign
signed_texts : (lower : List (Boundary (List ℕ))) (later : List (Branch (List ℕ) Tree)) (p : Point (List ℕ)) →
    text_edges lower (map turned_branch later) p ≡ text_edges lower later p
signed_texts lower [] p = refl
signed_texts lower (branch ∷ later) p =
    ap (λ rest. edge lower (branch.boundary ∷ []) ++ cond (lies_below text_cmp p branch.boundary) [] rest)
    (signed_texts (branch.boundary ∷ []) later p)

pub signed_edges : (turns : Bool) (key : MarkerValueString) (first : Tree) (later : List (Branch (List ℕ) Tree))
    (v : Valuation) → root_edges (Some (signed turns (Texts key first later))) v
    ≡ text_edges [] later (v.text key)
signed_edges true key first later v = signed_texts [] later (v.text key)
signed_edges false key first later v = refl

pub signed_names : (turns : Bool) (key : MarkerValueString) (first : Tree) (later : List (Branch (List ℕ) Tree)) →
    root_names (Some (signed turns (Texts key first later))) ≡ key_names key
signed_names true key first later = refl
signed_names false key first later = refl

pub signed_version_edges : (turns : Bool) (key : VersionVariable) (first : Tree)
    (later : List (Branch VersionRecord Tree)) (v : Valuation) →
    root_edges (Some (signed turns (Versions key first later))) v ≡ []
signed_version_edges true key first later v = refl
signed_version_edges false key first later v = refl

pub signed_version_names : (turns : Bool) (key : VersionVariable) (first : Tree)
    (later : List (Branch VersionRecord Tree)) →
    root_names (Some (signed turns (Versions key first later))) ≡ []
signed_version_names true key first later = refl
signed_version_names false key first later = refl
