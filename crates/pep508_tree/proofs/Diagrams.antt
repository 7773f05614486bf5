-- The diagrams at the places of an interner: what was made earlier keeps its diagram, and the diagram of a
-- node is made of its children's.
use Rattle.std.proofs.Common.{◌≡◌, ℕ, ◌+◌, ◌≤◌, ◌<◌, Bool, true, List, [], ◌∷◌, ◌++◌, length, get_or, take}
use Rattle.std.proofs.Common.{drop, refl, ap, ap₂, sym, ◌∙◌, append_assoc, arith, length-append}
use Rattle.std.proofs.lemmas.List.{get_or_append_left, length-take}
use Rattle.std.proofs.lemmas.Grind.{common_steps}
use Rattle.std.proofs.Math.Seq.{get_or-append_seam}
use Rattle.pep508_diagram.specs.declared.branch.Branch.{Branch}
use Rattle.pep508_diagram.specs.Diagram.{Diagram, Leaf, Test, turned_by}
use Rattle.pep508_diagram.specs.Branches.{AllBranches}
use Rattle.pep508_diagram.specs.Chains.{chain}
use Rattle.version_ranges.specs.declared.boundary.Boundary.{Boundary}
use Rattle.pep508_diagram.specs.Question.{Question, VersionBelow, TextBelow, IsSet, Valuation, truth}
use Rattle.pep508_tree.specs.Tree.{Tree}
use Rattle.pep508_tree.specs.Meaning.{NodeOf, NodeRecord, Versions, Texts, Flagged, node_diagram}
use Rattle.pep508_tree.specs.Meaning.{tree_diagram, fill, diagrams, diagram_of, holds, IsTree, Extends}
use Rattle.pep508_tree.specs.Nodes.{AllChildren, node_at}

pub length_fill : (ds : List (Diagram Question)) (ns : List NodeRecord) →
    length (fill ds ns) ≡ length ds + length ns
length_fill ds [] = omega arith
length_fill ds (n ∷ ns) =
    let d = node_diagram (tree_diagram ds) n in
    omega (arith, length_fill (ds ++ d ∷ []) ns, length-append ds (d ∷ []))

pub fill_append : (ds : List (Diagram Question)) (ns ms : List NodeRecord) →
    fill ds (ns ++ ms) ≡ fill (fill ds ns) ms
fill_append ds [] ms = refl
fill_append ds (n ∷ ns) ms = fill_append (ds ++ node_diagram (tree_diagram ds) n ∷ []) ns ms

pub fill_keeps : (ds : List (Diagram Question)) (ns : List NodeRecord) (k : ℕ) → k < length ds →
    get_or (fill ds ns) k (Leaf true) ≡ get_or ds k (Leaf true)
fill_keeps ds [] k h = refl
fill_keeps ds (n ∷ ns) k h =
    let d = node_diagram (tree_diagram ds) n in
    fill_keeps (ds ++ d ∷ []) ns k (omega (arith, length-append ds (d ∷ [])))
    ∙ get_or_append_left ds (d ∷ []) (Leaf true) k h

pub length_diagrams : (nodes : List NodeRecord) → length (diagrams nodes) ≡ length nodes + 1
unfolding diagrams
length_diagrams nodes = omega (arith, length_fill (Leaf true ∷ []) nodes)

-- what was made earlier keeps its diagram
pub diagram_before : (nodes more : List NodeRecord) (t : Tree) → IsTree nodes t →
    diagram_of (nodes ++ more) t ≡ diagram_of nodes t
unfolding diagrams
diagram_before nodes more t h =
    ap (turned_by t.negated)
    (ap (λ ds. get_or ds t.place (Leaf true)) (fill_append (Leaf true ∷ []) nodes more)
    ∙ fill_keeps (fill (Leaf true ∷ []) nodes) more t.place
    (omega (arith, length_fill (Leaf true ∷ []) nodes)))

pub diagram_kept : (old new : List NodeRecord) → Extends old new → (t : Tree) → IsTree old t →
    diagram_of new t ≡ diagram_of old t
diagram_kept old new e t h = ap (λ ns. diagram_of ns t) e.1 ∙ diagram_before old e.0 t h

pub holds_kept : (old new : List NodeRecord) → Extends old new → (t : Tree) → IsTree old t → (v : Valuation) →
    holds new t v ≡ holds old t v
holds_kept old new e t h v = ap (λ d. truth d v) (diagram_kept old new e t h)

-- place 0 is true
pub diagram_top : (nodes : List NodeRecord) (t : Tree) → t.place ≡ 0 →
    diagram_of nodes t ≡ turned_by t.negated (Leaf true)
unfolding diagrams
diagram_top nodes t e =
    ap (turned_by t.negated)
    (ap (λ k. get_or (fill (Leaf true ∷ []) nodes) k (Leaf true)) e
    ∙ fill_keeps (Leaf true ∷ []) nodes 0 (omega arith))

-- the node that comes last
pub diagram_last : (nodes : List NodeRecord) (n : NodeRecord) (b : Bool) →
    diagram_of (nodes ++ n ∷ []) (record { place = length nodes + 1; negated = b })
    ≡ turned_by b (node_diagram (diagram_of nodes) n)
unfolding diagrams
diagram_last nodes n b =
    let before = fill (Leaf true ∷ []) nodes in
    let d = node_diagram (tree_diagram before) n in
    ap (turned_by b)
    (ap (λ ds. get_or ds (length nodes + 1) (Leaf true)) (fill_append (Leaf true ∷ []) nodes (n ∷ []))
    ∙ ap (λ k. get_or (before ++ d ∷ []) k (Leaf true)) (sym (length_diagrams nodes))
    ∙ get_or-append_seam before d [] (Leaf true))

-- ---- nodes whose children have the same diagrams

module _ {C D : Type 0} (P : C → Type 0) (at other : C → Diagram D)
    (same : (c : C) → P c → at c ≡ other c) where
  pub chain_same : {T : Type 0} (ask : Boundary T → D) (first : C) (later : List (Branch T C)) →
      AllBranches P first later → chain ask at first later ≡ chain ask other first later
  chain_same ask first [] p = same first p
  chain_same ask first (branch ∷ later) p =
      ap₂ (Test (ask branch.boundary)) (same first p.0) (chain_same ask branch.child later p.1)

pub node_same : {C : Type 0} (P : C → Type 0) (at other : C → Diagram Question) →
    ((c : C) → P c → at c ≡ other c) → (n : NodeOf C) → AllChildren P n →
    node_diagram at n ≡ node_diagram other n
node_same P at other same (Versions key first later) p =
    chain_same P at other same (VersionBelow key) first later p
node_same P at other same (Texts key first later) p =
    chain_same P at other same (TextBelow key) first later p
node_same P at other same (Flagged flag set unset) p =
    ap₂ (Test (IsSet flag)) (same set p.0) (same unset p.1)

-- a list around its place k
around : (k : ℕ) (ns : List NodeRecord) → k < length ns →
    (ns ≡ (take k ns ++ node_at ns k ∷ []) ++ drop (k + 1) ns) × (length (take k ns) ≡ k)
around k ns h = (grind (arith, common_steps), omega (arith, length-take k ns))

-- the diagram of a node is made of those of its children
pub diagram_node : (nodes : List NodeRecord) (k : ℕ) (b : Bool) → k < length nodes →
    AllChildren (λ child. child.place ≤ k) (node_at nodes k) →
    diagram_of nodes (record { place = k + 1; negated = b })
    ≡ turned_by b (node_diagram (diagram_of nodes) (node_at nodes k))
diagram_node nodes k b h before =
    let n = node_at nodes k in
    let front = take k nodes in
    let split = around k nodes h in
    let long : length front ≡ k = split.1 in
    let t : Tree = record { place = k + 1; negated = b } in
    let shorter : diagram_of ((front ++ n ∷ []) ++ drop (k + 1) nodes) t ≡ diagram_of (front ++ n ∷ []) t =
    diagram_before (front ++ n ∷ []) (drop (k + 1) nodes) t (omega (arith, length-append front (n ∷ []))) in
    let last : diagram_of (front ++ n ∷ []) t ≡ turned_by b (node_diagram (diagram_of front) n) =
    ap (λ (j : ℕ). diagram_of (front ++ n ∷ []) (record { place = j + 1; negated = b })) (sym long)
    ∙ diagram_last front n b in
    let whole : front ++ (n ∷ drop (k + 1) nodes) ≡ nodes =
    sym (split.0 ∙ append_assoc front (n ∷ []) (drop (k + 1) nodes)) in
    let kept : (c : Tree) → c.place ≤ k → diagram_of front c ≡ diagram_of nodes c =
    λ c p.
    sym (diagram_before front (n ∷ drop (k + 1) nodes) c (omega arith)) ∙ ap (λ ms. diagram_of ms c) whole in
    ap (λ ms. diagram_of ms t) split.0 ∙ shorter ∙ last
    ∙ ap (turned_by b) (node_same (λ c. c.place ≤ k) (diagram_of front) (diagram_of nodes) kept n before)
