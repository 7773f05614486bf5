-- Diagrams whose leaves are sets of trees, when they are merged and while nodes are added.
use Rattle.std.proofs.Common.{◌≡◌, ℕ, zero, suc, ◌+◌, ◌<◌, ◌≤◌, ◌++◌, List, [], ◌∷◌, map, length, take, drop, get_or, refl, ap, sym}
use Rattle.std.proofs.Common.{subst, ◌∙◌, arith}
use Rattle.std.proofs.lemmas.List.{map-append, take-append-drop, length-append}
use Rattle.std.specs.List.{AllByRecursion}
use Rattle.pep508_diagram.specs.Question.{Valuation}
use Rattle.pep508_tree.specs.Tree.{Tree}
use Rattle.pep508_tree.specs.Meaning.{NodeRecord, IsTree, Extends, holds}
use Rattle.pep508_tree.proofs.Diagrams.{holds_kept}
use Rattle.pep508_tree.proofs.Conjoining.{tree_kept}
use Rattle.pep508_leaf_diagram.specs.declared.merge.Merged.{Merged}
use Rattle.pep508_leaf_diagram.specs.Pairing.{IsDiagram, leaf_in}
use Rattle.pep508_leaf_diagram.specs.Walks.{AreMerged}
use Rattle.pep508_leaf_diagram.proofs.Leaves.{leaf_is_below, stands_made}
use Rattle.pep508_leaf_diagram.proofs.LeafTrees.{plain_graph, plain_leaf}
use Rattle.pep508_cases.specs.declared.set_diagram.Marked.{Marked}
use Rattle.pep508_cases.specs.Cases.{Marks, marks_of}
use Rattle.pep508_cases.specs.Marked.{set_at, united, IsMarked, IsRooted, AreShort}

map_at : (f : ℕ × ℕ → Marks) (leaves : List (ℕ × ℕ)) (k : ℕ) → k < length leaves →
    get_or (map f leaves) k [] ≡ f (get_or leaves k (0, 0))
map_at f [] k h = absurd (omega (arith, h))
map_at f (x ∷ leaves) zero h = refl
map_at f (x ∷ leaves) (suc k) h = map_at f leaves k (omega (arith, h))

length_mapped : (f : ℕ × ℕ → Marks) (leaves : List (ℕ × ℕ)) → length (map f leaves) ≡ length leaves
length_mapped f [] = refl
length_mapped f (x ∷ leaves) = ap suc (length_mapped f leaves)

pub marked_joined : (nodes : List NodeRecord) (a b m : Marked) (merged : Merged) (xs ys : List Tree) →
    AreMerged nodes a.diagram b.diagram merged → m.diagram ≡ merged.diagram →
    m.sets.items ≡ map (united a.sets.items b.sets.items) merged.leaves.items → IsMarked nodes xs a →
    IsMarked nodes ys b → IsMarked nodes (xs ++ ys) m
marked_joined nodes a b m merged xs ys are same sets left right =
    let d = merged.diagram in
    let f = united a.sets.items b.sets.items in
    record {
      diagram = subst (IsDiagram nodes) (sym same)
          (record { graph = are.graph; root = stands_made nodes d.leaves (length d.nodes.items) d.root are.root });
      count = ap length sets ∙ length_mapped f merged.leaves.items ∙ are.count ∙ ap (λ e. e.leaves) (sym same);
      marks = λ v.
          let k = leaf_in nodes d d.root v in
          let below : k < d.leaves = leaf_is_below nodes d.leaves d.nodes.items are.graph v d.root
          (stands_made nodes d.leaves (length d.nodes.items) d.root are.root) in
          ap (λ s. set_at s (leaf_in nodes m.diagram m.diagram.root v)) sets
          ∙ ap (λ e. set_at (map f merged.leaves.items) (leaf_in nodes e e.root v)) same
          ∙ map_at f merged.leaves.items k (omega (arith, below, are.count))
          ∙ ap f (are.leaf v) ∙ (λ i. left.marks v i ++ right.marks v i)
          ∙ sym (map-append (λ t. holds nodes t v) xs ys);
    }

pub rooted_joined : (nodes : List NodeRecord) (a b m : Marked) (merged : Merged) →
    AreMerged nodes a.diagram b.diagram merged → m.diagram ≡ merged.diagram → IsRooted m
rooted_joined nodes a b m merged are same =
    subst (λ d. IsRooted (record { diagram = d; sets = m.sets; count = m.count })) (sym same) are.root

-- ---- lengths

pub short_at : (n : ℕ) (sets : List Marks) → AllByRecursion (λ set. length set ≤ n) sets → (k : ℕ) →
    length (set_at sets k) ≤ n
short_at n [] short k = omega arith
short_at n (set ∷ sets) short zero = short.0
short_at n (set ∷ sets) short (suc k) = short_at n sets short.1 k

pub short_both : (a b : Marked) → AreShort a → AreShort b → (places : ℕ × ℕ) →
    length (set_at a.sets.items places.0) + length (set_at b.sets.items places.1) ≤ a.count + b.count
short_both a b short others places =
    let first = short_at a.count a.sets.items short places.0 in
    let second = short_at b.count b.sets.items others places.1 in
    omega (arith, first, second)

pub short_joined : (a b : Marked) → AreShort a → AreShort b → (leaves : List (ℕ × ℕ)) →
    AllByRecursion (λ set. length set ≤ a.count + b.count) (map (united a.sets.items b.sets.items) leaves)
short_joined a b short others [] = tt
short_joined a b short others (places ∷ leaves) = (
  (let long = length-append (set_at a.sets.items places.0) (set_at b.sets.items places.1) in
      let both = short_both a b short others places in omega (arith, long, both)),
  short_joined a b short others leaves,
)

-- ---- parts of lists

parts : (P : Tree → Type 0) (xs ys : List Tree) → AllByRecursion P (xs ++ ys) →
    AllByRecursion P xs × AllByRecursion P ys
parts P [] ys all = (tt, all)
parts P (x ∷ xs) ys all = let later = parts P xs ys all.1 in ((all.0, later.0), later.1)

pub all_parts : (P : Tree → Type 0) (whole xs ys : List Tree) → whole ≡ xs ++ ys → AllByRecursion P whole →
    AllByRecursion P xs × AllByRecursion P ys
all_parts P whole xs ys e all = parts P xs ys (subst (AllByRecursion P) e all)

pub taken : (trees : List Tree) (n : ℕ) → trees ≡ take n trees ++ drop n trees
taken trees n = sym (take-append-drop n trees)

pub none_is : (trees : List Tree) → length trees ≡ 0 → trees ≡ []
none_is [] e = refl
none_is (t ∷ trees) e = absurd (omega (arith, e))

-- ---- while nodes are added

marks_kept : (old new : List NodeRecord) → Extends old new → (trees : List Tree) → AllByRecursion (IsTree old) trees →
    (v : Valuation) → marks_of new trees v ≡ marks_of old trees v
marks_kept old new x [] all v = refl
marks_kept old new x (t ∷ trees) all v =
    (λ i. holds_kept old new x t all.0 v i ∷ marks_kept old new x trees all.1 v i)

pub marking_kept : (old new : List NodeRecord) → Extends old new → (trees : List Tree) → AllByRecursion (IsTree old) trees →
    marks_of new trees ≡ marks_of old trees
marking_kept old new x trees all = λ i v. marks_kept old new x trees all v i

pub marked_kept : (old new : List NodeRecord) (trees : List Tree) (m : Marked) → Extends old new →
    AllByRecursion (IsTree old) trees → IsRooted m → IsMarked old trees m → IsMarked new trees m
marked_kept old new trees m x all rooted marked =
    let d = m.diagram in
    let count = length d.nodes.items in
    record {
      diagram = record {
        graph = plain_graph old new d.leaves d.nodes.items marked.diagram.graph;
        root = stands_made new d.leaves count d.root rooted;
      };
      count = marked.count;
      marks = λ v.
          ap (set_at m.sets.items) (sym (plain_leaf old new d.leaves d.nodes.items marked.diagram.graph count d.root rooted v))
          ∙ marked.marks v ∙ sym (marks_kept old new x trees all v);
    }

pub all_made : (old new : List NodeRecord) → Extends old new → (trees : List Tree) → AllByRecursion (IsTree old) trees →
    AllByRecursion (IsTree new) trees
all_made old new x [] all = tt
all_made old new x (t ∷ trees) all = (tree_kept old new x t all.0, all_made old new x trees all.1)

pub all_taken : (old new : List NodeRecord) → Extends old new → (trees : List Tree) (k : ℕ) →
    AllByRecursion (IsTree old) trees → AllByRecursion (IsTree new) (take k trees)
all_taken old new x trees k all =
    all_made old new x (take k trees) (all_parts (IsTree old) trees (take k trees) (drop k trees) (taken trees k) all).0

pub all_left : (old new : List NodeRecord) → Extends old new → (trees : List Tree) (k : ℕ) →
    AllByRecursion (IsTree old) trees → AllByRecursion (IsTree new) (drop k trees)
all_left old new x trees k all =
    all_made old new x (drop k trees) (all_parts (IsTree old) trees (take k trees) (drop k trees) (taken trees k) all).1

none_taken : (n : ℕ) → ◌≡◌ {A = List Tree} (take n []) []
none_taken zero = refl
none_taken (suc n) = refl

pub take_on : (trees : List Tree) (k n : ℕ) → (take k trees ++ take n (drop k trees)) ≡ take (k + n) trees
take_on trees zero n = ap (λ m. take m trees) (omega arith)
take_on [] (suc k) n = none_taken n ∙ sym (none_taken (suc k + n))
take_on (t ∷ trees) (suc k) n =
    let more : suc (k + n) ≡ suc k + n = omega arith in
    ap (λ xs. t ∷ xs) (take_on trees k n) ∙ ap (λ m. take m (t ∷ trees)) more
