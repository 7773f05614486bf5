-- The order of trees, as it is found edge by edge.
use Rattle.std.proofs.Common.{◌≡◌, ◌↔◌, ℕ, zero, suc, ◌+◌, ◌-◌, ◌==◌, ◌<◌, ◌≤◌, arith, add-one, Bool, true}
use Rattle.std.proofs.Common.{false, cond, List, [], ◌∷◌, length, drop, Option, Some, None, IsTrue, inl, inr}
use Rattle.std.proofs.Common.{refl, sym, ap, ap₂, subst, ◌∙◌, true≢false, Ordering, Less, Equal, Greater}
use Rattle.std.proofs.lemmas.Bool.{cases_Bool}
use Rattle.std.specs.Prelude.{option_map, IfSome, if◌then◌else◌}
use Rattle.std.specs.List.{slice_get}
use Rattle.std.specs.Cmp.{unsigned_Decides}
use Rattle.std.specs.Ordering.{bool_cmp, ordering_then, is_ne}
use Rattle.std.specs.Cmp.Lexicographic.{slice_cmp}
use Rattle.version_ranges.specs.Turns.{flips}
use Rattle.pep508_diagram.specs.Diagram.{Diagram, Leaf, turned_by}
use Rattle.pep508_diagram.specs.Question.{Question}
use Rattle.pep440_version.proofs.Stripped.{then_equal_last}
use Rattle.pep508_tree.specs.Tree.{Tree, never}
use Rattle.pep508_tree.specs.Joining.{children}
use Rattle.pep508_tree.specs.Meaning.{NodeOf, NodeRecord, Versions, Texts, Flagged, diagram_of, IsTree}
use Rattle.pep508_tree.specs.Nodes.{AreSound, node_at, signed}
use Rattle.pep508_tree.specs.Roots.{root_of, IsRoot}
use Rattle.pep508_tree.proofs.OneTree.{tree_is}
use Rattle.pep508_evaluation.specs.Steps.{children_of}
use Rattle.pep508_evaluation.proofs.CanHold.{known_root, known_constant}
use Rattle.pep508_evaluation.proofs.Rooted.{root_diagram, constant_diagram, root_children_behind}
use Rattle.pep508_tree_ref.specs.TreeOrder.{diagram_cmp}
use Rattle.pep508_tree_ref.specs.Sides.{ends, ends_of, sides, side_cmp, root_sides, end_cmp}
use Rattle.pep508_tree_ref.proofs.Edges.{nodes_by_sides, leaf_before_node, node_behind_leaf}

-- ---- two lists, element by element

module _ {X : Type 0} (R : X → X → Ordering) where
  drop_none : (i : ℕ) → drop {A = X} i [] ≡ []
  drop_none zero = refl
  drop_none (suc i) = refl

  pub next_pair : (xs ys : List X) (i : ℕ) (x y : X) → slice_get xs i ≡ Some x → slice_get ys i ≡ Some y →
      slice_cmp R (drop i xs) (drop i ys)
      ≡ ordering_then (R x y) (slice_cmp R (drop (i + 1) xs) (drop (i + 1) ys))
  next_pair xs ys i x y e f = rw add-one (from xs ys i e f)
    where
      same : (x y : X) → Some x ≡ Some y → x ≡ y
      same x y e = cc

      from : (xs ys : List X) (i : ℕ) → slice_get xs i ≡ Some x → slice_get ys i ≡ Some y →
          slice_cmp R (drop i xs) (drop i ys)
          ≡ ordering_then (R x y) (slice_cmp R (drop (suc i) xs) (drop (suc i) ys))
      from [] ys i e f = absurd (cc)
      from (v ∷ vs) [] i e f = absurd (cc)
      from (v ∷ vs) (w ∷ ws) zero e f =
          ap₂ (λ a b. ordering_then (R a b) (slice_cmp R vs ws)) (same v x e) (same w y f)
      from (v ∷ vs) (w ∷ ws) (suc i) e f = from vs ws i e f

  pub other_ended : (xs ys : List X) (i : ℕ) → i < length xs → length ys ≤ i →
      slice_cmp R (drop i xs) (drop i ys) ≡ Greater
  other_ended [] ys i more past = absurd (omega arith)
  other_ended (v ∷ vs) [] zero more past = refl
  other_ended (v ∷ vs) (w ∷ ws) zero more past = absurd (omega arith)
  other_ended (v ∷ vs) [] (suc i) more past =
      subst (λ ys. slice_cmp R (drop i vs) ys ≡ Greater) (drop_none i)
      (other_ended vs [] i (omega arith) (omega arith))
  other_ended (v ∷ vs) (w ∷ ws) (suc i) more past = other_ended vs ws i (omega arith) (omega arith)

  pub both_ended : (xs ys : List X) (i : ℕ) → length xs ≤ i → length ys ≤ i →
      slice_cmp R (drop i xs) (drop i ys) ≡ Equal
  both_ended [] [] zero past other_past = refl
  both_ended [] [] (suc i) past other_past = refl
  both_ended [] (w ∷ ws) zero past other_past = absurd (omega arith)
  both_ended [] (w ∷ ws) (suc i) past other_past =
      subst (λ xs. slice_cmp R xs (drop i ws) ≡ Equal) (drop_none i)
      (both_ended [] ws i (omega arith) (omega arith))
  both_ended (v ∷ vs) ys zero past other_past = absurd (omega arith)
  both_ended (v ∷ vs) [] (suc i) past other_past =
      subst (λ ys. slice_cmp R (drop i vs) ys ≡ Equal) (drop_none i)
      (both_ended vs [] i (omega arith) (omega arith))
  both_ended (v ∷ vs) (w ∷ ws) (suc i) past other_past = both_ended vs ws i (omega arith) (omega arith)

  pub one_ended : (xs ys : List X) (i : ℕ) → length xs ≤ i → i < length ys →
      slice_cmp R (drop i xs) (drop i ys) ≡ Less
  one_ended [] [] i past more = absurd (omega arith)
  one_ended [] (w ∷ ws) zero past more = refl
  one_ended [] (w ∷ ws) (suc i) past more =
      subst (λ xs. slice_cmp R xs (drop i ws) ≡ Less) (drop_none i) (one_ended [] ws i (omega arith) (omega arith))
  one_ended (v ∷ vs) ys zero past more = absurd (omega arith)
  one_ended (v ∷ vs) [] (suc i) past more = absurd (omega arith)
  one_ended (v ∷ vs) (w ∷ ws) (suc i) past more = one_ended vs ws i (omega arith) (omega arith)

-- ---- what decides

first_decides : (o d r t : Ordering) → is_ne o ≡ true →
    o ≡ ordering_then (ordering_then (ordering_then o d) r) t
first_decides Less d r t e = refl
first_decides Equal d r t e = absurd (true≢false (sym e))
first_decides Greater d r t e = refl

second_decides : (o p r t : Ordering) → is_ne o ≡ false → is_ne p ≡ true →
    p ≡ ordering_then (ordering_then (ordering_then o p) r) t
second_decides Less p r t e f = absurd (true≢false e)
second_decides Equal p r t e f = first_decides p Equal r t f ∙ ap (λ o. ordering_then (ordering_then o r) t) (then_equal_last p)
second_decides Greater p r t e f = absurd (true≢false e)

both_level : (o p r : Ordering) → is_ne o ≡ false → is_ne p ≡ false → ordering_then (ordering_then o p) r ≡ r
both_level Less p r e f = absurd (true≢false e)
both_level Equal Less r e f = absurd (true≢false f)
both_level Equal Equal r e f = refl
both_level Equal Greater r e f = absurd (true≢false f)
both_level Greater p r e f = absurd (true≢false e)

-- ---- edges by their places

module _ {C : Type 0} (at : C → Diagram Question) where
  pub side_at : (qs : List Question) (cs : List C) (i : ℕ) →
      slice_get (sides at qs cs) i ≡ option_map (λ c. (slice_get qs i, at c)) (slice_get cs i)
  side_at qs [] i = refl
  side_at [] (c ∷ cs) zero = refl
  side_at (q ∷ qs) (c ∷ cs) zero = refl
  side_at [] (c ∷ cs) (suc i) = side_at [] cs i
  side_at (q ∷ qs) (c ∷ cs) (suc i) = side_at qs cs i

  pub length_sides : (qs : List Question) (cs : List C) → length (sides at qs cs) ≡ length cs
  length_sides qs [] = refl
  length_sides [] (c ∷ cs) = ap suc (length_sides [] cs)
  length_sides (q ∷ qs) (c ∷ cs) = ap suc (length_sides qs cs)

  -- a node has an edge
  none_before : (n : NodeOf C) → slice_cmp side_cmp [] (sides at (ends n) (children n)) ≡ Less
  none_before (Versions key first []) = refl
  none_before (Versions key first (branch ∷ later)) = refl
  none_before (Texts key first []) = refl
  none_before (Texts key first (branch ∷ later)) = refl
  none_before (Flagged flag set unset) = refl

  none_behind : (n : NodeOf C) → slice_cmp side_cmp (sides at (ends n) (children n)) [] ≡ Greater
  none_behind (Versions key first []) = refl
  none_behind (Versions key first (branch ∷ later)) = refl
  none_behind (Texts key first []) = refl
  none_behind (Texts key first (branch ∷ later)) = refl
  none_behind (Flagged flag set unset) = refl

-- ---- trees

-- whether the tree is the one that never holds
abbrev pub is_never : Tree → Bool
is_never tree = cond (tree.place == 0) tree.negated false

pub named_never : (tree : Tree) (b : Bool) → IsTrue b ↔ (tree ≡ never) → b ≡ is_never tree
named_never tree true exactly = sym (ap is_never (exactly.0 refl))
named_never tree false exactly = elim (cases_Bool (is_never tree)) [
  | inl is ↦ absurd (true≢false (sym (exactly.1 (never_is is))))
  | inr other ↦ sym other
]
  where
    parts : (b c : Bool) → cond b c false ≡ true → (b ≡ true) × (c ≡ true)
    parts true c e = (refl, e)
    parts false c e = absurd (true≢false (sym e))

    never_is : is_never tree ≡ true → tree ≡ never
    never_is is =
        let both = parts (tree.place == 0) tree.negated is in
        tree_is tree never ((unsigned_Decides tree.place 0).0 both.0) both.1

leaf_sign : (b c : Bool) →
    diagram_cmp (turned_by b (Leaf true)) (turned_by c (Leaf true)) ≡ bool_cmp b c
leaf_sign true true = refl
leaf_sign true false = refl
leaf_sign false true = refl
leaf_sign false false = refl

module _ (nodes : List NodeRecord) (sound : AreSound nodes) (a : Tree) (made : IsTree nodes a) where
  constant_sign : root_of nodes a ≡ None → a.negated ≡ is_never a
  constant_sign e =
      sym (ap (λ b. cond b a.negated false)
      ((unsigned_Decides a.place 0).1 (known_constant nodes sound a made e).place_is))

  node_sign : (n : NodeRecord) → root_of nodes a ≡ Some n → false ≡ is_never a
  node_sign n e = elim (cases_Bool (a.place == 0)) [
    | inl top ↦ absurd (none_some (sym (ap root_where top) ∙ e))
    | inr node ↦ sym (ap (λ b. cond b a.negated false) node)
  ]
    where
      root_where : Bool → Option NodeRecord
      root_where constant = if constant then None else Some (signed a.negated (node_at nodes (a.place - 1)))

      none_some : None ≡ Some n → ⊥
      none_some f = absurd (cc)

module _ (nodes : List NodeRecord) (sound : AreSound nodes) (a : Tree) (made : IsTree nodes a)
    (others : List NodeRecord) (other_sound : AreSound others) (b : Tree) (other_made : IsTree others b) where
  -- the order of trees by what stands at their roots
  ByRoots : Option NodeRecord → Option NodeRecord → Type 0
  ByRoots root other_root =
      diagram_cmp (diagram_of nodes a) (diagram_of others b)
      ≡ ordering_then (slice_cmp side_cmp (sides (diagram_of nodes) (ends_of root) (children_of root))
      (sides (diagram_of others) (ends_of other_root) (children_of other_root)))
      (bool_cmp (is_never a) (is_never b))

  at_roots : (root other_root : Option NodeRecord) → root_of nodes a ≡ root → root_of others b ≡ other_root →
      IfSome root (IsRoot nodes a) → IfSome other_root (IsRoot others b) → ByRoots root other_root
  unfolding ByRoots
  at_roots None None e f known other_known =
      ap₂ diagram_cmp (constant_diagram nodes sound a made e) (constant_diagram others other_sound b other_made f)
      ∙ leaf_sign a.negated b.negated
      ∙ ap₂ bool_cmp (constant_sign nodes sound a made e) (constant_sign others other_sound b other_made f)
  at_roots None (Some m) e f known other_known =
      ap₂ diagram_cmp (constant_diagram nodes sound a made e) (root_diagram others other_sound b other_made m f)
      ∙ leaf_before_node (diagram_of others) (flips a.negated true) m other_known.wide
      ∙ sym (ap (λ o. ordering_then o (bool_cmp (is_never a) (is_never b))) (none_before (diagram_of others) m))
  at_roots (Some n) None e f known other_known =
      ap₂ diagram_cmp (root_diagram nodes sound a made n e) (constant_diagram others other_sound b other_made f)
      ∙ node_behind_leaf (diagram_of nodes) (flips b.negated true) n known.wide
      ∙ sym (ap (λ o. ordering_then o (bool_cmp (is_never a) (is_never b))) (none_behind (diagram_of nodes) n))
  at_roots (Some n) (Some m) e f known other_known =
      ap₂ diagram_cmp (root_diagram nodes sound a made n e) (root_diagram others other_sound b other_made m f)
      ∙ nodes_by_sides (diagram_of nodes) (diagram_of others) n m known.wide other_known.wide
      (root_children_behind nodes sound a made n known)
      (root_children_behind others other_sound b other_made m other_known)
      ∙ sym (then_equal_last (slice_cmp side_cmp (sides (diagram_of nodes) (ends n) (children n))
      (sides (diagram_of others) (ends m) (children m))))
      ∙ ap₂ (λ x y. ordering_then (slice_cmp side_cmp (sides (diagram_of nodes) (ends n) (children n))
      (sides (diagram_of others) (ends m) (children m))) (bool_cmp x y))
      (node_sign nodes sound a made n e) (node_sign others other_sound b other_made m f)

  pub by_roots : diagram_cmp (diagram_of nodes a) (diagram_of others b)
      ≡ ordering_then (slice_cmp side_cmp (root_sides nodes a) (root_sides others b))
      (bool_cmp (is_never a) (is_never b))
  unfolding ByRoots
  by_roots =
      at_roots (root_of nodes a) (root_of others b) refl refl (known_root nodes sound a made)
      (known_root others other_sound b other_made)

  -- ---- as far as edges tie

  abbrev pub TieUpTo : ℕ → Type 0
  TieUpTo i =
      slice_cmp side_cmp (root_sides nodes a) (root_sides others b)
      ≡ slice_cmp side_cmp (drop i (root_sides nodes a)) (drop i (root_sides others b))

  found_side : (c : Tree) (i : ℕ) → Some c ≡ slice_get (children_of (root_of nodes a)) i →
      slice_get (root_sides nodes a) i ≡ Some (slice_get (ends_of (root_of nodes a)) i, diagram_of nodes c)
  found_side c i e =
      side_at (diagram_of nodes) (ends_of (root_of nodes a)) (children_of (root_of nodes a)) i
      ∙ ap (option_map (λ c. (slice_get (ends_of (root_of nodes a)) i, diagram_of nodes c))) (sym e)

  other_side : (d : Tree) (i : ℕ) → Some d ≡ slice_get (children_of (root_of others b)) i →
      slice_get (root_sides others b) i ≡ Some (slice_get (ends_of (root_of others b)) i, diagram_of others d)
  other_side d i e =
      side_at (diagram_of others) (ends_of (root_of others b)) (children_of (root_of others b)) i
      ∙ ap (option_map (λ c. (slice_get (ends_of (root_of others b)) i, diagram_of others c))) (sym e)

  module _ (i : ℕ) (tie : TieUpTo i) where
    module _ (c d : Tree) (e : Some c ≡ slice_get (children_of (root_of nodes a)) i)
        (f : Some d ≡ slice_get (children_of (root_of others b)) i) where
      step : slice_cmp side_cmp (root_sides nodes a) (root_sides others b)
          ≡ ordering_then
          (ordering_then
          (end_cmp (slice_get (ends_of (root_of nodes a)) i) (slice_get (ends_of (root_of others b)) i))
          (diagram_cmp (diagram_of nodes c) (diagram_of others d)))
          (slice_cmp side_cmp (drop (i + 1) (root_sides nodes a)) (drop (i + 1) (root_sides others b)))
      step =
          tie ∙ next_pair side_cmp (root_sides nodes a) (root_sides others b) i _ _ (found_side c i e)
          (other_side d i f)

      pub end_decides : (o : Ordering) → is_ne o ≡ true →
          o ≡ end_cmp (slice_get (ends_of (root_of nodes a)) i) (slice_get (ends_of (root_of others b)) i) →
          o ≡ diagram_cmp (diagram_of nodes a) (diagram_of others b)
      end_decides o differs is =
          let child = diagram_cmp (diagram_of nodes c) (diagram_of others d) in
          let rest = slice_cmp side_cmp (drop (i + 1) (root_sides nodes a)) (drop (i + 1) (root_sides others b)) in
          let sign = bool_cmp (is_never a) (is_never b) in
          first_decides o child rest sign differs
          ∙ ap (λ x. ordering_then (ordering_then (ordering_then x child) rest) sign) is
          ∙ ap (λ s. ordering_then s sign) (sym step) ∙ sym by_roots

      module _ (o : Ordering) (level : is_ne o ≡ false)
          (is : o ≡ end_cmp (slice_get (ends_of (root_of nodes a)) i) (slice_get (ends_of (root_of others b)) i))
          (p : Ordering) (below : p ≡ diagram_cmp (diagram_of nodes c) (diagram_of others d)) where
        pub child_decides : is_ne p ≡ true → p ≡ diagram_cmp (diagram_of nodes a) (diagram_of others b)
        child_decides differs =
            let rest = slice_cmp side_cmp (drop (i + 1) (root_sides nodes a)) (drop (i + 1) (root_sides others b)) in
            let sign = bool_cmp (is_never a) (is_never b) in
            second_decides o p rest sign level differs
            ∙ ap₂ (λ x y. ordering_then (ordering_then (ordering_then x y) rest) sign) is below
            ∙ ap (λ s. ordering_then s sign) (sym step) ∙ sym by_roots

        pub next_tie : is_ne p ≡ false → TieUpTo (i + 1)
        next_tie level_too =
            let rest = slice_cmp side_cmp (drop (i + 1) (root_sides nodes a)) (drop (i + 1) (root_sides others b)) in
            step ∙ ap₂ (λ x y. ordering_then (ordering_then x y) rest) (sym is) (sym below)
            ∙ both_level o p rest level level_too

    pub other_out : i < length (children_of (root_of nodes a)) → length (children_of (root_of others b)) ≤ i →
        Greater ≡ diagram_cmp (diagram_of nodes a) (diagram_of others b)
    other_out more past =
        sym (by_roots
        ∙ ap (λ o. ordering_then o (bool_cmp (is_never a) (is_never b)))
        (tie ∙ other_ended side_cmp (root_sides nodes a) (root_sides others b) i
        (omega (arith, more, length_sides (diagram_of nodes) (ends_of (root_of nodes a)) (children_of (root_of nodes a))))
        (omega (arith, past, length_sides (diagram_of others) (ends_of (root_of others b)) (children_of (root_of others b))))))

    module _ (past : length (children_of (root_of nodes a)) ≤ i) where
      pub first_out : i < length (children_of (root_of others b)) →
          Less ≡ diagram_cmp (diagram_of nodes a) (diagram_of others b)
      first_out more =
          sym (by_roots
          ∙ ap (λ o. ordering_then o (bool_cmp (is_never a) (is_never b)))
          (tie ∙ one_ended side_cmp (root_sides nodes a) (root_sides others b) i
          (omega (arith, past, length_sides (diagram_of nodes) (ends_of (root_of nodes a)) (children_of (root_of nodes a))))
          (omega (arith, more, length_sides (diagram_of others) (ends_of (root_of others b)) (children_of (root_of others b))))))

      pub both_out : length (children_of (root_of others b)) ≤ i → (x y : Bool) →
          IsTrue x ↔ (a ≡ never) → IsTrue y ↔ (b ≡ never) →
          bool_cmp x y ≡ diagram_cmp (diagram_of nodes a) (diagram_of others b)
      both_out other_past x y exactly other_exactly =
          ap₂ bool_cmp (named_never a x exactly) (named_never b y other_exactly)
          ∙ sym (by_roots
          ∙ ap (λ o. ordering_then o (bool_cmp (is_never a) (is_never b)))
          (tie ∙ both_ended side_cmp (root_sides nodes a) (root_sides others b) i
          (omega (arith, past, length_sides (diagram_of nodes) (ends_of (root_of nodes a)) (children_of (root_of nodes a))))
          (omega (arith, other_past, length_sides (diagram_of others) (ends_of (root_of others b)) (children_of (root_of others b))))))
