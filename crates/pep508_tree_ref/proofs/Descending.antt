-- A walk over two trees, each pair of which hangs at the pair above it.
use Rattle.std.proofs.Common.{◌≡◌, ℕ, zero, suc, ◌+◌, ◌-◌, ◌<◌, ◌≤◌, arith, add-one, true, false, List, []}
use Rattle.std.proofs.Common.{◌∷◌, ◌++◌, length, length-append, drop, reverse, Some, refl, sym, ap, ap₂}
use Rattle.std.proofs.Common.{subst, ◌∙◌, Ordering, Less, Equal, Greater, true≢false}
use Rattle.std.proofs.lemmas.List.{reverse-append, length-reverse}
use Rattle.std.proofs.lemmas.List.Sums.{sum_by-cons}
use Rattle.std.specs.List.{AllByRecursion, slice_get, sum_by}
use Rattle.std.specs.Ordering.{is_ne}
use Rattle.pep508_evaluation.specs.Steps.{children_of}
use Rattle.pep508_tree.specs.Meaning.{NodeRecord, diagram_of, IsTree}
use Rattle.pep508_tree.specs.Nodes.{AreSound}
use Rattle.pep508_tree.specs.Roots.{root_of}
use Rattle.pep508_tree.specs.Tree.{Tree}
use Rattle.pep508_tree_ref.specs.declared.order_walk.Beside.{Beside}
use Rattle.pep508_tree_ref.specs.Besides.{TieBefore, LeadTo}
use Rattle.pep508_tree_ref.specs.Ties.{Name, AreTied}
use Rattle.pep508_tree_ref.specs.TreeOrder.{diagram_cmp}
use Rattle.pep508_tree_ref.proofs.Walking.{child_decides, next_tie}

not_ne : (order : Ordering) → is_ne order ≡ false → order ≡ Equal
not_ne Less e = absurd (true≢false e)
not_ne Equal e = refl
not_ne Greater e = absurd (true≢false e)

-- ---- the work that is left: how many edges there are on the paths below

module _ (nodes : List NodeRecord) where
  abbrev edges : Tree → List Tree
  edges tree = children_of (root_of nodes tree)

  -- on paths of at most so many edges
  full : ℕ → Tree → ℕ
  full zero tree = 1
  full (suc n) tree = suc (sum_by (λ child. suc (full n child)) (edges tree))

  -- from an edge on
  pub left : ℕ → Tree → ℕ → ℕ
  left zero tree edge = 1
  left (suc n) tree edge = suc (sum_by (λ child. suc (full n child)) (drop edge (edges tree)))

  left_all : (n : ℕ) (tree : Tree) → left n tree 0 ≡ full n tree
  unfolding left full
  left_all zero tree = refl
  left_all (suc n) tree = refl

  some_left : (n : ℕ) (tree : Tree) (edge : ℕ) → 0 < left n tree edge
  unfolding left
  some_left zero tree edge = omega arith
  some_left (suc n) tree edge = omega arith

  dropped : (f : Tree → ℕ) (trees : List Tree) (i : ℕ) (child : Tree) → Some child ≡ slice_get trees i →
      sum_by f (drop i trees) ≡ f child + sum_by f (drop (i + 1) trees)
  dropped f trees i child is = rw add-one (from trees i is)
    where
      same : (x y : Tree) → Some x ≡ Some y → x ≡ y
      same x y e = cc

      from : (trees : List Tree) (i : ℕ) → Some child ≡ slice_get trees i →
          sum_by f (drop i trees) ≡ f child + sum_by f (drop (suc i) trees)
      from [] i is = absurd (cc)
      from (tree ∷ trees) zero is =
          sum_by-cons f tree trees ∙ ap (λ t. f t + sum_by f trees) (sym (same child tree is))
      from (tree ∷ trees) (suc i) is = from trees i is

  left_down : (n : ℕ) (tree child : Tree) (edge : ℕ) → Some child ≡ slice_get (edges tree) edge →
      left (suc n) tree edge ≡ suc (left n child 0 + left (suc n) tree (edge + 1))
  unfolding left
  left_down n tree child edge is =
      omega (arith, dropped (λ c. suc (full n c)) (edges tree) edge child is, left_all n child)

  -- of the pairs above, the last of which comes first
  pub remaining : ℕ → List Beside → ℕ
  remaining most [] = 0
  remaining most (pair ∷ above) = left (most - length above) pair.tree pair.edge + remaining most above

  pub less_down : (most n : ℕ) (above : List Beside) (tree other child : Tree) (edge : ℕ) →
      Some child ≡ slice_get (edges tree) edge → most - length above ≡ suc n →
      left n child 0 + remaining most (record { tree = tree; other = other; edge = edge + 1 } ∷ above)
      < left (most - length above) tree edge + remaining most above
  unfolding remaining
  less_down most n above tree other child edge is fuel =
      let here : left (most - length above) tree edge
      ≡ suc (left n child 0 + left (most - length above) tree (edge + 1)) =
      ap (λ m. left m tree edge) fuel ∙ left_down n tree child edge is
      ∙ ap (λ m. suc (left n child 0 + left m tree (edge + 1))) (sym fuel) in
      omega (arith, here)

-- ---- pairs that hang at one another

module _ (nodes others : List NodeRecord) (whole other_whole : Tree) where
  abbrev order_of : Tree → Tree → Ordering
  order_of tree other = diagram_cmp (diagram_of nodes tree) (diagram_of others other)

  -- a pair, whose edges before its place but for the last are equal, and that one leads to these children
  pub record Hangs (above : Beside) (child other_child : Tree) : Type 0 where
    pub edge : ℕ
    pub next : above.edge ≡ edge + 1
    pub made : IsTree nodes above.tree
    pub other_made : IsTree others above.other
    pub tie : TieBefore nodes others above.tree above.other edge
    pub leads : LeadTo nodes others above.tree above.other edge child other_child

  -- each pair hangs at the next one, and the last is that of the two whole trees
  abbrev pub Chained : List Beside → Tree → Tree → Type 0
  Chained [] tree other = (tree ≡ whole) × (other ≡ other_whole)
  Chained (pair ∷ above) tree other =
      Hangs pair tree other × (length above + pair.tree.place ≤ whole.place)
      × Chained above pair.tree pair.other

  decided : AreSound nodes → AreSound others → (above : List Beside) (tree other : Tree) (order : Ordering) →
      Chained above tree other → is_ne order ≡ true → order ≡ order_of tree other →
      order ≡ order_of whole other_whole
  decided sound other_sound [] tree other order chained differs is = is ∙ ap₂ order_of chained.0 chained.1
  decided sound other_sound (pair ∷ above) tree other order chained differs is =
      let h = chained.0 in
      decided sound other_sound above pair.tree pair.other order chained.2 differs
      (child_decides nodes sound pair.tree h.made others other_sound pair.other h.other_made h.edge h.tie tree
      other h.leads.child_is h.leads.other_is Equal refl (sym h.leads.level) order is differs)

  tied : AreSound nodes → AreSound others → (pair : Beside) (tree other : Tree) (order : Ordering) →
      Hangs pair tree other → is_ne order ≡ false → order ≡ order_of tree other →
      TieBefore nodes others pair.tree pair.other pair.edge
  tied sound other_sound pair tree other order h level is =
      subst (TieBefore nodes others pair.tree pair.other) (sym h.next)
      (next_tie nodes sound pair.tree h.made others other_sound pair.other h.other_made h.edge h.tie tree
      other h.leads.child_is h.leads.other_is Equal refl (sym h.leads.level) order is level)

  -- ---- where the walk stands

  pub record IsDescent (known : List (Name × Name)) (above : List Beside) (at : Beside) : Type 0 where
    pub ties : AllByRecursion (AreTied nodes others) known
    pub made : IsTree nodes at.tree
    pub other_made : IsTree others at.other
    pub tie : TieBefore nodes others at.tree at.other at.edge
    pub chained : Chained (reverse above) at.tree at.other
    pub deep : length above + at.tree.place ≤ whole.place

  -- how many edges are left
  abbrev pub work : List Beside → Beside → ℕ
  work above at =
      left nodes (whole.place - length above) at.tree at.edge + remaining nodes whole.place (reverse above)

  pub begins : IsTree nodes whole → IsTree others other_whole →
      IsDescent [] [] (record { tree = whole; other = other_whole; edge = 0 })
  begins made other_made = record {
    ties = tt;
    made = made;
    other_made = other_made;
    tie = refl;
    chained = (refl, refl);
    deep = omega arith;
  }

  last_first : (above new : List Beside) (pair : Beside) → new ≡ above ++ pair ∷ [] →
      reverse new ≡ pair ∷ reverse above
  last_first above new pair put = ap reverse put ∙ reverse-append above (pair ∷ [])

  one_longer : (above new : List Beside) (pair : Beside) → new ≡ above ++ pair ∷ [] →
      length new ≡ length above + 1
  one_longer above new pair put = omega (arith, ap length put, length-append above (pair ∷ []))

  module _ (known : List (Name × Name)) (above : List Beside) (at : Beside)
      (h : IsDescent known above at) where
    module _ (child other_child : Tree)
        (leads : LeadTo nodes others at.tree at.other at.edge child other_child)
        (new : List Beside)
        (put : new ≡ above ++ record { tree = at.tree; other = at.other; edge = at.edge + 1 } ∷ []) where
      abbrev here : Beside
      here = record { tree = at.tree; other = at.other; edge = at.edge + 1 }

      pub goes_down : IsDescent known new (record { tree = child; other = other_child; edge = 0 })
      goes_down = record {
        ties = h.ties;
        made = leads.made;
        other_made = leads.other_made;
        tie = refl;
        chained = subst (λ pairs. Chained pairs child other_child) (sym (last_first above new here put)) (
          record {
            edge = at.edge;
            next = refl;
            made = h.made;
            other_made = h.other_made;
            tie = h.tie;
            leads = leads;
          },
          omega (arith, h.deep, length-reverse above),
          h.chained,
        );
        deep = omega (arith, h.deep, leads.falls, one_longer above new here put);
      }

      pub less_work_down : work new (record { tree = child; other = other_child; edge = 0 }) < work above at
      less_work_down =
          let n : ℕ = whole.place - length new in
          let long : length (reverse above) ≡ length above = length-reverse above in
          let fuel : whole.place - length (reverse above) ≡ suc n =
          omega (arith, h.deep, leads.falls, one_longer above new here put, long) in
          let less =
          less_down nodes whole.place n (reverse above) at.tree at.other child at.edge leads.child_is fuel in
          omega (
            arith,
            less,
            ap (λ m. left nodes (whole.place - m) at.tree at.edge) long,
            ap (remaining nodes whole.place) (last_first above new here put),
          )

    module _ (sound : AreSound nodes) (other_sound : AreSound others) (order : Ordering)
        (is : order ≡ order_of at.tree at.other) where
      pub differs_here : is_ne order ≡ true → order ≡ order_of whole other_whole
      differs_here differs =
          decided sound other_sound (reverse above) at.tree at.other order h.chained differs is

      pub equal_at_top : is_ne order ≡ false → above ≡ [] → order ≡ order_of whole other_whole
      equal_at_top level none =
          let top : Chained [] at.tree at.other =
          subst (λ pairs. Chained (reverse pairs) at.tree at.other) none h.chained in
          is ∙ ap₂ order_of top.0 top.1

      module _ (level : is_ne order ≡ false) (rest : List Beside) (back : Beside)
          (taken : above ≡ rest ++ back ∷ []) where
        hung : Hangs back at.tree at.other × (length (reverse rest) + back.tree.place ≤ whole.place)
            × Chained (reverse rest) back.tree back.other
        hung =
            subst (λ pairs. Chained pairs at.tree at.other) (last_first rest above back taken) h.chained

        pub goes_back : (more : List (Name × Name)) → AllByRecursion (AreTied nodes others) more →
            IsDescent more rest back
        goes_back more ties = record {
          ties = ties;
          made = hung.0.made;
          other_made = hung.0.other_made;
          tie = tied sound other_sound back at.tree at.other order hung.0 level is;
          chained = hung.2;
          deep = omega (arith, hung.1, length-reverse rest);
        }

        pub less_work_back : work rest back < work above at
        unfolding remaining
        less_work_back =
            omega (
              arith,
              some_left nodes (whole.place - length above) at.tree at.edge,
              ap (remaining nodes whole.place) (last_first rest above back taken),
              ap (λ m. left nodes (whole.place - m) back.tree back.edge) (length-reverse rest),
            )
