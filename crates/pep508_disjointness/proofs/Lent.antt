-- What is known of a tree by the node that stands in it, and the pairs of what stands in two trees.
use Rattle.std.proofs.Common.{◌≡◌, ℕ, ◌<◌, Bool, true, false, List, [], ◌∷◌, map, refl, ap, sym, subst, ◌∙◌}
use Rattle.std.proofs.Common.{arith, Less, Equal, Greater}
use Rattle.std.specs.Ordering.{ordering_reverse}
use Rattle.std.specs.Cmp.Lexicographic.{nat_list_cmp_total}
use Rattle.version_ranges.specs.Boundaries.{boundary_cmp}
use Rattle.version_ranges.specs.Turns.{Rising}
use Rattle.pep440_version.specs.Order.{version_cmp}
use Rattle.pep508_diagram.specs.declared.branch.Branch.{Branch}
use Rattle.pep508_diagram.specs.Branches.{AllBranches, RisingBranches}
use Rattle.pep508_diagram.specs.Text.{text_cmp}
use Rattle.pep508_diagram.proofs.Places.{texts_same}
use Rattle.pep508_tree.specs.Tree.{Tree, negation}
use Rattle.pep508_tree.specs.Meaning.{NodeRecord, Versions, Texts, Flagged, holds, IsTree}
use Rattle.pep508_tree.specs.Nodes.{AllChildren, IsChildIn, IsRising, Above, AreSound, counterpart}
use Rattle.pep508_tree.specs.Nodes.{first_place, node_place, signed, turned_branch}
use Rattle.pep508_tree.specs.Roots.{IsRoot}
use Rattle.pep508_tree.proofs.Meanings.{each_child, chosen_child}
use Rattle.pep508_tree.proofs.Splitting.{above_later, alone_in}
use Rattle.pep508_tree.proofs.Storing.{signed_place, signed_chosen, same_boundaries}
use Rattle.pep508_disjointness.specs.declared.child_pairs.Side.{Side}
use Rattle.pep508_disjointness.specs.Sides.{with_side, ShowsNode, AreSidePairs}
use Rattle.pep508_disjointness.specs.Pairs.{ArePaired}
use Rattle.pep508_disjointness.proofs.Apart.{IsSide, are_paired}
use Rattle.pep508_disjointness.proofs.Sided.{tree_beside, node_beside, versions_rise, texts_rise}

-- ---- nodes without their signs

module _ (P : Tree → Type 0) (back : (t : Tree) → P (negation t) → P t) where
  unturned : {T : Type 0} (first : Tree) (later : List (Branch T Tree)) →
      AllBranches P (negation first) (map turned_branch later) → AllBranches P first later
  unturned first [] all = back first all
  unturned first (branch ∷ later) all = (back first all.0, unturned branch.child later all.1)

  unsigned : (turns : Bool) (n : NodeRecord) → AllChildren P (signed turns n) → AllChildren P n
  unsigned true (Versions key first later) all = unturned first later all
  unsigned true (Texts key first later) all = unturned first later all
  unsigned true (Flagged flag set unset) all = (back set all.0, back unset all.1)
  unsigned false n all = all

unsigned_rises : (turns : Bool) (n : NodeRecord) → IsRising (signed turns n) → IsRising n
unsigned_rises true (Versions key first later) rises =
    subst (Rising (boundary_cmp version_cmp)) (same_boundaries later) rises
unsigned_rises true (Texts key first later) rises =
    subst (Rising (boundary_cmp text_cmp)) (same_boundaries later) rises
unsigned_rises true (Flagged flag set unset) rises = rises
unsigned_rises false n rises = rises

above_plain : (nodes : List NodeRecord) (place : List ℕ) (t : Tree) → Above nodes place (negation t) →
    Above nodes place t
unfolding Above
above_plain nodes place t above = above

-- ---- a tree by its node

module _ (nodes : List NodeRecord) (t : Tree) (turns : Bool) (n : NodeRecord)
    (root : IsRoot nodes t (signed turns n)) where
  pub own_place : node_place n ≡ first_place nodes t
  own_place = sym (signed_place turns n) ∙ root.place_is

  pub own_rises : IsRising n
  own_rises = unsigned_rises turns n root.rises

  own_falls : (c : Tree) → IsChildIn c n → c.place < t.place
  own_falls c child =
      each_child (λ c. c.place < t.place) n c
      (unsigned (λ c. c.place < t.place) (λ c h. h) turns n root.falls) child

  own_side : (place : List ℕ) → node_place n ≡ place → IsSide nodes place t turns n
  own_side place e =
      let above : AllChildren (Above nodes place) (signed turns n) =
      subst (λ p. AllChildren (Above nodes p) (signed turns n)) (signed_place turns n ∙ e) root.above in
      record {
        made = λ c child.
            each_child (IsTree nodes) n c (unsigned (IsTree nodes) (λ c h. h) turns n root.made) child;
        no_later = λ c child. omega (arith, own_falls c child);
        above = λ c child.
            each_child (Above nodes place) n c
            (unsigned (Above nodes place) (above_plain nodes place) turns n above) child;
        holds_is = λ v. root.holds_is v ∙ ap (λ c. holds nodes c v) (signed_chosen turns n v);
      }

-- a tree that asks only for later variables than a node
whole_side : (nodes : List NodeRecord) → AreSound nodes → (n : NodeRecord) (t : Tree) → IsTree nodes t →
    Above nodes (node_place n) t → IsSide nodes (node_place n) t false (counterpart n t [] [] t)
whole_side nodes sound n t made above = record {
  made = λ c is. subst (IsTree nodes) (sym (alone_in nodes sound n t c is)) made;
  no_later = λ c is. omega (arith, ap (λ (x : Tree). x.place) (alone_in nodes sound n t c is));
  above = λ c is. subst (Above nodes (node_place n)) (sym (alone_in nodes sound n t c is)) above;
  holds_is = λ v.
      ap (λ x. holds nodes x v)
      (sym (alone_in nodes sound n t _ (chosen_child (counterpart n t [] [] t) v)));
}

-- ---- two trees

pub turned_less : (p q : List ℕ) → text_cmp p q ≡ Greater → text_cmp q p ≡ Less
turned_less p q e = nat_list_cmp_total.antisymm q p ∙ ap ordering_reverse e

pub shown_versions : (nodes : List NodeRecord) (t : Tree) (side : Side) → ShowsNode nodes t side →
    RisingBranches version_cmp side.versions.now
shown_versions nodes t side shows =
    subst (RisingBranches version_cmp) (sym shows.versions_are)
    (versions_rise shows.node (own_rises nodes t side.negated shows.node shows.root))

pub shown_texts : (nodes : List NodeRecord) (t : Tree) (side : Side) → ShowsNode nodes t side →
    RisingBranches text_cmp side.texts.now
shown_texts nodes t side shows =
    subst (RisingBranches text_cmp) (sym shows.texts_are)
    (texts_rise shows.node (own_rises nodes t side.negated shows.node shows.root))

module _ (nodes : List NodeRecord) (sound : AreSound nodes) (a b : Tree) (made : IsTree nodes b)
    (some : 0 < b.place) (side : Side) (pairs : List (Tree × Tree)) (are : AreSidePairs nodes a side pairs) where
  -- the first asks for an earlier variable
  pub before_paired : text_cmp (first_place nodes a) (first_place nodes b) ≡ Less → side.first ≡ b →
      side.versions.now ≡ [] → side.texts.now ≡ [] → side.second ≡ b → side.negated ≡ false →
      ArePaired nodes a b pairs
  before_paired less first versions texts second negated =
      let n = are.node in
      let place = own_place nodes a are.negated n are.root in
      let above = above_later nodes sound (node_place n) b some
      (ap (λ p. text_cmp p (first_place nodes b)) place ∙ less) in
      are_paired nodes sound a b are.negated side.negated n (with_side n side)
      (own_side nodes a are.negated n are.root (node_place n) refl)
      (own_falls nodes a are.negated n are.root)
      (subst (λ s. IsSide nodes (node_place n) b s (with_side n side)) (sym negated)
      (subst (IsSide nodes (node_place n) b false) (sym (tree_beside n b side first versions texts second))
      (whole_side nodes sound n b made above)))
      are.plain are.paired pairs are.pairs_are

  -- both ask for one variable
  pub same_paired : text_cmp (first_place nodes a) (first_place nodes b) ≡ Equal → ShowsNode nodes b side →
      ArePaired nodes a b pairs
  same_paired same shows =
      let n = are.node in
      let m = shows.node in
      let place = own_place nodes a are.negated n are.root in
      let other = own_place nodes b side.negated m shows.root in
      let equal : text_cmp (node_place n) (node_place m) ≡ Equal =
      (λ i. text_cmp (place i) (other i)) ∙ same in
      let beside =
      node_beside n m side shows.first_is shows.versions_are shows.texts_are shows.second_is equal in
      are_paired nodes sound a b are.negated side.negated n (with_side n side)
      (own_side nodes a are.negated n are.root (node_place n) refl)
      (own_falls nodes a are.negated n are.root)
      (subst (IsSide nodes (node_place n) b side.negated) (sym beside)
      (own_side nodes b side.negated m shows.root (node_place n)
      (sym (texts_same (node_place n) (node_place m) equal))))
      are.plain are.paired pairs are.pairs_are
