-- What is asked first in a marker tree, with what stands for each of its children.
use Rattle.std.proofs.Common.{◌≡◌, ℕ, ◌-◌, ◌<◌, ◌==◌, Bool, true, false, not, cond, List, [], ◌∷◌, map}
use Rattle.std.proofs.Common.{inl, inr, refl, ap, sym, subst, ◌∙◌, arith, Ordering, Less, if◌then◌else◌}
use Rattle.std.proofs.lemmas.Bool.{cases_Bool}
use Rattle.version_ranges.specs.Boundaries.{point_of, boundary_cmp}
use Rattle.version_ranges.specs.Point.{Point, point_cmp}
use Rattle.version_ranges.specs.Turns.{reaches, Rising}
use Rattle.pep440_version.specs.Order.{version_cmp}
use Rattle.pep508_diagram.specs.declared.branch.Branch.{Branch}
use Rattle.pep508_diagram.specs.Text.{text_cmp}
use Rattle.pep508_diagram.specs.Branches.{branch_at, AllBranches}
use Rattle.pep508_diagram.specs.Question.{Valuation}
use Rattle.pep508_marker.specs.declared.keys.MarkerValueString.{MarkerValueString}
use Rattle.pep508_diagram.specs.declared.variable.VersionVariable.{VersionVariable}
use Rattle.pep440_text.specs.Record.{VersionRecord}
use Rattle.pep508_tree.specs.Tree.{Tree}
use Rattle.pep508_tree.specs.Meaning.{NodeOf, NodeRecord, Versions, Texts, Flagged, holds, IsTree}
use Rattle.pep508_tree.specs.Nodes.{AllChildren, IsRising, Above, chosen, node_at, node_place, first_place, turned}
use Rattle.pep508_tree.specs.Nodes.{turned_branch, signed}
use Rattle.pep508_tree.specs.Roots.{IsRoot}
use Rattle.pep508_tree.proofs.NodeChildren.{weaker_children, first_of_children}
use Rattle.pep508_tree.proofs.Roots.{constant_is}
use Rattle.pep508_leaf_diagram.specs.declared.child.Child.{Child}
use Rattle.pep508_leaf_diagram.specs.declared.child.Child.TheVariants.{Leaf, Whole}
use Rattle.pep508_leaf_diagram.specs.Leaves.{child_of, child_branch, with_children, leaf_at, IsMade}
use Rattle.pep508_leaf_diagram.specs.Leaves.{IsAbove, IsOpened}

-- ---- the node with what stands for its trees

module _ {T : Type 0} where
  children_boundaries : (later : List (Branch T Tree)) →
      map (λ (b : Branch T Child). b.boundary) (map child_branch later) ≡ map (λ (b : Branch T Tree). b.boundary) later
  children_boundaries [] = refl
  children_boundaries (b ∷ later) = ap (λ bs. b.boundary ∷ bs) (children_boundaries later)

  children_at : (cmp : T → T → Ordering) (first : Tree) (later : List (Branch T Tree)) (p : Point T) →
      branch_at cmp (child_of first) (map child_branch later) p ≡ child_of (branch_at cmp first later p)
  children_at cmp first [] p = refl
  children_at cmp first (b ∷ later) p = elim (cases_Bool (reaches (point_cmp cmp) (point_of b.boundary) p)) [
    | inl up ↦ rw up (children_at cmp b.child later p)
    | inr over ↦ rw over refl
  ]

  children_all : (P : Child → Type 0) (first : Tree) (later : List (Branch T Tree)) →
      AllBranches (λ t. P (child_of t)) first later → AllBranches P (child_of first) (map child_branch later)
  children_all P first [] all = all
  children_all P first (b ∷ later) all = (all.0, children_all P b.child later all.1)

  turned_map : (later : List (Branch T Tree)) → map child_branch (map turned_branch later)
      ≡ map (λ (b : Branch T Tree). record { boundary = b.boundary; child = child_of (turned true b.child) }) later
  turned_map [] = refl
  turned_map (b ∷ later) =
      ap (λ bs. record { boundary = b.boundary; child = child_of (turned true b.child) } ∷ bs) (turned_map later)

with_rises : (n : NodeRecord) → IsRising n → IsRising (with_children n)
with_rises (Versions key first later) rises =
    subst (Rising (boundary_cmp version_cmp)) (sym (children_boundaries later)) rises
with_rises (Texts key first later) rises = subst (Rising (boundary_cmp text_cmp)) (sym (children_boundaries later)) rises
with_rises (Flagged flag set unset) rises = tt

along : (b : Bool) (set unset : Tree) → cond b (child_of set) (child_of unset) ≡ child_of (cond b set unset)
along true set unset = refl
along false set unset = refl

with_chosen : (n : NodeRecord) (v : Valuation) → chosen (with_children n) v ≡ child_of (chosen n v)
with_chosen (Versions key first later) v = children_at version_cmp first later (v.version key)
with_chosen (Texts key first later) v = children_at text_cmp first later (v.text key)
with_chosen (Flagged flag set unset) v = along (v.flag flag) set unset

with_all : (P : Child → Type 0) (n : NodeRecord) → AllChildren (λ t. P (child_of t)) n → AllChildren P (with_children n)
with_all P (Versions key first later) all = children_all P first later all
with_all P (Texts key first later) all = children_all P first later all
with_all P (Flagged flag set unset) all = all

with_place : (n : NodeRecord) → node_place (with_children n) ≡ node_place n
with_place (Versions key first later) = refl
with_place (Texts key first later) = refl
with_place (Flagged flag set unset) = refl

-- ---- what stands for a tree

made_by : (inner : List NodeRecord) (leaves count : ℕ) (t : Tree) (b c : Bool) → 1 < leaves → IsTree inner t →
    IsMade inner leaves count (if b then cond c (Leaf 0) (Leaf 1) else Whole t)
made_by inner leaves count t true true h made = omega (arith, h)
made_by inner leaves count t true false h made = h
made_by inner leaves count t false c h made = (made, h)

above_by : (inner : List NodeRecord) (nodes : List (NodeOf Child)) (place : List ℕ) (t : Tree) (b c : Bool) →
    Above inner place t → IsAbove inner nodes place (if b then cond c (Leaf 0) (Leaf 1) else Whole t)
above_by inner nodes place t true true above = tt
above_by inner nodes place t true false above = tt
above_by inner nodes place t false c above = above

pub child_leaf : (inner : List NodeRecord) (nodes : List (NodeOf Child)) (t : Tree) (v : Valuation) →
    leaf_at inner nodes (child_of t) v ≡ cond (holds inner t v) 1 0
child_leaf inner nodes t v = elim (cases_Bool (t.place == 0)) [
  | inl zero_is ↦
      let sign : holds inner t v ≡ not t.negated = (constant_is inner t (nat_is t.place zero_is)).holds_is v in
      rw zero_is (by_sign t.negated (holds inner t v) sign)
  | inr other ↦ rw other refl
]
  where
    nat_is : (n : ℕ) → (n == 0) ≡ true → n ≡ 0
    nat_is n e = grind (arith, e)

    by_sign : (s h : Bool) → h ≡ not s → leaf_at inner nodes (cond s (Leaf 0) (Leaf 1)) v ≡ cond h 1 0
    by_sign true h e = rw e refl
    by_sign false h e = rw e refl

pub child_made : (inner : List NodeRecord) (leaves count : ℕ) (t : Tree) → 1 < leaves → IsTree inner t →
    IsMade inner leaves count (child_of t)
child_made inner leaves count t h made = made_by inner leaves count t (t.place == 0) t.negated h made

pub above_constant : (inner : List NodeRecord) (place : List ℕ) (t : Tree) → t.place ≡ 0 → Above inner place t
unfolding Above
above_constant inner place t e k f = absurd (omega (arith, e, f))

above_at : (inner : List NodeRecord) (place : List ℕ) (t : Tree) → 0 < t.place → Above inner place t →
    text_cmp place (first_place inner t) ≡ Less
unfolding Above
above_at inner place t some above = above (t.place - 1) (omega (arith, some))

at_above : (inner : List NodeRecord) (place : List ℕ) (t : Tree) → text_cmp place (first_place inner t) ≡ Less →
    Above inner place t
unfolding Above
at_above inner place t less k e =
    let same : t.place - 1 ≡ k = omega (arith, e) in
    subst (λ j. text_cmp place (node_place (node_at inner j)) ≡ Less) same less

pub root_opened : (inner : List NodeRecord) (leaves : ℕ) (nodes : List (NodeOf Child)) (t : Tree) (n : NodeRecord)
    (m : NodeOf Child) → IsRoot inner t n → 1 < leaves → with_children n ≡ m → IsOpened inner leaves nodes (Whole t) m
root_opened inner leaves nodes t n m r h e =
    let some : 0 < t.place = omega (arith, first_of_children (λ (c : Tree). c.place < t.place) n r.falls) in
    subst (IsOpened inner leaves nodes (Whole t)) e (record {
      rises = with_rises n r.rises;
      made = with_all (IsMade inner leaves _) n
          (weaker_children (IsTree inner) (λ c. IsMade inner leaves _ (child_of c))
          (λ c made. child_made inner leaves _ c h made) n r.made);
      above = subst (λ place. AllChildren (IsAbove inner nodes place) (with_children n)) (sym (with_place n))
          (with_all (IsAbove inner nodes (node_place n)) n
          (weaker_children (Above inner (node_place n)) (λ c. IsAbove inner nodes (node_place n) (child_of c))
          (λ c above. above_by inner nodes (node_place n) c (c.place == 0) c.negated above) n r.above));
      first = λ place above.
          ap (text_cmp place) (with_place n ∙ r.place_is) ∙ above_at inner place t some above;
      behind = λ place less.
          at_above inner place t (sym (ap (text_cmp place) (with_place n ∙ r.place_is)) ∙ less);
      reaches = λ v.
          ap (λ b. cond b 1 0) (r.holds_is v) ∙ sym (child_leaf inner nodes (chosen n v) v)
          ∙ ap (λ c. leaf_at inner nodes c v) (sym (with_chosen n v));
    })

-- ---- signs

pub versions_signed : (negated : Bool) (key : VersionVariable) (first : Tree) (later : List (Branch VersionRecord Tree)) →
    with_children (signed negated (Versions key first later))
    ≡ Versions key (child_of (turned negated first))
    (map (λ b. record { boundary = b.boundary; child = child_of (turned negated b.child) }) later)
versions_signed true key first later = ap (Versions key (child_of (turned true first))) (turned_map later)
versions_signed false key first later = refl

pub texts_signed : (negated : Bool) (key : MarkerValueString) (first : Tree) (later : List (Branch (List ℕ) Tree)) →
    with_children (signed negated (Texts key first later))
    ≡ Texts key (child_of (turned negated first))
    (map (λ b. record { boundary = b.boundary; child = child_of (turned negated b.child) }) later)
texts_signed true key first later = ap (Texts key (child_of (turned true first))) (turned_map later)
texts_signed false key first later = refl
