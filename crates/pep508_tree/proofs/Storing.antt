-- Nodes that are stored: sound interners with one more node, and the tree of a stored node.
use Rattle.std.proofs.Common.{◌≡◌, ◌⊎◌, inl, inr, ℕ, ◌+◌, ◌≤◌, ◌<◌, Bool, true, false, not, cond, List, []}
use Rattle.std.proofs.Common.{◌∷◌, ◌++◌, map, length, refl, ap, ap₂, sym, subst, ◌∙◌, true≢false, arith}
use Rattle.std.proofs.Common.{length-append, Ordering, Less, Equal, is_gt, nat_cmp}
use Rattle.std.specs.Ordering.{bool_cmp, ordering_then}
use Rattle.std.specs.Cmp.{IsTotalOrder}
use Rattle.std.specs.Cmp.Lexicographic.{slice_cmp, nat_list_cmp_total}
use Rattle.std.proofs.lemmas.Cmp.{tied_back}
use Rattle.std.proofs.lemmas.List.{get_or_append_left}
use Rattle.std.proofs.lemmas.Bool.{cases_lt}
use Rattle.std.proofs.Math.Seq.{get_or-append_seam}
use Rattle.version_ranges.specs.OrderLaws.{points_total}
use Rattle.version_ranges.specs.Boundaries.{point_of, boundary_cmp}
use Rattle.version_ranges.specs.Point.{Point, point_cmp}
use Rattle.version_ranges.specs.Turns.{flips, reaches, Rising}
use Rattle.pep440_version.specs.OrderLaws.{version_cmp_total}
use Rattle.pep440_version.specs.Order.{version_cmp}
use Rattle.pep508_diagram.specs.declared.branch.Branch.{Branch}
use Rattle.pep508_diagram.specs.Text.{text_cmp}
use Rattle.pep508_diagram.specs.Branches.{branch_at, AllBranches, NeighboursDiffer}
use Rattle.pep508_diagram.specs.Question.{Valuation, version_rank, text_rank, flag_rank, flag_text}
use Rattle.pep508_diagram.proofs.Places.{not_less, numbers_same, texts_same, versions_same, text_keys_same}
use Rattle.pep508_diagram.proofs.Places.{version_rank_below, rank_below, flag_rank_from, flag_from_place}
use Rattle.version_ranges.specs.HashingLaws.{then_equal}
use Rattle.pep508_diagram.proofs.Turned.{flips_twice, flips_back}
use Rattle.pep508_tree.specs.Tree.{Tree, negation}
use Rattle.pep508_tree.specs.Meaning.{NodeRecord, Versions, Texts, Flagged, holds, IsTree, Extends}
use Rattle.pep508_tree.specs.Nodes.{AllChildren, IsRising, IsJoined, ChildrenDiffer, HasBoundary, IsAlone}
use Rattle.pep508_tree.specs.Nodes.{Above, AreSound, IsSoundNode, Made, chosen, first_child, second_child}
use Rattle.pep508_tree.specs.Nodes.{version_branches, text_branches, no_node, node_at, node_place, node_cmp}
use Rattle.pep508_tree.specs.Nodes.{tree_cmp, branch_cmp, turned, turned_branch, signed, short_node}
use Rattle.pep508_tree.specs.NodeLaws.{nodes_total}
use Rattle.pep508_tree.proofs.NodeChildren.{weaker_children, both_children, first_of_children}
use Rattle.pep508_tree.proofs.Diagrams.{holds_kept}
use Rattle.pep508_tree.proofs.Meanings.{chosen_all, holds_at, holds_turned}
use Rattle.pep508_tree.proofs.Shortened.{short_place, short_first, short_children, short_rises, short_differ}
use Rattle.pep508_tree.proofs.Shortened.{short_wide, short_short}

-- ---- what stays when a node is added

pub above_kept : (old new : List NodeRecord) → Extends old new → (place : List ℕ) (t : Tree) → IsTree old t →
    Above old place t → Above new place t
unfolding Above
above_kept old new e place t made above k f =
    let same : node_at new k ≡ node_at old k =
    ap (λ ns. node_at ns k) e.1 ∙ get_or_append_left old e.0 no_node k (omega arith) in
    subst (λ n. text_cmp place (node_place n) ≡ Less) (sym same) (above k f)

sound_kept : (old new : List NodeRecord) → Extends old new → (place : ℕ) (n : NodeRecord) →
    place ≤ length old → IsSoundNode old place n → IsSoundNode new place n
sound_kept old new e place n inside s = record {
  before = s.before;
  above = weaker_children (λ c. (c.place ≤ place) × Above old (node_place n) c) (Above new (node_place n))
      (λ c h. above_kept old new e (node_place n) c (omega (arith, h.0)) h.1) n
      (both_children (λ c. c.place ≤ place) (Above old (node_place n)) n s.before s.above);
  rises = s.rises;
  differ = s.differ;
  wide = s.wide;
  plain = s.plain;
  short = s.short;
}

pub at_end : (ns : List NodeRecord) (n : NodeRecord) → node_at (ns ++ n ∷ []) (length ns) ≡ n
at_end ns n = get_or-append_seam ns n [] no_node

pub in_front : (ns : List NodeRecord) (n : NodeRecord) (k : ℕ) → k < length ns →
    node_at (ns ++ n ∷ []) k ≡ node_at ns k
in_front ns n k h = get_or_append_left ns (n ∷ []) no_node k h

pub in_or_last : (ns : List NodeRecord) (n : NodeRecord) (k : ℕ) → k < length (ns ++ n ∷ []) →
    (k < length ns) ⊎ (k ≡ length ns)
in_or_last ns n k h = elim (cases_lt k (length ns)) [
  | inl a ↦ inl a
  | inr a ↦ inr (omega (arith, length-append ns (n ∷ [])))
]

-- an interner with one more node, which it did not have
pub sound_pushed : (nodes : List NodeRecord) (n : NodeRecord) → AreSound nodes →
    IsSoundNode nodes (length nodes) n →
    ((k : ℕ) → k < length nodes → node_cmp (node_at nodes k) n ≡ Equal → ⊥) → AreSound (nodes ++ n ∷ [])
sound_pushed nodes n sound fits none =
    let new = nodes ++ n ∷ [] in
    let extended : Extends nodes new = (n ∷ [], refl) in
    let last : (j : ℕ) → j ≡ length nodes → node_at new j ≡ n = λ j e. ap (node_at new) e ∙ at_end nodes n in
    record {
      each = λ k h. elim (in_or_last nodes n k h) [
        | inl a ↦
            subst (IsSoundNode new k) (sym (in_front nodes n k a))
            (sound_kept nodes new extended k (node_at nodes k) (omega arith) (sound.each k a))
        | inr e ↦
            subst (IsSoundNode new k) (sym (last k e))
            (subst (λ j. IsSoundNode new j n) (sym e)
            (sound_kept nodes new extended (length nodes) n (omega arith) fits))
      ];
      once = λ i j g h e. elim (in_or_last nodes n i g) [
        | inl a ↦ elim (in_or_last nodes n j h) [
          | inl b ↦
              sound.once i j a b
              (sym (ap₂ node_cmp (in_front nodes n i a) (in_front nodes n j b)) ∙ e)
          | inr b ↦ absurd (none i a (sym (ap₂ node_cmp (in_front nodes n i a) (last j b)) ∙ e))
        ]
        | inr a ↦ elim (in_or_last nodes n j h) [
          | inl b ↦
              absurd (none j b (tied_back nodes_total n (node_at nodes j)
              (sym (ap₂ node_cmp (last i a) (in_front nodes n j b)) ∙ e)))
          | inr b ↦ a ∙ sym b
        ]
      ];
    }

-- ---- nodes that are equal in the order

bools_same : (a b : Bool) → bool_cmp a b ≡ Equal → a ≡ b
bools_same true true e = refl
bools_same true false e = absurd (true≢false (ap is_gt e))
bools_same false true e = absurd (not_less (sym e))
bools_same false false e = refl

pub trees_same : (a b : Tree) → tree_cmp a b ≡ Equal → a ≡ b
trees_same a b e =
    let parts = then_equal (nat_cmp a.place b.place) (bool_cmp a.negated b.negated) e in
    let place = numbers_same a.place b.place parts.0 in
    let negated = bools_same a.negated b.negated parts.1 in
    λ i. record { place = place i; negated = negated i }

branches_alike : {T : Type 0} {cmp : T → T → Ordering} → IsTotalOrder cmp → (first : Tree)
    (later : List (Branch T Tree)) (other_first : Tree) (other_later : List (Branch T Tree)) (p : Point T) →
    first ≡ other_first → slice_cmp (branch_cmp cmp) later other_later ≡ Equal →
    branch_at cmp first later p ≡ branch_at cmp other_first other_later p
branches_alike total first [] other [] p same e = same
branches_alike total first [] other (c ∷ m) p same e = absurd (not_less (sym e))
branches_alike total first (b ∷ l) other [] p same e = absurd (true≢false (ap is_gt e))
branches_alike {cmp = cmp} total first (b ∷ l) other (c ∷ m) p same e =
    let parts = then_equal (branch_cmp cmp b c) (slice_cmp (branch_cmp cmp) l m) e in
    let inner = then_equal (boundary_cmp cmp b.boundary c.boundary) (tree_cmp b.child c.child) parts.0 in
    let child = trees_same b.child c.child inner.1 in
    let up = ap (λ o. not (is_gt o))
    ((points_total cmp total).congr (point_of b.boundary) (point_of c.boundary) p inner.0) in
    let rest = branches_alike total b.child l c.child m p child parts.1 in
    λ i. cond (up i) (rest i) (same i)

-- what equal nodes have in common
pub record AreAlike (n m : NodeRecord) : Type 0 where
  pub place : text_cmp (node_place n) (node_place m) ≡ Equal
  pub versions : slice_cmp (branch_cmp version_cmp) (version_branches n) (version_branches m) ≡ Equal
  pub texts : slice_cmp (branch_cmp text_cmp) (text_branches n) (text_branches m) ≡ Equal
  pub first : first_child n ≡ first_child m
  pub second : second_child n ≡ second_child m

pub alike_parts : (n m : NodeRecord) → node_cmp n m ≡ Equal → AreAlike n m
unfolding node_cmp
alike_parts n m e =
    let first = tree_cmp (first_child n) (first_child m) in
    let second = tree_cmp (second_child n) (second_child m) in
    let texts = slice_cmp (branch_cmp text_cmp) (text_branches n) (text_branches m) in
    let versions = slice_cmp (branch_cmp version_cmp) (version_branches n) (version_branches m) in
    let place = text_cmp (node_place n) (node_place m) in
    let behind = ordering_then place (ordering_then versions texts) in
    let one = then_equal first (ordering_then second behind) e in
    let two = then_equal second behind one.1 in
    let three = then_equal place (ordering_then versions texts) two.1 in
    let four = then_equal versions texts three.1 in
    record {
      place = three.0;
      versions = four.0;
      texts = four.1;
      first = trees_same (first_child n) (first_child m) one.0;
      second = trees_same (second_child n) (second_child m) two.0;
    }

pub alike_place : (n m : NodeRecord) → node_cmp n m ≡ Equal → node_place n ≡ node_place m
alike_place n m e = texts_same (node_place n) (node_place m) (alike_parts n m e).place

ranks_same : (r q : ℕ) (xs ys : List ℕ) → text_cmp (r ∷ xs) (q ∷ ys) ≡ Equal → r ≡ q
ranks_same r q xs ys e = numbers_same r q (then_equal (nat_cmp r q) (text_cmp xs ys) e).0

chosen_by : (n m : NodeRecord) (v : Valuation) → AreAlike n m → chosen n v ≡ chosen m v
chosen_by (Versions key first later) (Versions other f l) v a =
    let same = versions_same key other (ranks_same (version_rank key) (version_rank other) [] [] a.place) in
    branches_alike version_cmp_total first later f l (v.version key) a.first a.versions
    ∙ ap (λ k. branch_at version_cmp f l (v.version k)) same
chosen_by (Texts key first later) (Texts other f l) v a =
    let ranks : text_rank key ≡ text_rank other =
    ranks_same (text_rank key) (text_rank other) [] [] a.place in
    let same = text_keys_same key other (omega (arith, ranks)) in
    branches_alike nat_list_cmp_total first later f l (v.text key) a.first a.texts
    ∙ ap (λ k. branch_at text_cmp f l (v.text k)) same
chosen_by (Flagged flag set unset) (Flagged other s u) v a =
    let same = flag_from_place flag other a.place in
    λ i. cond (v.flag (same i)) (a.first i) (a.second i)
chosen_by (Versions key first later) (Texts other f l) v a =
    let ranks = ranks_same (version_rank key) (text_rank other) [] [] a.place in
    absurd (omega (arith, ranks, version_rank_below key))
chosen_by (Versions key first later) (Flagged other s u) v a =
    let ranks = ranks_same (version_rank key) (flag_rank other) [] (flag_text other) a.place in
    absurd (omega (arith, ranks, version_rank_below key, flag_rank_from other))
chosen_by (Texts key first later) (Versions other f l) v a =
    let ranks = ranks_same (text_rank key) (version_rank other) [] [] a.place in
    absurd (omega (arith, ranks, version_rank_below other))
chosen_by (Texts key first later) (Flagged other s u) v a =
    let ranks = ranks_same (text_rank key) (flag_rank other) [] (flag_text other) a.place in
    absurd (omega (arith, ranks, rank_below key, flag_rank_from other))
chosen_by (Flagged flag set unset) (Versions other f l) v a =
    let ranks = ranks_same (flag_rank flag) (version_rank other) (flag_text flag) [] a.place in
    absurd (omega (arith, ranks, version_rank_below other, flag_rank_from flag))
chosen_by (Flagged flag set unset) (Texts other f l) v a =
    let ranks = ranks_same (flag_rank flag) (text_rank other) (flag_text flag) [] a.place in
    absurd (omega (arith, ranks, rank_below other, flag_rank_from flag))

-- at each valuation the same tree stands in equal nodes
pub alike_chosen : (n m : NodeRecord) (v : Valuation) → node_cmp n m ≡ Equal → chosen n v ≡ chosen m v
alike_chosen n m v e = chosen_by n m v (alike_parts n m e)

-- ---- nodes with each child negated

pub signed_place : (turns : Bool) (n : NodeRecord) → node_place (signed turns n) ≡ node_place n
signed_place true (Versions key first later) = refl
signed_place true (Texts key first later) = refl
signed_place true (Flagged flag set unset) = refl
signed_place false n = refl

either_negation : (b : Bool) (x y : Tree) → cond b (negation x) (negation y) ≡ negation (cond b x y)
either_negation true x y = refl
either_negation false x y = refl

turned_at : {T : Type 0} (cmp : T → T → Ordering) (first : Tree) (later : List (Branch T Tree))
    (p : Point T) →
    branch_at cmp (negation first) (map turned_branch later) p ≡ negation (branch_at cmp first later p)
turned_at cmp first [] p = refl
turned_at cmp first (branch ∷ later) p =
    let up = reaches (point_cmp cmp) (point_of branch.boundary) p in
    ap (λ x. cond up x (negation first)) (turned_at cmp branch.child later p)
    ∙ either_negation up (branch_at cmp branch.child later p) first

pub signed_chosen : (turns : Bool) (n : NodeRecord) (v : Valuation) →
    chosen (signed turns n) v ≡ turned turns (chosen n v)
signed_chosen true (Versions key first later) v = turned_at version_cmp first later (v.version key)
signed_chosen true (Texts key first later) v = turned_at text_cmp first later (v.text key)
signed_chosen true (Flagged flag set unset) v = either_negation (v.flag flag) set unset
signed_chosen false n v = refl

-- the tree of a node that stands at a place
pub made_at : (old new : List NodeRecord) (node : NodeRecord) (k : ℕ) (turns : Bool) → Extends old new →
    AreSound new → k < length new → node_cmp (node_at new k) (signed turns node) ≡ Equal →
    AllChildren (IsTree old) node → Made old new node (record { place = k + 1; negated = turns })
unfolding Above
made_at old new node k turns extended sound here equal made =
    let t : Tree = record { place = k + 1; negated = turns } in
    let at = node_at new k in
    record {
      made = omega arith;
      truth_is = λ v.
          let child = chosen node v in
          holds_at new sound t k refl here v
          ∙ ap (λ c. flips turns (holds new c v))
          (alike_chosen at (signed turns node) v equal ∙ signed_chosen turns node v)
          ∙ ap (flips turns) (holds_turned new turns child v) ∙ flips_twice turns (holds new child v)
          ∙ holds_kept old new extended child (chosen_all (IsTree old) node v made) v;
      above = λ place less j e.
          let same : k ≡ j = omega arith in
          subst (λ i. text_cmp place (node_place (node_at new i)) ≡ Less) same
          (subst (λ p. text_cmp place p ≡ Less)
          (sym (alike_place at (signed turns node) equal ∙ signed_place turns node)) less);
    }

-- ---- what may be stored

negation_back : (a b : Tree) → negation a ≡ negation b → a ≡ b
negation_back a b e = λ i. record {
  place = (e i).place;
  negated = flips_back true a.negated b.negated (ap (λ t. t.negated) e) i;
}

module _ (P : Tree → Type 0) (stable : (t : Tree) → P t → P (negation t)) where
  pub turned_branches : {T : Type 0} (first : Tree) (later : List (Branch T Tree)) → AllBranches P first later →
      AllBranches P (negation first) (map turned_branch later)
  turned_branches first [] all = stable first all
  turned_branches first (branch ∷ later) all = (stable first all.0, turned_branches branch.child later all.1)

  pub signed_children : (turns : Bool) (n : NodeRecord) → AllChildren P n → AllChildren P (signed turns n)
  signed_children true (Versions key first later) all = turned_branches first later all
  signed_children true (Texts key first later) all = turned_branches first later all
  signed_children true (Flagged flag set unset) all = (stable set all.0, stable unset all.1)
  signed_children false n all = all

pub same_boundaries : {T : Type 0} (later : List (Branch T Tree)) →
    map (λ branch. branch.boundary) (map turned_branch later) ≡ map (λ branch. branch.boundary) later
same_boundaries [] = refl
same_boundaries (branch ∷ later) = ap (λ bs. branch.boundary ∷ bs) (same_boundaries later)

pub signed_rises : (turns : Bool) (n : NodeRecord) → IsRising n → IsRising (signed turns n)
signed_rises true (Versions key first later) rises =
    subst (Rising (boundary_cmp version_cmp)) (sym (same_boundaries later)) rises
signed_rises true (Texts key first later) rises =
    subst (Rising (boundary_cmp text_cmp)) (sym (same_boundaries later)) rises
signed_rises true (Flagged flag set unset) rises = rises
signed_rises false n rises = rises

turned_differ : {T : Type 0} (first : Tree) (later : List (Branch T Tree)) → NeighboursDiffer first later →
    NeighboursDiffer (negation first) (map turned_branch later)
turned_differ first [] differ = tt
turned_differ first (branch ∷ later) differ =
    (λ e. differ.0 (negation_back first branch.child e), turned_differ branch.child later differ.1)

pub signed_differ : (turns : Bool) (n : NodeRecord) → ChildrenDiffer n → ChildrenDiffer (signed turns n)
signed_differ true (Versions key first later) differ = turned_differ first later differ
signed_differ true (Texts key first later) differ = turned_differ first later differ
signed_differ true (Flagged flag set unset) differ = λ e. differ (negation_back set unset e)
signed_differ false n differ = differ

none_left : {T : Type 0} (later : List (Branch T Tree)) → map turned_branch later ≡ [] → later ≡ []
none_left [] e = refl
none_left (branch ∷ later) e = absurd (cc)

pub signed_wide : (turns : Bool) (n : NodeRecord) → HasBoundary n → HasBoundary (signed turns n)
signed_wide true (Versions key first later) wide = λ e. wide (none_left later e)
signed_wide true (Texts key first later) wide = λ e. wide (none_left later e)
signed_wide true (Flagged flag set unset) wide = wide
signed_wide false n wide = wide

signed_first : (turns : Bool) (n : NodeRecord) → (first_child (signed turns n)).negated
    ≡ flips turns (first_child n).negated
signed_first true (Versions key first later) = refl
signed_first true (Texts key first later) = refl
signed_first true (Flagged flag set unset) = refl
signed_first false n = refl

flips_itself : (b : Bool) → flips b b ≡ false
flips_itself true = refl
flips_itself false = refl

differ_of : (n : NodeRecord) → IsJoined n → (IsAlone n → ⊥) → ChildrenDiffer n
differ_of (Versions key first later) joined several = joined
differ_of (Texts key first later) joined several = joined
differ_of (Flagged flag set unset) joined several = several

wide_of : (n : NodeRecord) → (IsAlone n → ⊥) → HasBoundary n
wide_of (Versions key first later) several = several
wide_of (Texts key first later) several = several
wide_of (Flagged flag set unset) several = tt

pub above_negation : (nodes : List NodeRecord) (place : List ℕ) (t : Tree) → Above nodes place t →
    Above nodes place (negation t)
unfolding Above
above_negation nodes place t above = above

-- a node with more than one child, signed so that the first is not negated, with short versions
pub signed_sound : (old : List NodeRecord) (node : NodeRecord) → AllChildren (IsTree old) node →
    AllChildren (Above old (node_place node)) node → IsRising node → IsJoined node → (IsAlone node → ⊥) →
    IsSoundNode old (length old) (short_node (signed (first_child node).negated node))
signed_sound old node made above rises joined several =
    let turns = (first_child node).negated in
    let n = signed turns node in
    let place : node_place (short_node n) ≡ node_place node = short_place n ∙ signed_place turns node in
    record {
      before = short_children (IsTree old) n (signed_children (IsTree old) (λ t h. h) turns node made);
      above = subst (λ place. AllChildren (Above old place) (short_node n)) (sym place)
          (short_children (Above old (node_place node)) n
          (signed_children (Above old (node_place node)) (above_negation old (node_place node)) turns node
          above));
      rises = short_rises n (signed_rises turns node rises);
      differ = short_differ n (signed_differ turns node (differ_of node joined several));
      wide = short_wide n (signed_wide turns node (wide_of node several));
      plain = ap (λ t. t.negated) (short_first n) ∙ signed_first turns node ∙ flips_itself turns;
      short = short_short n;
    }

-- ---- nodes with one child

either_same : (b : Bool) (x y : Tree) → x ≡ y → x ≡ cond b x y
either_same true x y e = refl
either_same false x y e = e

alone_chosen : (n : NodeRecord) (v : Valuation) → IsAlone n → first_child n ≡ chosen n v
alone_chosen (Versions key first later) v alone =
    ap (λ l. branch_at version_cmp first l (v.version key)) (sym alone)
alone_chosen (Texts key first later) v alone = ap (λ l. branch_at text_cmp first l (v.text key)) (sym alone)
alone_chosen (Flagged flag set unset) v alone = either_same (v.flag flag) set unset alone

-- the tree of a node with one child alone is that child
pub made_alone : (old : List NodeRecord) (node : NodeRecord) → IsAlone node → AllChildren (IsTree old) node →
    AllChildren (Above old (node_place node)) node → Made old old node (first_child node)
unfolding Above
made_alone old node alone made above = record {
  made = first_of_children (IsTree old) node made;
  truth_is = λ v. ap (λ t. holds old t v) (alone_chosen node v alone);
  above = λ place less k e.
      nat_list_cmp_total.trans place (node_place node) (node_place (node_at old k)) less
      (first_of_children (Above old (node_place node)) node above k e);
}
