-- The order of trees by the edges at their roots.
use Rattle.std.proofs.Common.{◌≡◌, ℕ, ◌<◌, ◌≤◌, Bool, true, false, not, List, [], ◌∷◌, map, length, Option}
use Rattle.std.proofs.Common.{Some, None, refl, sym, ap, ap₂, subst, ◌∙◌, Less, Greater, nat_cmp, get_or}
use Rattle.std.specs.Prelude.{option_map}
use Rattle.std.specs.List.{slice_get}
use Rattle.std.specs.Ordering.{bool_cmp, ordering_then}
use Rattle.std.specs.Cmp.Lexicographic.{slice_cmp}
use Rattle.std.proofs.lemmas.Option.{slice_get-map, slice_get-get_or, slice_get_past}
use Rattle.version_ranges.specs.declared.boundary.Boundary.{Boundary}
use Rattle.version_ranges.specs.Boundaries.{boundary_cmp}
use Rattle.pep440_text.specs.Record.{VersionRecord}
use Rattle.pep440_version.specs.Order.{version_cmp}
use Rattle.pep508_marker.specs.declared.keys.MarkerValueString.{MarkerValueString}
use Rattle.pep508_diagram.specs.declared.branch.Branch.{Branch}
use Rattle.pep508_diagram.specs.declared.variable.VersionVariable.{VersionVariable}
use Rattle.pep508_diagram.specs.Text.{text_cmp}
use Rattle.pep508_diagram.specs.Diagram.{Diagram, Leaf, Test}
use Rattle.pep508_diagram.specs.Branches.{AllBranches}
use Rattle.pep508_diagram.specs.Chains.{chain}
use Rattle.pep508_diagram.specs.Children.{RootBehind}
use Rattle.pep508_diagram.specs.Question.{Question, VersionBelow, TextBelow, IsSet, question_cmp}
use Rattle.pep508_diagram.specs.Question.{shares_variable, version_boundaries, text_boundaries, place_of}
use Rattle.pep508_diagram.proofs.Chains.{versions_key, texts_key, behind_above}
use Rattle.pep440_version.proofs.Stripped.{then_equal_last}
use Rattle.pep508_tree.specs.Tree.{Tree}
use Rattle.pep508_tree.specs.Joining.{children}
use Rattle.pep508_tree.specs.Meaning.{NodeOf, NodeRecord, Versions, Texts, Flagged, node_diagram}
use Rattle.pep508_tree.specs.Nodes.{HasBoundary, AllChildren, node_place, signed, turned_branch}
use Rattle.pep508_tree_ref.specs.TreeOrder.{is_last, diagram_cmp}
use Rattle.pep508_tree_ref.specs.Sides.{ends, ends_of, question_rank, question_text, sides, side_cmp}
use Rattle.pep508_tree_ref.specs.TreeOrderLaws.{then_then}

-- ---- the order of questions by its parts

places : (q : Question) → place_of q ≡ question_rank q ∷ question_text q
places (VersionBelow key boundary) = refl
places (TextBelow key boundary) = refl
places (IsSet flag) = refl

pub question_order : (q r : Question) →
    ordering_then
    (ordering_then
    (ordering_then (nat_cmp (question_rank q) (question_rank r)) (text_cmp (question_text q) (question_text r)))
    (slice_cmp (boundary_cmp version_cmp) (version_boundaries q) (version_boundaries r)))
    (slice_cmp (boundary_cmp text_cmp) (text_boundaries q) (text_boundaries r))
    ≡ question_cmp q r
unfolding question_cmp
question_order q r =
    let place = ordering_then (nat_cmp (question_rank q) (question_rank r)) (text_cmp (question_text q) (question_text r)) in
    let texts = slice_cmp (boundary_cmp text_cmp) (text_boundaries q) (text_boundaries r) in
    let versions = slice_cmp (boundary_cmp version_cmp) (version_boundaries q) (version_boundaries r) in
    then_then place versions texts
    ∙ ap (λ o. ordering_then o (ordering_then versions texts))
    (sym (ap₂ text_cmp (places q) (places r)))

-- ---- ends

turned_ends : {T : Type 0} (ask : Boundary T → Question) (later : List (Branch T Tree)) →
    map (λ branch. ask branch.boundary) (map turned_branch later) ≡ map (λ branch. ask branch.boundary) later
turned_ends ask [] = refl
turned_ends ask (branch ∷ later) = ap (λ qs. ask branch.boundary ∷ qs) (turned_ends ask later)

signed_ends : (turns : Bool) (n : NodeRecord) → ends (signed turns n) ≡ ends n
signed_ends true (Versions key first later) = turned_ends (VersionBelow key) later
signed_ends true (Texts key first later) = turned_ends (TextBelow key) later
signed_ends true (Flagged flag set unset) = refl
signed_ends false n = refl

module _ (turns : Bool) (first : Tree) (root : Option NodeRecord) (i : ℕ) where
  version_end : (key : VersionVariable) (later : List (Branch VersionRecord Tree)) (found : Option Question) →
      Some (signed turns (Versions key first later)) ≡ root →
      found ≡ option_map (λ branch. VersionBelow key branch.boundary) (slice_get later i) →
      found ≡ slice_get (ends_of root) i
  version_end key later found at e =
      e ∙ sym (slice_get-map (λ branch. VersionBelow key branch.boundary) later i)
      ∙ ap (λ qs. slice_get qs i) (sym (signed_ends turns (Versions key first later)))
      ∙ ap (λ o. slice_get (ends_of o) i) at

  text_end : (key : MarkerValueString) (later : List (Branch (List ℕ) Tree)) (found : Option Question) →
      Some (signed turns (Texts key first later)) ≡ root →
      found ≡ option_map (λ branch. TextBelow key branch.boundary) (slice_get later i) →
      found ≡ slice_get (ends_of root) i
  text_end key later found at e =
      e ∙ sym (slice_get-map (λ branch. TextBelow key branch.boundary) later i)
      ∙ ap (λ qs. slice_get qs i) (sym (signed_ends turns (Texts key first later)))
      ∙ ap (λ o. slice_get (ends_of o) i) at

  module _ (key : VersionVariable) (later : List (Branch VersionRecord Tree))
      (at : Some (signed turns (Versions key first later)) ≡ root) where
    pub version_end_some : (branch : Branch VersionRecord Tree) → i < length later →
        branch ≡ get_or later i branch → Some (VersionBelow key branch.boundary) ≡ slice_get (ends_of root) i
    version_end_some branch inside is =
        version_end key later (Some (VersionBelow key branch.boundary)) at
        (sym (ap (option_map (λ branch. VersionBelow key branch.boundary))
        (slice_get-get_or later i branch inside ∙ ap Some (sym is))))

    pub version_end_none : length later ≤ i → None ≡ slice_get (ends_of root) i
    version_end_none past =
        version_end key later None at
        (sym (ap (option_map (λ branch. VersionBelow key branch.boundary)) (slice_get_past later i past)))

  module _ (key : MarkerValueString) (later : List (Branch (List ℕ) Tree))
      (at : Some (signed turns (Texts key first later)) ≡ root) where
    pub text_end_some : (branch : Branch (List ℕ) Tree) → i < length later →
        branch ≡ get_or later i branch → Some (TextBelow key branch.boundary) ≡ slice_get (ends_of root) i
    text_end_some branch inside is =
        text_end key later (Some (TextBelow key branch.boundary)) at
        (sym (ap (option_map (λ branch. TextBelow key branch.boundary))
        (slice_get-get_or later i branch inside ∙ ap Some (sym is))))

    pub text_end_none : length later ≤ i → None ≡ slice_get (ends_of root) i
    text_end_none past =
        text_end key later None at
        (sym (ap (option_map (λ branch. TextBelow key branch.boundary)) (slice_get_past later i past)))

-- ---- diagrams by ends and children

build : {C : Type 0} → (C → Diagram Question) → List Question → List C → Diagram Question
build at qs [] = Leaf true
build at [] (c ∷ cs) = at c
build at (q ∷ qs) (c ∷ cs) = Test q (at c) (build at qs cs)

-- a question is followed by others of its variable, and then by a diagram that asks no more of it
GoesOn : {C : Type 0} → (C → Diagram Question) → Question → List Question → List C → Type 0
GoesOn at q qs [] = ⊥
GoesOn at q [] (c ∷ []) = is_last q (at c) ≡ true
GoesOn at q [] (c ∷ d ∷ cs) = ⊥
GoesOn at q (r ∷ qs) (c ∷ cs) = (shares_variable q r ≡ true) × GoesOn at r qs cs

module _ {C D : Type 0} (at : C → Diagram Question) (other_at : D → Diagram Question) where
  later_sides : (q : Question) (qs : List Question) (cs : List C) (r : Question) (rs : List Question)
      (ds : List D) → GoesOn at q qs cs → GoesOn other_at r rs ds →
      ordering_then (bool_cmp (is_last q (build at qs cs)) (is_last r (build other_at rs ds)))
      (diagram_cmp (build at qs cs) (build other_at rs ds))
      ≡ slice_cmp side_cmp (sides at qs cs) (sides other_at rs ds)
  unfolding GoesOn build
  later_sides q [] [] r rs ds h g = absurd h
  later_sides q (p ∷ qs) [] r rs ds h g = absurd h
  later_sides q [] (c ∷ b ∷ cs) r rs ds h g = absurd h
  later_sides q [] (c ∷ []) r [] [] h g = absurd g
  later_sides q [] (c ∷ []) r (s ∷ rs) [] h g = absurd g
  later_sides q [] (c ∷ []) r [] (d ∷ e ∷ ds) h g = absurd g
  later_sides q [] (c ∷ []) r [] (d ∷ []) h g =
      ap₂ (λ a b. ordering_then (bool_cmp a b) (diagram_cmp (at c) (other_at d))) h g
      ∙ sym (then_equal_last (diagram_cmp (at c) (other_at d)))
  later_sides q [] (c ∷ []) r (s ∷ rs) (d ∷ ds) h g =
      ap₂ (λ a b. ordering_then (bool_cmp a (not b)) (diagram_cmp (at c) (build other_at (s ∷ rs) (d ∷ ds)))) h g.0
  later_sides q (p ∷ qs) (c ∷ cs) r rs [] h g = absurd g
  later_sides q (p ∷ qs) (c ∷ cs) r [] (d ∷ e ∷ ds) h g = absurd g
  later_sides q (p ∷ qs) (c ∷ cs) r [] (d ∷ []) h g =
      ap₂ (λ a b. ordering_then (bool_cmp (not a) b) (diagram_cmp (build at (p ∷ qs) (c ∷ cs)) (other_at d))) h.0 g
  later_sides q (p ∷ qs) (c ∷ cs) r (s ∷ rs) (d ∷ ds) h g =
      ap₂ (λ a b. ordering_then (bool_cmp (not a) (not b))
      (diagram_cmp (build at (p ∷ qs) (c ∷ cs)) (build other_at (s ∷ rs) (d ∷ ds)))) h.0 g.0
      ∙ ap (λ o. ordering_then (question_cmp p s) (ordering_then (diagram_cmp (at c) (other_at d)) o))
      (later_sides p qs cs s rs ds h.1 g.1)
      ∙ sym (then_then (question_cmp p s) (diagram_cmp (at c) (other_at d))
      (slice_cmp side_cmp (sides at qs cs) (sides other_at rs ds)))

  all_sides : (q : Question) (qs : List Question) (c : C) (cs : List C) (r : Question) (rs : List Question)
      (d : D) (ds : List D) → GoesOn at q qs cs → GoesOn other_at r rs ds →
      diagram_cmp (build at (q ∷ qs) (c ∷ cs)) (build other_at (r ∷ rs) (d ∷ ds))
      ≡ slice_cmp side_cmp (sides at (q ∷ qs) (c ∷ cs)) (sides other_at (r ∷ rs) (d ∷ ds))
  unfolding build
  all_sides q qs c cs r rs d ds h g =
      ap (λ o. ordering_then (question_cmp q r) (ordering_then (diagram_cmp (at c) (other_at d)) o))
      (later_sides q qs cs r rs ds h g)
      ∙ sym (then_then (question_cmp q r) (diagram_cmp (at c) (other_at d))
      (slice_cmp side_cmp (sides at qs cs) (sides other_at rs ds)))

-- ---- nodes

not_same : (b : Bool) → b ≡ false → not b ≡ true
not_same b e = ap not e

-- what comes behind a variable asks no more of it
last_behind : (q : Question) (d : Diagram Question) → RootBehind (place_of q) d → is_last q d ≡ true
last_behind q (Leaf b) behind = refl
last_behind q (Test r low high) behind = ap not (behind_above q (Test r low high) behind).1

module _ {C : Type 0} (at : C → Diagram Question) where
  build_chain : {T : Type 0} (ask : Boundary T → Question) (first : C) (later : List (Branch T C)) →
      chain ask at first later
      ≡ build at (map (λ branch. ask branch.boundary) later) (first ∷ map (λ branch. branch.child) later)
  unfolding build
  build_chain ask first [] = refl
  build_chain ask first (branch ∷ later) =
      ap (Test (ask branch.boundary) (at first)) (build_chain ask branch.child later)

  build_node : (n : NodeOf C) → node_diagram at n ≡ build at (ends n) (children n)
  unfolding build
  build_node (Versions key first later) = build_chain (VersionBelow key) first later
  build_node (Texts key first later) = build_chain (TextBelow key) first later
  build_node (Flagged flag set unset) = refl

  goes_branches : {T : Type 0} (ask : Boundary T → Question) (place : List ℕ) →
      ((b : Boundary T) → place_of (ask b) ≡ place) →
      ((b c : Boundary T) → shares_variable (ask b) (ask c) ≡ true) →
      (b : Boundary T) (first : C) (later : List (Branch T C)) →
      AllBranches (λ c. RootBehind place (at c)) first later →
      GoesOn at (ask b) (map (λ branch. ask branch.boundary) later) (first ∷ map (λ branch. branch.child) later)
  unfolding GoesOn
  goes_branches ask place here shared b first [] behind =
      last_behind (ask b) (at first) (subst (λ p. RootBehind p (at first)) (sym (here b)) behind)
  goes_branches ask place here shared b first (branch ∷ later) behind =
      (shared b branch.boundary, goes_branches ask place here shared branch.boundary branch.child later behind.1)

  record Opened (n : NodeOf C) : Type 0 where
    end : Question
    ends_left : List Question
    child : C
    children_left : List C
    ends_are : ends n ≡ end ∷ ends_left
    children_are : children n ≡ child ∷ children_left
    goes_on : GoesOn at end ends_left children_left

  opened : (n : NodeOf C) → HasBoundary n → AllChildren (λ c. RootBehind (node_place n) (at c)) n → Opened n
  unfolding GoesOn
  opened (Versions key first []) wide behind = absurd (wide refl)
  opened (Versions key first (branch ∷ later)) wide behind = record {
    end = VersionBelow key branch.boundary;
    ends_left = map (λ branch. VersionBelow key branch.boundary) later;
    child = first;
    children_left = branch.child ∷ map (λ branch. branch.child) later;
    ends_are = refl;
    children_are = refl;
    goes_on = goes_branches (VersionBelow key) (node_place (Versions key first (branch ∷ later))) (λ b. refl)
        (versions_key key).shared branch.boundary branch.child later behind.1;
  }
  opened (Texts key first []) wide behind = absurd (wide refl)
  opened (Texts key first (branch ∷ later)) wide behind = record {
    end = TextBelow key branch.boundary;
    ends_left = map (λ branch. TextBelow key branch.boundary) later;
    child = first;
    children_left = branch.child ∷ map (λ branch. branch.child) later;
    ends_are = refl;
    children_are = refl;
    goes_on = goes_branches (TextBelow key) (node_place (Texts key first (branch ∷ later))) (λ b. refl)
        (texts_key key).shared branch.boundary branch.child later behind.1;
  }
  opened (Flagged flag set unset) wide behind = record {
    end = IsSet flag;
    ends_left = [];
    child = set;
    children_left = unset ∷ [];
    ends_are = refl;
    children_are = refl;
    goes_on = last_behind (IsSet flag) (at unset) behind.1;
  }

-- the order of nodes is that of their edges
pub nodes_by_sides : {C D : Type 0} (at : C → Diagram Question) (other_at : D → Diagram Question)
    (n : NodeOf C) (m : NodeOf D) → HasBoundary n → HasBoundary m →
    AllChildren (λ c. RootBehind (node_place n) (at c)) n →
    AllChildren (λ d. RootBehind (node_place m) (other_at d)) m →
    diagram_cmp (node_diagram at n) (node_diagram other_at m)
    ≡ slice_cmp side_cmp (sides at (ends n) (children n)) (sides other_at (ends m) (children m))
nodes_by_sides at other_at n m wide other_wide behind other_behind =
    let a = opened at n wide behind in
    let b = opened other_at m other_wide other_behind in
    ap₂ diagram_cmp
    (build_node at n ∙ ap₂ (build at) a.ends_are a.children_are)
    (build_node other_at m ∙ ap₂ (build other_at) b.ends_are b.children_are)
    ∙ all_sides at other_at a.end a.ends_left a.child a.children_left b.end b.ends_left b.child b.children_left
    a.goes_on b.goes_on
    ∙ ap₂ (slice_cmp side_cmp)
    (sym (ap₂ (sides at) a.ends_are a.children_are)) (sym (ap₂ (sides other_at) b.ends_are b.children_are))

-- a node comes behind constants
pub leaf_before_node : {C : Type 0} (at : C → Diagram Question) (leaf : Bool) (n : NodeOf C) → HasBoundary n →
    diagram_cmp (Leaf leaf) (node_diagram at n) ≡ Less
leaf_before_node at leaf (Versions key first []) wide = absurd (wide refl)
leaf_before_node at leaf (Versions key first (branch ∷ later)) wide = refl
leaf_before_node at leaf (Texts key first []) wide = absurd (wide refl)
leaf_before_node at leaf (Texts key first (branch ∷ later)) wide = refl
leaf_before_node at leaf (Flagged flag set unset) wide = refl

pub node_behind_leaf : {C : Type 0} (at : C → Diagram Question) (leaf : Bool) (n : NodeOf C) → HasBoundary n →
    diagram_cmp (node_diagram at n) (Leaf leaf) ≡ Greater
node_behind_leaf at leaf (Versions key first []) wide = absurd (wide refl)
node_behind_leaf at leaf (Versions key first (branch ∷ later)) wide = refl
node_behind_leaf at leaf (Texts key first []) wide = absurd (wide refl)
node_behind_leaf at leaf (Texts key first (branch ∷ later)) wide = refl
node_behind_leaf at leaf (Flagged flag set unset) wide = refl
