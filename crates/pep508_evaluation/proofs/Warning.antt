-- What a node of a diagram gives of what is warned of.
use Rattle.std.proofs.Common.{◌≡◌, ℕ, Bool, true, false, not, cond, List, [], ◌∷◌, ◌++◌, map, refl, sym, ap}
use Rattle.std.proofs.Common.{ap₂, subst, ◌∙◌, append_assoc, append-nil, Option, Some, None}
use Rattle.std.specs.List.{FoldsTo, flat_map}
use Rattle.std.specs.declared.cmp.Ordering.{Ordering}
use Rattle.version_ranges.specs.declared.boundary.Boundary.{Boundary}
use Rattle.version_ranges.specs.Boundaries.{point_of}
use Rattle.version_ranges.specs.Point.{Point, point_cmp}
use Rattle.version_ranges.specs.Turns.{reaches}
use Rattle.pep440_version.specs.Order.{version_cmp}
use Rattle.pep508_marker.specs.declared.keys.MarkerValueString.{MarkerValueString}
use Rattle.pep508_marker.specs.declared.warnings.MarkerWarningKind.{MarkerWarningKind}
use Rattle.pep508_diagram.specs.declared.branch.Branch.{Branch}
use Rattle.pep508_diagram.specs.Text.{text_cmp}
use Rattle.pep508_diagram.specs.Diagram.{Diagram, Leaf, Test}
use Rattle.pep508_diagram.specs.Branches.{branch_at, AllBranches}
use Rattle.pep508_diagram.specs.Chains.{chain}
use Rattle.pep508_diagram.specs.Children.{RootBehind}
use Rattle.pep508_diagram.specs.Question.{Question, IsSet, Valuation, version_rank, text_rank}
use Rattle.pep508_diagram.specs.Question.{text_boundaries, shares_variable, answer, lies_below, marker}
use Rattle.pep508_diagram.specs.Question.{place_of}
use Rattle.pep508_diagram.proofs.Keyed.{IsKey}
use Rattle.pep508_diagram.proofs.Chains.{versions_key, texts_key, behind_above}
use Rattle.pep508_tree.specs.Tree.{Tree}
use Rattle.pep508_tree.specs.Meaning.{NodeRecord, Versions, Texts, Flagged, node_diagram}
use Rattle.pep508_tree.specs.Nodes.{AllChildren, HasBoundary, chosen, node_place}
use Rattle.pep508_tree.specs.Joining.{children}
use Rattle.pep508_evaluation.specs.Warned.{names_of, old_names, edge, passed, edges_to, compared}
use Rattle.pep508_evaluation.specs.Edges.{text_edges, root_edges, root_names}

-- ---- taken one after another

pub folds_append : {P A : Type 0} (R : P → A → P → Type 0) (p : P) (xs : List A) (q : P) (ys : List A) (u : P) →
    FoldsTo R p xs q → FoldsTo R q ys u → FoldsTo R p (xs ++ ys) u
folds_append R p [] q ys u first second = subst (λ r. FoldsTo R r ys u) (sym first) second
folds_append R p (x ∷ xs) q ys u first second =
    (first.0, first.1, folds_append R first.0 xs q ys u first.2 second)

-- where each leads from a state to the same state, so do all
pub folds_nowhere : {P A : Type 0} (R : P → A → P → Type 0) (p : P) → ((x : A) → R p x p) → (xs : List A) →
    FoldsTo R p xs p
folds_nowhere R p stays [] = refl
folds_nowhere R p stays (x ∷ xs) = (p, stays x, folds_nowhere R p stays xs)

-- ---- a diagram that begins with another variable

-- no diagram behind a question's place goes on with its node
free_of : (q r : Question) (low high : Diagram Question) → RootBehind (place_of q) (Test r low high) →
    shares_variable q r ≡ false
free_of q r low high behind = (behind_above q (Test r low high) behind).1

names_anew : (q : Question) (d : Diagram Question) → RootBehind (place_of q) d →
    old_names (Some q) d ≡ old_names None d
names_anew q (Leaf b) behind = refl
names_anew q (Test r low high) behind =
    ap (λ same. cond same [] (names_of r) ++ (old_names None low ++ old_names (Some r) high))
    (free_of q r low high behind)

compared_anew : (v : Valuation) (q : Question) (d : Diagram Question) → RootBehind (place_of q) d →
    compared v (Some q) d ≡ edge (text_boundaries q) [] ++ compared v None d
compared_anew v q (Leaf b) behind = sym (append-nil (edge (text_boundaries q) []))
compared_anew v q (Test r low high) behind =
    let rest = cond (answer v r) (compared v None low) (compared v (Some r) high) in
    let before = edge (text_boundaries q) [] in
    ap (λ same. cond same (edge (text_boundaries q) (text_boundaries r)) (before ++ edge [] (text_boundaries r)) ++ rest)
    (free_of q r low high behind)
    ∙ append_assoc before (edge [] (text_boundaries r)) rest

-- ---- the branches of a key

module _ {T C : Type 0} {cmp : T → T → Ordering} {of : Boundary T → Question} {point : Valuation → Point T}
    (key : IsKey marker cmp of point) (at : C → Diagram Question) (place : List ℕ)
    (places : (b : Boundary T) → place_of (of b) ≡ place) where
  abbrev Behind : C → Type 0
  Behind c = RootBehind place (at c)

  behind_one : (b : Boundary T) (c : C) → Behind c → RootBehind (place_of (of b)) (at c)
  behind_one b c behind = subst (λ p. RootBehind p (at c)) (sym (places b)) behind

  -- ---- old names

  names_on : (a : Boundary T) (first : C) (later : List (Branch T C)) → AllBranches Behind first later →
      old_names (Some (of a)) (chain of at first later)
      ≡ flat_map (λ c. old_names None (at c)) (first ∷ map (λ branch. branch.child) later)
  names_on a first [] behind =
      names_anew (of a) (at first) (behind_one a first behind) ∙ sym (append-nil (old_names None (at first)))
  names_on a first (branch ∷ later) behind =
      ap (λ same. cond same [] (names_of (of branch.boundary)) ++ (old_names None (at first)
      ++ old_names (Some (of branch.boundary)) (chain of at branch.child later)))
      (key.shared a branch.boundary)
      ∙ ap (λ rest. old_names None (at first) ++ rest)
      (names_on branch.boundary branch.child later behind.1)

  pub names_chain : (first : C) (branch : Branch T C) (later : List (Branch T C)) →
      AllBranches Behind first (branch ∷ later) →
      old_names None (chain of at first (branch ∷ later))
      ≡ names_of (of branch.boundary) ++ flat_map (λ c. old_names None (at c))
      (first ∷ map (λ branch. branch.child) (branch ∷ later))
  names_chain first branch later behind =
      ap (λ rest. names_of (of branch.boundary) ++ (old_names None (at first) ++ rest))
      (names_on branch.boundary branch.child later behind.1)

  -- ---- edges

  abbrev edges : List (Boundary (List ℕ)) → List (Branch T C) → Point T → List MarkerWarningKind
  edges lower [] p = edge lower []
  edges lower (branch ∷ later) p =
      edge lower (text_boundaries (of branch.boundary))
      ++ cond (lies_below cmp p branch.boundary) [] (edges (text_boundaries (of branch.boundary)) later p)

  -- what stands before begins or goes on with the key's node
  pub record Before (v : Valuation) (before : Option Question) : Type 0 where
    pub starts : (b : Boundary T) → edges_to before (of b) ≡ edge (passed before) (text_boundaries (of b))
    pub ends : (c : C) → Behind c → compared v before (at c) ≡ edge (passed before) [] ++ compared v None (at c)

  begins : (v : Valuation) → Before v None
  begins v = record { starts = λ b. refl; ends = λ c behind. refl }

  goes : (v : Valuation) (a : Boundary T) → Before v (Some (of a))
  goes v a = record {
    starts = λ b.
        ap (λ same. cond same (edge (text_boundaries (of a)) (text_boundaries (of b)))
        (edge (text_boundaries (of a)) [] ++ edge [] (text_boundaries (of b)))) (key.shared a b);
    ends = λ c behind. compared_anew v (of a) (at c) (behind_one a c behind);
  }

  -- one test of a chain: where it is answered by yes, and by no
  one_test : (up : Bool) (e rest low high stands other : List MarkerWarningKind) → low ≡ other →
      high ≡ rest ++ stands →
      e ++ cond (not up) low high ≡ (e ++ cond (not up) [] rest) ++ cond up stands other
  one_test true e rest low high stands other l h =
      ap (λ x. e ++ x) h ∙ sym (append_assoc e rest stands)
  one_test false e rest low high stands other l h =
      ap (λ x. e ++ x) l ∙ ap (λ x. x ++ other) (sym (append-nil e))

  compared_chain : (v : Valuation) (before : Option Question) → Before v before → (first : C)
      (later : List (Branch T C)) → AllBranches Behind first later →
      compared v before (chain of at first later)
      ≡ edges (passed before) later (point v) ++ compared v None (at (branch_at cmp first later (point v)))
  compared_chain v before b first [] behind = b.ends first behind
  compared_chain v before b first (branch ∷ later) behind =
      let q = of branch.boundary in
      let up = reaches (point_cmp cmp) (point_of branch.boundary) (point v) in
      let low = compared v None (at first) in
      let high = compared v (Some q) (chain of at branch.child later) in
      let stands = compared v None (at (branch_at cmp branch.child later (point v))) in
      let rest = edges (text_boundaries q) later (point v) in
      ap₂ (λ e yes. e ++ cond yes low high) (b.starts branch.boundary) (key.answers v branch.boundary)
      ∙ one_test up (edge (passed before) (text_boundaries q)) rest low high stands low refl
      (compared_chain v (Some q) (goes v branch.boundary) branch.child later behind.1)
      ∙ ap (λ x. (edge (passed before) (text_boundaries q) ++ cond (not up) [] rest) ++ x)
      (either up (branch_at cmp branch.child later (point v)) first)
    where
      either : (up : Bool) (x y : C) →
          cond up (compared v None (at x)) (compared v None (at y)) ≡ compared v None (at (cond up x y))
      either true x y = refl
      either false x y = refl

-- ---- nodes

abbrev no_kinds : List MarkerWarningKind
no_kinds = []

-- a key of versions has no texts
no_edges : {T C : Type 0} {cmp : T → T → Ordering} {of : Boundary T → Question} {point : Valuation → Point T}
    (key : IsKey marker cmp of point) (at : C → Diagram Question) (place : List ℕ)
    (places : (b : Boundary T) → place_of (of b) ≡ place) →
    ((b : Boundary T) → text_boundaries (of b) ≡ []) → (lower : List (Boundary (List ℕ))) → lower ≡ [] →
    (later : List (Branch T C)) (p : Point T) → edges key at place places lower later p ≡ []
no_edges key at place places none lower e [] p = ap (λ l. edge l []) e
no_edges {cmp = cmp} {of = of} key at place places none lower e (branch ∷ later) p =
    let q = of branch.boundary in
    ap₂ (λ l x. l ++ cond (lies_below cmp p branch.boundary) [] x)
    (ap₂ edge e (none branch.boundary))
    (no_edges key at place places none (text_boundaries q) (none branch.boundary) later p)
    ∙ either (lies_below cmp p branch.boundary)
  where
    either : (b : Bool) → cond b no_kinds no_kinds ≡ no_kinds
    either true = refl
    either false = refl

text_edges_are : {C : Type 0} (key : MarkerValueString) (at : C → Diagram Question)
    (lower : List (Boundary (List ℕ))) (later : List (Branch (List ℕ) C)) (p : Point (List ℕ)) →
    edges (texts_key key) at (text_rank key ∷ []) (λ b. refl) lower later p ≡ text_edges lower later p
text_edges_are key at lower [] p = refl
text_edges_are key at lower (branch ∷ later) p =
    ap (λ rest. edge lower (branch.boundary ∷ []) ++ cond (lies_below text_cmp p branch.boundary) [] rest)
    (text_edges_are key at (branch.boundary ∷ []) later p)

module _ (at : Tree → Diagram Question) where
  -- all that stands in a node comes behind its variable
  abbrev pub AllBehind : NodeRecord → Type 0
  AllBehind n = AllChildren (λ c. RootBehind (node_place n) (at c)) n

  pub names_node : (n : NodeRecord) → HasBoundary n → AllBehind n →
      old_names None (node_diagram at n)
      ≡ root_names (Some n) ++ flat_map (λ c. old_names None (at c)) (children n)
  names_node (Versions key first []) wide behind = absurd (wide refl)
  names_node (Versions key first (branch ∷ later)) wide behind =
      names_chain (versions_key key) at (version_rank key ∷ []) (λ b. refl) first branch later behind
  names_node (Texts key first []) wide behind = absurd (wide refl)
  names_node (Texts key first (branch ∷ later)) wide behind =
      names_chain (texts_key key) at (text_rank key ∷ []) (λ b. refl) first branch later behind
  names_node (Flagged flag set unset) wide behind =
      ap (λ rest. old_names None (at set) ++ rest)
      (names_anew (IsSet flag) (at unset) behind.1 ∙ sym (append-nil (old_names None (at unset))))

  pub compared_node : (n : NodeRecord) (v : Valuation) → AllBehind n →
      compared v None (node_diagram at n) ≡ root_edges (Some n) v ++ compared v None (at (chosen n v))
  unfolding answer
  compared_node (Versions key first later) v behind =
      let of = versions_key key in
      compared_chain of at (version_rank key ∷ []) (λ b. refl) v None
      (begins of at (version_rank key ∷ []) (λ b. refl) v) first later behind
      ∙ ap (λ e. e ++ compared v None (at (branch_at version_cmp first later (v.version key))))
      (no_edges of at (version_rank key ∷ []) (λ b. refl) (λ b. refl) [] refl later (v.version key))
  compared_node (Texts key first later) v behind =
      let of = texts_key key in
      compared_chain of at (text_rank key ∷ []) (λ b. refl) v None
      (begins of at (text_rank key ∷ []) (λ b. refl) v) first later behind
      ∙ ap (λ e. e ++ compared v None (at (branch_at text_cmp first later (v.text key))))
      (text_edges_are key at [] later (v.text key))
  compared_node (Flagged flag set unset) v behind =
      either (v.flag flag) (compared_anew v (IsSet flag) (at unset) behind.1)
    where
      either : (b : Bool) → compared v (Some (IsSet flag)) (at unset) ≡ compared v None (at unset) →
          cond b (compared v None (at set)) (compared v (Some (IsSet flag)) (at unset))
          ≡ compared v None (at (cond b set unset))
      either true e = refl
      either false e = e
