-- The walk through a chain of questions of one key: its edges are the branches between the boundaries.
use Rattle.std.proofs.Common.{◌≡◌, ℕ, ◌+◌, ◌==◌, true, false, cond, List, [], ◌∷◌, map, inl, inr, refl, sym}
use Rattle.std.proofs.Common.{ap, ◌∙◌, true≢false}
use Rattle.std.proofs.lemmas.Bool.{cases_Bool}
use Rattle.std.specs.Cmp.{unsigned_Decides}
use Rattle.std.specs.declared.cmp.Ordering.TheVariants.{Less, Equal}
use Rattle.version_ranges.specs.declared.boundary.Boundary.{Boundary}
use Rattle.pep440_text.specs.Record.{VersionRecord}
use Rattle.pep508_marker.specs.declared.keys.MarkerValueString.{MarkerValueString}
use Rattle.pep508_marker.specs.Keys.{text_key_rank}
use Rattle.pep508_diagram.specs.declared.branch.Branch.{Branch}
use Rattle.pep508_diagram.specs.declared.variable.VersionVariable.{VersionVariable}
use Rattle.pep508_diagram.specs.Branches.{AllBranches}
use Rattle.pep508_diagram.specs.Chains.{chain}
use Rattle.pep508_diagram.specs.Children.{RootBehind}
use Rattle.pep508_diagram.specs.Diagram.{Diagram, Leaf, Test}
use Rattle.pep508_diagram.specs.Question.{Question, VersionBelow, TextBelow, IsSet, version_rank, text_rank}
use Rattle.pep508_diagram.specs.Text.{text_cmp}
use Rattle.pep508_marker_text_laws.specs.Clauses.{Part, Versions, Texts, versions_from, texts_from, walk_of}
use Rattle.pep508_marker_text_laws.specs.Clauses.{clauses_of, edge_clauses, grouped_clauses}
use Rattle.pep508_marker_text_laws.specs.Terms.{version_saying, text_saying}
use Rattle.pep508_tree.proofs.OneNode.{tied_places}
use Rattle.pep508_marker_display.proofs.Natural.{shown_branch}

-- a number is not below itself
tied_number : (n : ℕ) → text_cmp (n ∷ []) (n ∷ []) ≡ Equal
tied_number n = tied_places (n ∷ [])

same_number : (n : ℕ) → (n == n) ≡ true
same_number n = (unsigned_Decides n n).1 refl

less_apart : (m n : ℕ) → text_cmp (m ∷ []) (n ∷ []) ≡ Less → (m == n) ≡ false
less_apart m n less = elim (cases_Bool (m == n)) [
  | inl e ↦
      absurd (less_equal (sym less
      ∙ ap (λ k. text_cmp (m ∷ []) (k ∷ [])) (sym ((unsigned_Decides m n).0 e)) ∙ tied_number m))
  | inr apart ↦ apart
]
  where
    less_equal : Less ≡ Equal → ⊥
    less_equal e = absurd (cc)

abbrev pub part_of : Diagram Question → Part
part_of diagram = (walk_of diagram).part

module _ {C : Type 0} (at : C → Diagram Question) where
  abbrev shown : C → Part
  shown c = part_of (at c)

  module _ (key : VersionVariable) where
    -- what asks of later variables alone is what stands from a boundary on
    version_ends : (b : Boundary VersionRecord) (d : Diagram Question) → RootBehind (version_rank key ∷ []) d →
        versions_from key b (walk_of d) (walk_of d).edges ≡ record { boundary = b; child = part_of d } ∷ []
    version_ends b (Leaf t) behind = refl
    version_ends b (Test (VersionBelow other c) low high) behind =
        let walk = walk_of (Test (VersionBelow other c) low high) in
        ap (λ one. cond one
        (record { boundary = b; child = part_of low } ∷ versions_from other c (walk_of high) (walk_of high).edges)
        (record { boundary = b; child = walk.part } ∷ [])) (less_apart (version_rank key) (version_rank other) behind)
    version_ends b (Test (TextBelow other c) low high) behind = refl
    version_ends b (Test (IsSet flag) low high) behind = refl

    version_edges : (first : C) (branch : Branch VersionRecord C) (later : List (Branch VersionRecord C)) →
        AllBranches (λ c. RootBehind (version_rank key ∷ []) (at c)) first (branch ∷ later) →
        (walk_of (chain (VersionBelow key) at first (branch ∷ later))).edges
        ≡ Versions key (shown first) (map (shown_branch shown) (branch ∷ later))
    version_edges first branch [] behind = ap (Versions key (shown first)) (version_ends branch.boundary (at branch.child) behind.1)
    version_edges first branch (next ∷ later) behind =
        let walk = walk_of (chain (VersionBelow key) at branch.child (next ∷ later)) in
        ap (Versions key (shown first))
        (ap (versions_from key branch.boundary walk) (version_edges branch.child next later behind.1)
        ∙ ap (λ one. cond one
        (record { boundary = branch.boundary; child = shown branch.child } ∷ map (shown_branch shown) (next ∷ later))
        (record { boundary = branch.boundary; child = walk.part } ∷ [])) (same_number (version_rank key)))

    pub version_clauses : (first : C) (later : List (Branch VersionRecord C)) → (later ≡ [] → ⊥) →
        AllBranches (λ c. RootBehind (version_rank key ∷ []) (at c)) first later →
        clauses_of (chain (VersionBelow key) at first later)
        ≡ grouped_clauses (version_saying key) (shown first) (map (shown_branch shown) later)
    version_clauses first [] some behind = absurd (some refl)
    version_clauses first (branch ∷ later) some behind = ap edge_clauses (version_edges first branch later behind)

  module _ (key : MarkerValueString) where
    text_ends : (b : Boundary (List ℕ)) (d : Diagram Question) → RootBehind (text_rank key ∷ []) d →
        texts_from key b (walk_of d) (walk_of d).edges ≡ record { boundary = b; child = part_of d } ∷ []
    text_ends b (Leaf t) behind = refl
    text_ends b (Test (VersionBelow other c) low high) behind = refl
    text_ends b (Test (TextBelow other c) low high) behind =
        let walk = walk_of (Test (TextBelow other c) low high) in
        ap (λ one. cond one
        (record { boundary = b; child = part_of low } ∷ texts_from other c (walk_of high) (walk_of high).edges)
        (record { boundary = b; child = walk.part } ∷ [])) (keys_apart (text_key_rank key) (text_key_rank other) behind)
      where
        keys_apart : (m n : ℕ) → text_cmp ((2 + m) ∷ []) ((2 + n) ∷ []) ≡ Less → (m == n) ≡ false
        keys_apart m n less = elim (cases_Bool (m == n)) [
          | inl e ↦
              absurd (true≢false (sym (same_number (2 + m))
              ∙ ap (λ k. (2 + m) == (2 + k)) ((unsigned_Decides m n).0 e) ∙ less_apart (2 + m) (2 + n) less))
          | inr apart ↦ apart
        ]
    text_ends b (Test (IsSet flag) low high) behind = refl

    text_edges : (first : C) (branch : Branch (List ℕ) C) (later : List (Branch (List ℕ) C)) →
        AllBranches (λ c. RootBehind (text_rank key ∷ []) (at c)) first (branch ∷ later) →
        (walk_of (chain (TextBelow key) at first (branch ∷ later))).edges
        ≡ Texts key (shown first) (map (shown_branch shown) (branch ∷ later))
    text_edges first branch [] behind = ap (Texts key (shown first)) (text_ends branch.boundary (at branch.child) behind.1)
    text_edges first branch (next ∷ later) behind =
        let walk = walk_of (chain (TextBelow key) at branch.child (next ∷ later)) in
        ap (Texts key (shown first))
        (ap (texts_from key branch.boundary walk) (text_edges branch.child next later behind.1)
        ∙ ap (λ one. cond one
        (record { boundary = branch.boundary; child = shown branch.child } ∷ map (shown_branch shown) (next ∷ later))
        (record { boundary = branch.boundary; child = walk.part } ∷ [])) (same_number (text_key_rank key)))

    pub text_clauses : (first : C) (later : List (Branch (List ℕ) C)) → (later ≡ [] → ⊥) →
        AllBranches (λ c. RootBehind (text_rank key ∷ []) (at c)) first later →
        clauses_of (chain (TextBelow key) at first later)
        ≡ grouped_clauses (text_saying key) (shown first) (map (shown_branch shown) later)
    text_clauses first [] some behind = absurd (some refl)
    text_clauses first (branch ∷ later) some behind = ap edge_clauses (text_edges first branch later behind)
