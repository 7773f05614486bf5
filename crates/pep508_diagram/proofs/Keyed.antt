-- Branches between the places of one variable as diagrams: their truth, that they are canonical, and when two
-- are one.
use Rattle.std.proofs.Common.{◌≡◌, inl, inr, true, false, not, List, [], ◌∷◌, refl, sym, ap, subst, ◌∙◌}
use Rattle.std.proofs.Common.{true≢false}
use Rattle.std.proofs.lemmas.Bool.{cases_Bool}
use Rattle.std.specs.declared.cmp.Ordering.{Ordering}
use Rattle.version_ranges.specs.declared.boundary.Boundary.{Boundary}
use Rattle.version_ranges.specs.Point.{Point, point_cmp}
use Rattle.version_ranges.specs.Boundaries.{point_of, boundary_cmp}
use Rattle.version_ranges.specs.Turns.{reaches}
use Rattle.pep508_diagram.specs.declared.branch.Branch.{Branch}
use Rattle.pep508_diagram.specs.Branches.{RisingBranches, branch_at, AllBranches}
use Rattle.pep508_diagram.specs.Chains.{chain}
use Rattle.pep508_diagram.specs.Diagram.{Diagram, Leaf, Test, Asking, IsAsking, truth_by, IsAlike, RootAbove}
use Rattle.pep508_diagram.specs.Diagram.{RootAfter, front_by, IsCanonicalBy}
use Rattle.pep508_diagram.specs.Question.{lies_below}
use Rattle.pep508_diagram.specs.Children.{NeighboursApart, AreSameBranches}
use Rattle.pep508_diagram.proofs.Moved.{after_above}

-- the questions of one variable, one at each boundary, that are answered by where the variable lies
pub record IsKey {T Q V : Type 0} (ask : Asking Q V) (cmp : T → T → Ordering) (of : Boundary T → Q)
    (point : V → Point T) : Type 0 where
  pub order : (b c : Boundary T) → ask.cmp (of b) (of c) ≡ boundary_cmp cmp b c
  pub shared : (b c : Boundary T) → ask.shares (of b) (of c) ≡ true
  pub answers : (v : V) (b : Boundary T) → ask.answer v (of b) ≡ lies_below cmp (point v) b

module _ {T C Q V : Type 0} {ask : Asking Q V} (cmp : T → T → Ordering) {of : Boundary T → Q}
    {point : V → Point T}
    (key : IsKey ask cmp of point) (at : C → Diagram Q) where
  -- a chain says what stands where the variable lies
  pub truth_chain : (first : C) (later : List (Branch T C)) (v : V) →
      truth_by ask (chain of at first later) v ≡ truth_by ask (at (branch_at cmp first later (point v))) v
  truth_chain first [] v = refl
  truth_chain first (branch ∷ later) v =
      elim (cases_Bool (reaches (point_cmp cmp) (point_of branch.boundary) (point v))) [
        | inl up ↦
            let over : ask.answer v (of branch.boundary) ≡ false =
            key.answers v branch.boundary ∙ ap not up in
            rw (over, up) (truth_chain branch.child later v)
        | inr over ↦
            let below : ask.answer v (of branch.boundary) ≡ true =
            key.answers v branch.boundary ∙ ap not over in
            rw (below, over) refl
      ]

-- a diagram that asks first of a variable behind that of all the questions
abbrev pub IsAboveAll : {T Q V : Type 0} → Asking Q V → (Boundary T → Q) → Diagram Q → Type 0
IsAboveAll {T} ask of d = (b : Boundary T) → RootAbove ask (of b) d

module _ {Q V : Type 0} (ask : Asking Q V) where
  -- a diagram that does not ask of the question's variable is its own front
  pub front_above : (q : Q) (d : Diagram Q) → RootAbove ask q d → front_by ask q d ≡ d
  front_above q (Leaf b) above = refl
  front_above q (Test r low high) above = rw above.1 refl

  -- a question about a variable and a diagram behind it
  pub canonical_test : IsAsking ask → (q : Q) (low high : Diagram Q) → IsCanonicalBy ask low →
      IsCanonicalBy ask high →
      RootAbove ask q low → RootAbove ask q high → (IsAlike ask low high → ⊥) →
      IsCanonicalBy ask (Test q low high)
  canonical_test laws q low high c d above above_high apart = (
    c,
    d,
    above,
    after_above laws q high above_high,
    λ a. apart (subst (IsAlike ask low) (front_above q high above_high) a),
  )

module _ {T C Q V : Type 0} {ask : Asking Q V} (laws : IsAsking ask) (cmp : T → T → Ordering)
    {of : Boundary T → Q}
    {point : V → Point T} (key : IsKey ask cmp of point) (at : C → Diagram Q) where
  -- a chain's front is its first diagram
  pub front_chain : (b : Boundary T) (first : C) (later : List (Branch T C)) → IsAboveAll ask of (at first) →
      front_by ask (of b) (chain of at first later) ≡ at first
  front_chain b first [] above = front_above ask (of b) (at first) (above b)
  front_chain b first (branch ∷ later) above = rw (key.shared b branch.boundary) refl

  pub chain_after : (b : Boundary T) (first : C) (later : List (Branch T C)) → IsAboveAll ask of (at first) →
      (first_boundary : RisingBranches cmp (record { boundary = b; child = first } ∷ later)) →
      RootAfter ask (of b) (chain of at first later)
  chain_after b first [] above rising = after_above laws (of b) (at first) (above b)
  chain_after b first (branch ∷ later) above rising = key.order b branch.boundary ∙ rising.0.0

  -- rising branches of canonical diagrams, neighbours of which differ, are a canonical diagram
  pub canonical_chain : (first : C) (later : List (Branch T C)) → RisingBranches cmp later →
      AllBranches (λ c. IsCanonicalBy ask (at c)) first later →
      AllBranches (λ c. IsAboveAll ask of (at c)) first later →
      NeighboursApart ask at first later → IsCanonicalBy ask (chain of at first later)
  canonical_chain first [] rising canonical above apart = canonical
  canonical_chain first (branch ∷ later) rising canonical above apart = (
    canonical.0,
    canonical_chain branch.child later rising.1 canonical.1 above.1 apart.1,
    above.0 branch.boundary,
    chain_after branch.boundary branch.child later (first_above branch.child later above.1) rising,
    λ a. apart.0 (subst (IsAlike ask (at first))
        (front_chain branch.boundary branch.child later (first_above branch.child later above.1)) a),
  )
    where
      first_above : (c : C) (cs : List (Branch T C)) → AllBranches (λ d. IsAboveAll ask of (at d)) c cs →
          IsAboveAll ask of (at c)
      first_above c [] all = all
      first_above c (b ∷ cs) all = all.0

  -- no question of the key stands first in a diagram behind it
  root_apart : (b : Boundary T) (d low high : Diagram Q) → RootAbove ask (of b) d →
      IsAlike ask d (Test (of b) low high) → ⊥
  root_apart b (Leaf c) low high above a = a
  root_apart b (Test r m k) low high above a =
      true≢false (sym (laws.equal_share r (of b) a.0) ∙ laws.shares_turned r (of b) ∙ above.1)

  root_apart_back : (b : Boundary T) (d low high : Diagram Q) → RootAbove ask (of b) d →
      IsAlike ask (Test (of b) low high) d → ⊥
  root_apart_back b (Leaf c) low high above a = a
  root_apart_back b (Test r m k) low high above a = true≢false (sym (laws.equal_share (of b) r a.0) ∙ above.1)

  -- chains of one key that are one have the same branches
  pub chain_one : (first : C) (later : List (Branch T C)) (other_first : C)
      (other_later : List (Branch T C)) →
      AllBranches (λ c. IsAboveAll ask of (at c)) first later →
      AllBranches (λ c. IsAboveAll ask of (at c)) other_first other_later →
      IsAlike ask (chain of at first later) (chain of at other_first other_later) →
      AreSameBranches ask at cmp first later other_first other_later
  chain_one first [] other_first [] above other_above a = a
  chain_one first [] other_first (other ∷ other_later) above other_above a =
      root_apart other.boundary (at first) (at other_first) (chain of at other.child other_later)
      (above other.boundary) a
  chain_one first (branch ∷ later) other_first [] above other_above a =
      root_apart_back branch.boundary (at other_first) (at first) (chain of at branch.child later)
      (other_above branch.boundary) a
  chain_one first (branch ∷ later) other_first (other ∷ other_later) above other_above a = (
    a.1,
    sym (key.order branch.boundary other.boundary) ∙ a.0,
    chain_one branch.child later other.child other_later above.1 other_above.1 a.2,
  )
