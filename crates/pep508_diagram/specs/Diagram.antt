-- Decision diagrams: a leaf, or a question with the diagrams for yes and for no. The questions are ordered,
-- those of one variable are neighbours; a variable is tested against one place, then against a later one,
-- and so on.
use Rattle.std.specs.Prelude.{◌≡◌, Bool, true, false, cond}
use Rattle.std.specs.Ordering.{is_lt}
use Rattle.std.specs.Cmp.{IsTotalOrder}
use Rattle.std.specs.declared.cmp.Ordering.{Ordering}
use Rattle.std.specs.declared.cmp.Ordering.TheVariants.{Less, Equal}
use Rattle.version_ranges.specs.Turns.{flips}

-- a diagram; the first branch is for yes
pub data Diagram (Q : Type 0) : Type 0 where
  Leaf : Bool → Diagram Q
  Test : Q → Diagram Q → Diagram Q → Diagram Q

-- how a valuation of the variables answers questions: the order of questions, and which two are about one
-- variable
pub record Asking (Q V : Type 0) : Type 0 where
  pub cmp : Q → Q → Ordering
  pub shares : Q → Q → Bool
  pub answer : V → Q → Bool
  -- the valuation with a question's variable below all of its places
  pub below_all : V → Q → V
  -- the valuation with a question's variable just where the answer to the question begins to be no
  pub at_place : V → Q → V

-- the laws of questions: those of one variable are neighbours in the order, each variable can be moved by
-- itself, and one that lies below a place lies below all later ones
pub record IsAsking {Q V : Type 0} (ask : Asking Q V) : Type 0 where
  pub total : IsTotalOrder ask.cmp
  pub equal_share : (q r : Q) → ask.cmp q r ≡ Equal → ask.shares q r ≡ true
  pub shares_turned : (q r : Q) → ask.shares q r ≡ ask.shares r q
  pub shares_on : (q r s : Q) → ask.shares q r ≡ true → ask.shares q s ≡ ask.shares r s
  pub apart : (q r s : Q) → ask.cmp q r ≡ Less → ask.shares q r ≡ false → ask.cmp r s ≡ Less →
      ask.shares q s ≡ false
  pub answers_equal : (v : V) (q r : Q) → ask.cmp q r ≡ Equal → ask.answer v q ≡ ask.answer v r
  pub below_later : (v : V) (q r : Q) → ask.shares q r ≡ true → ask.cmp q r ≡ Less →
      ask.answer v q ≡ true → ask.answer v r ≡ true
  pub moved_below : (v : V) (q r : Q) →
      ask.answer (ask.below_all v q) r ≡ cond (ask.shares q r) true (ask.answer v r)
  pub moved_at : (v : V) (q r : Q) →
      ask.answer (ask.at_place v q) r ≡ cond (ask.shares q r) (is_lt (ask.cmp q r)) (ask.answer v r)

module _ {Q V : Type 0} (ask : Asking Q V) where
  -- the truth of a diagram under a valuation
  abbrev pub truth_by : Diagram Q → V → Bool
  truth_by (Leaf b) v = b
  truth_by (Test q low high) v = cond (ask.answer v q) (truth_by low v) (truth_by high v)

  -- the diagrams are identical, up to the order's equality of questions
  abbrev pub IsAlike : Diagram Q → Diagram Q → Type 0
  IsAlike (Leaf b) (Leaf c) = b ≡ c
  IsAlike (Leaf b) (Test r low high) = ⊥
  IsAlike (Test q low high) (Leaf c) = ⊥
  IsAlike (Test q low high) (Test r other_low other_high) =
      (ask.cmp q r ≡ Equal) × IsAlike low other_low × IsAlike high other_high

  -- a diagram first tests a variable after that of the question
  abbrev pub RootAbove : Q → Diagram Q → Type 0
  RootAbove q (Leaf b) = Unit {0}
  RootAbove q (Test r low high) = (ask.cmp q r ≡ Less) × (ask.shares q r ≡ false)

  -- a diagram first tests something after the question
  abbrev pub RootAfter : Q → Diagram Q → Type 0
  RootAfter q (Leaf b) = Unit {0}
  RootAfter q (Test r low high) = ask.cmp q r ≡ Less

  -- the diagram where the question's variable lies below all places that it is tested against
  abbrev pub front_by : Q → Diagram Q → Diagram Q
  front_by q (Leaf b) = Leaf b
  front_by q (Test r low high) = cond (ask.shares q r) low (Test r low high)

  -- the questions rise along each path, and none is needless
  abbrev pub IsCanonicalBy : Diagram Q → Type 0
  IsCanonicalBy (Leaf b) = Unit {0}
  IsCanonicalBy (Test q low high) =
      IsCanonicalBy low × IsCanonicalBy high × RootAbove q low × RootAfter q high
      × (IsAlike low (front_by q high) → ⊥)

  -- canonical diagrams with one truth under every valuation are identical, up to the order's equality of
  -- questions
  abbrev pub OneDiagramBy : Type 0
  OneDiagramBy = (d e : Diagram Q) → IsCanonicalBy d → IsCanonicalBy e →
      ((v : V) → truth_by d v ≡ truth_by e v) → IsAlike d e

-- the diagram with each leaf negated, where the flag is set
abbrev pub turned_by : {Q : Type 0} → Bool → Diagram Q → Diagram Q
turned_by turned (Leaf b) = Leaf (flips turned b)
turned_by turned (Test q low high) = Test q (turned_by turned low) (turned_by turned high)

-- the leaf that is reached where the answer to each question is yes
abbrev pub leftmost : {Q : Type 0} → Diagram Q → Bool
leftmost (Leaf b) = b
leftmost (Test q low high) = leftmost low
