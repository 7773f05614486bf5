-- What a canonical diagram says where one variable was moved.
use Rattle.std.proofs.Common.{◌≡◌, true, false, cond, inl, inr, refl, ap, ◌∙◌, Less, Equal, is_lt}
use Rattle.std.proofs.lemmas.Bool.{cases_Bool}
use Rattle.pep508_diagram.specs.Diagram.{Diagram, Leaf, Test, Asking, IsAsking, truth_by, RootAbove}
use Rattle.pep508_diagram.specs.Diagram.{RootAfter, front_by, IsCanonicalBy}

module _ {Q V : Type 0} (ask : Asking Q V) where
  -- the valuations differ in the question's variable at most
  abbrev pub DiffersAt : Q → V → V → Type 0
  DiffersAt q v w = (r : Q) → ask.shares q r ≡ false → ask.answer w r ≡ ask.answer v r

  -- the question's variable lies below all of its later places
  abbrev pub IsBelowLater : Q → V → Type 0
  IsBelowLater q w = (r : Q) → ask.shares q r ≡ true → ask.cmp q r ≡ Less → ask.answer w r ≡ true

module _ {Q V : Type 0} {ask : Asking Q V} (laws : IsAsking ask) where
  pub above_on : (q r : Q) (d : Diagram Q) → ask.cmp q r ≡ Less → ask.shares q r ≡ false →
      RootAfter ask r d → RootAbove ask q d
  above_on q r (Leaf b) less free after = tt
  above_on q r (Test s l h) less free after =
      (laws.total.trans q r s less after, laws.apart q r s less free after)

  pub above_shared : (q r : Q) (d : Diagram Q) → ask.cmp q r ≡ Less → ask.shares q r ≡ true →
      RootAbove ask r d → RootAbove ask q d
  above_shared q r (Leaf b) less shared above = tt
  above_shared q r (Test s l h) less shared above =
      (laws.total.trans q r s less above.0, laws.shares_on q r s shared ∙ above.1)

  pub after_above : (q : Q) (d : Diagram Q) → RootAbove ask q d → RootAfter ask q d
  after_above q (Leaf b) above = tt
  after_above q (Test r l h) above = above.0

  -- a diagram whose variables lie behind that of the question does not look at it
  pub skip : (d : Diagram Q) (q : Q) (v w : V) → DiffersAt ask q v w → IsCanonicalBy ask d →
      RootAbove ask q d → truth_by ask d w ≡ truth_by ask d v
  skip (Leaf b) q v w same c above = refl
  skip (Test r l h) q v w same c above =
      let low : truth_by ask l w ≡ truth_by ask l v =
      skip l q v w same c.0 (above_on q r l above.0 above.1 (after_above r l c.2)) in
      let high : truth_by ask h w ≡ truth_by ask h v =
      skip h q v w same c.1 (above_on q r h above.0 above.1 c.3) in
      rw (same r above.1, low, high) refl

  -- below the places that it asks for, a diagram is its front
  pub at_front : (d : Diagram Q) (q : Q) (v w : V) → DiffersAt ask q v w → IsBelowLater ask q w →
      IsCanonicalBy ask d → RootAfter ask q d → truth_by ask d w ≡ truth_by ask (front_by ask q d) v
  at_front (Leaf b) q v w same below c after = refl
  at_front (Test r l h) q v w same below c after = elim (cases_Bool (ask.shares q r)) [
    | inl shared ↦
        rw (shared, below r shared after) (skip l q v w same c.0 (above_shared q r l after shared c.2))
    | inr free ↦ rw free (skip (Test r l h) q v w same c (after, free))
  ]

  pub below_differs : (q : Q) (v : V) → DiffersAt ask q v (ask.below_all v q)
  below_differs q v r free = laws.moved_below v q r ∙ ap (λ b. cond b true (ask.answer v r)) free

  pub at_differs : (q : Q) (v : V) → DiffersAt ask q v (ask.at_place v q)
  at_differs q v r free = laws.moved_at v q r ∙ ap (λ b. cond b (is_lt (ask.cmp q r)) (ask.answer v r)) free

  pub at_answer : (q r : Q) (v : V) → ask.shares q r ≡ true →
      ask.answer (ask.at_place v q) r ≡ is_lt (ask.cmp q r)
  at_answer q r v shared =
      laws.moved_at v q r ∙ ap (λ b. cond b (is_lt (ask.cmp q r)) (ask.answer v r)) shared

  pub at_below : (q : Q) (v : V) → IsBelowLater ask q (ask.at_place v q)
  at_below q v r shared less = at_answer q r v shared ∙ ap is_lt less

  -- where the question is answered by yes, a diagram that stands behind it is its front
  pub front_where_yes : (d : Diagram Q) (q : Q) (v : V) → ask.answer v q ≡ true → IsCanonicalBy ask d →
      RootAfter ask q d → truth_by ask d v ≡ truth_by ask (front_by ask q d) v
  front_where_yes d q v below c after =
      at_front d q v v (λ r free. refl) (λ r shared less. laws.below_later v q r shared less below) c after

  pub skip_below : (d : Diagram Q) (q : Q) (v : V) → IsCanonicalBy ask d → RootAbove ask q d →
      truth_by ask d (ask.below_all v q) ≡ truth_by ask d v
  skip_below d q v c above = skip d q v (ask.below_all v q) (below_differs q v) c above

  pub skip_at : (d : Diagram Q) (q : Q) (v : V) → IsCanonicalBy ask d → RootAbove ask q d →
      truth_by ask d (ask.at_place v q) ≡ truth_by ask d v
  skip_at d q v c above = skip d q v (ask.at_place v q) (at_differs q v) c above

  -- below all places the first branch speaks
  pub at_low : (q r : Q) (l h : Diagram Q) (v : V) → ask.shares q r ≡ true → IsCanonicalBy ask l →
      RootAbove ask q l → truth_by ask (Test r l h) (ask.below_all v q) ≡ truth_by ask l v
  at_low q r l h v shared c above =
      let test : ask.answer (ask.below_all v q) r ≡ true =
      laws.moved_below v q r ∙ ap (λ b. cond b true (ask.answer v r)) shared in
      rw test (skip_below l q v c above)

  -- at an equal question's place the front of the second branch speaks
  pub at_high : (q r : Q) (l h : Diagram Q) (v : V) → ask.cmp q r ≡ Equal → IsCanonicalBy ask h →
      RootAfter ask q h → truth_by ask (Test r l h) (ask.at_place v q) ≡ truth_by ask (front_by ask q h) v
  at_high q r l h v same c after =
      let test : ask.answer (ask.at_place v q) r ≡ false =
      at_answer q r v (laws.equal_share q r same) ∙ ap is_lt same in
      rw test (at_front h q v (ask.at_place v q) (at_differs q v) (at_below q v) c after)

  -- at an earlier place of the variable the first branch speaks
  pub at_between : (q r : Q) (l h : Diagram Q) (v : V) → ask.shares q r ≡ true → ask.cmp q r ≡ Less →
      IsCanonicalBy ask l → RootAbove ask q l →
      truth_by ask (Test r l h) (ask.at_place v q) ≡ truth_by ask l v
  at_between q r l h v shared less c above =
      rw (at_below q v r shared less) (skip_at l q v c above)
