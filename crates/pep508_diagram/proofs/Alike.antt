-- To be one diagram up to equal questions is an equivalence, which truth, fronts and canonicity respect.
use Rattle.std.proofs.Common.{◌≡◌, true, false, ◌⊎◌, inl, inr, refl, sym, ◌∙◌, Ordering, Less, Equal, Greater}
use Rattle.std.proofs.lemmas.Cmp.{tied_itself, tied_back}
use Rattle.std.proofs.lemmas.Bool.{cases_Bool}
use Rattle.pep508_diagram.specs.Diagram.{Diagram, Leaf, Test, Asking, IsAsking, truth_by, IsAlike, RootAbove}
use Rattle.pep508_diagram.specs.Diagram.{RootAfter, front_by}

pub three_ways : (o : Ordering) → (o ≡ Less) ⊎ ((o ≡ Equal) ⊎ (o ≡ Greater))
three_ways Less = inl refl
three_ways Equal = inr (inl refl)
three_ways Greater = inr (inr refl)

module _ {Q V : Type 0} {ask : Asking Q V} (laws : IsAsking ask) where
  pub alike_itself : (d : Diagram Q) → IsAlike ask d d
  alike_itself (Leaf b) = refl
  alike_itself (Test q low high) = (tied_itself laws.total q, alike_itself low, alike_itself high)

  pub alike_back : (d e : Diagram Q) → IsAlike ask d e → IsAlike ask e d
  alike_back (Leaf b) (Leaf c) a = sym a
  alike_back (Leaf b) (Test r m k) a = a
  alike_back (Test q l h) (Leaf c) a = a
  alike_back (Test q l h) (Test r m k) a =
      (tied_back laws.total q r a.0, alike_back l m a.1, alike_back h k a.2)

  pub alike_on : (d e f : Diagram Q) → IsAlike ask d e → IsAlike ask e f → IsAlike ask d f
  alike_on (Leaf b) (Leaf c) (Leaf a) s t = s ∙ t
  alike_on (Leaf b) (Leaf c) (Test p i j) s t = t
  alike_on (Leaf b) (Test r m k) f s t = absurd s
  alike_on (Test q l h) (Leaf c) f s t = absurd s
  alike_on (Test q l h) (Test r m k) (Leaf a) s t = t
  alike_on (Test q l h) (Test r m k) (Test p i j) s t =
      (laws.total.congr q r p s.0 ∙ t.0, alike_on l m i s.1 t.1, alike_on h k j s.2 t.2)

  pub alike_truth : (d e : Diagram Q) → IsAlike ask d e → (v : V) → truth_by ask d v ≡ truth_by ask e v
  alike_truth (Leaf b) (Leaf c) a v = a
  alike_truth (Leaf b) (Test r m k) a v = absurd a
  alike_truth (Test q l h) (Leaf c) a v = absurd a
  alike_truth (Test q l h) (Test r m k) a v =
      let low : truth_by ask l v ≡ truth_by ask m v = alike_truth l m a.1 v in
      let high : truth_by ask h v ≡ truth_by ask k v = alike_truth h k a.2 v in
      rw (laws.answers_equal v q r a.0, low, high) refl

  -- equal questions share with the same
  pub shares_equal : (q r s : Q) → ask.cmp r s ≡ Equal → ask.shares q r ≡ ask.shares q s
  shares_equal q r s e =
      laws.shares_turned q r ∙ laws.shares_on r s q (laws.equal_share r s e) ∙ laws.shares_turned s q

  pub alike_front : (q : Q) (d e : Diagram Q) → IsAlike ask d e →
      IsAlike ask (front_by ask q d) (front_by ask q e)
  alike_front q (Leaf b) (Leaf c) a = a
  alike_front q (Leaf b) (Test r m k) a = absurd a
  alike_front q (Test p l h) (Leaf c) a = absurd a
  alike_front q (Test p l h) (Test r m k) a = elim (cases_Bool (ask.shares q r)) [
    | inl shared ↦ let too : ask.shares q p ≡ true = shares_equal q p r a.0 ∙ shared in rw (too, shared) a.1
    | inr free ↦ let too : ask.shares q p ≡ false = shares_equal q p r a.0 ∙ free in rw (too, free) a
  ]

  pub after_equal : (q r : Q) (d : Diagram Q) → ask.cmp q r ≡ Equal → RootAfter ask r d → RootAfter ask q d
  after_equal q r (Leaf b) e after = tt
  after_equal q r (Test s l h) e after = laws.total.congr q r s e ∙ after

  pub above_equal : (q r : Q) (d : Diagram Q) → ask.cmp q r ≡ Equal → RootAbove ask r d → RootAbove ask q d
  above_equal q r (Leaf b) e above = tt
  above_equal q r (Test s l h) e above =
      (laws.total.congr q r s e ∙ above.0, laws.shares_on q r s (laws.equal_share q r e) ∙ above.1)
