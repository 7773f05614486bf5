-- Canonical diagrams of one meaning are one diagram.
use Rattle.std.proofs.Common.{◌≡◌, ◌↔◌, ℕ, ◌+◌, ◌≤◌, ◌<◌, zero, suc, true, false, cond, inl, inr, refl, sym}
use Rattle.std.proofs.Common.{◌∙◌, Less, Equal, arith}
use Rattle.std.proofs.lemmas.Bool.{cases_Bool}
use Rattle.std.proofs.lemmas.Cmp.{tied_itself}
use Rattle.pep508_diagram.specs.Diagram.{Diagram, Leaf, Test, Asking, IsAsking, OneDiagramBy, truth_by}
use Rattle.pep508_diagram.specs.Diagram.{IsAlike, RootAbove, RootAfter, front_by, IsCanonicalBy}
use Rattle.pep508_diagram.proofs.Alike.{three_ways, alike_truth, alike_back, alike_on, after_equal}
use Rattle.pep508_diagram.proofs.Alike.{above_equal}
use Rattle.pep508_diagram.proofs.Moved.{skip_below, skip_at, front_where_yes, at_low, at_high, at_between}
use Rattle.pep508_diagram.proofs.Moved.{above_shared}

pub size : {Q : Type 0} → Diagram Q → ℕ
size (Leaf b) = 1
size (Test q l h) = 1 + (size l + size h)

pub size_positive : {Q : Type 0} (d : Diagram Q) → 0 < size d
unfolding size
size_positive (Leaf b) = omega arith
size_positive (Test q l h) = omega arith

pub size_low : {Q : Type 0} (q : Q) (l h : Diagram Q) → size l < size (Test q l h)
unfolding size
size_low q l h = omega arith

pub size_high : {Q : Type 0} (q : Q) (l h : Diagram Q) → size h < size (Test q l h)
unfolding size
size_high q l h = omega arith

module _ {Q V : Type 0} {ask : Asking Q V} (laws : IsAsking ask) where
  pub size_front : (q : Q) (d : Diagram Q) → size (front_by ask q d) ≤ size d
  size_front q (Leaf b) = omega arith
  size_front q (Test r l h) =
      elim (ask.shares q r) as (λ b. size (cond b l (Test r l h)) ≤ size (Test r l h)) [
        | true ↦ omega (arith, size_low r l h)
        | false ↦ omega arith
      ]

  pub front_canonical : (q : Q) (d : Diagram Q) → IsCanonicalBy ask d → IsCanonicalBy ask (front_by ask q d)
  front_canonical q (Leaf b) c = tt
  front_canonical q (Test r l h) c =
      elim (ask.shares q r) as (λ b. IsCanonicalBy ask (cond b l (Test r l h))) [ true ↦ c.0 | false ↦ c ]

  abbrev pub Agree : Diagram Q → Diagram Q → Type 0
  Agree d e = (v : V) → truth_by ask d v ≡ truth_by ask e v

  -- the law for diagrams that are together no larger
  abbrev pub UpTo : ℕ → Type 0
  UpTo n = (d e : Diagram Q) → size d + size e ≤ n → IsCanonicalBy ask d → IsCanonicalBy ask e → Agree d e →
      IsAlike ask d e

  module _ (n : ℕ) (smaller : UpTo n) (q : Q) (l h : Diagram Q) (c : IsCanonicalBy ask (Test q l h)) where
    -- both branches would be the diagram
    pub no_such : (d : Diagram Q) → size l + size d ≤ n → size h + size d ≤ n → IsCanonicalBy ask d →
        Agree l d → Agree (front_by ask q h) d → ⊥
    no_such d left right cd low high =
        let first : IsAlike ask l d = smaller l d left c.0 cd low in
        let second : IsAlike ask (front_by ask q h) d =
        smaller (front_by ask q h) d (omega (arith, size_front q h)) (front_canonical q h c.1) cd high in
        c.4 (alike_on laws l d (front_by ask q h) first (alike_back laws (front_by ask q h) d second))

    pub low_is : (v : V) → truth_by ask (Test q l h) (ask.below_all v q) ≡ truth_by ask l v
    low_is v = at_low laws q q l h v (laws.equal_share q q (tied_itself laws.total q)) c.0 c.2

    pub high_is : (v : V) → truth_by ask (Test q l h) (ask.at_place v q) ≡ truth_by ask (front_by ask q h) v
    high_is v = at_high laws q q l h v (tied_itself laws.total q) c.1 c.3

    -- a diagram that does not look at the variable agrees with no question about it
    pub not_asked : (d : Diagram Q) → size (Test q l h) + size d ≤ suc n → IsCanonicalBy ask d →
        RootAbove ask q d → Agree (Test q l h) d → ⊥
    not_asked d small cd above agree =
        no_such d (omega (arith, size_low q l h)) (omega (arith, size_high q l h)) cd
        (λ v. sym (low_is v) ∙ agree (ask.below_all v q) ∙ skip_below laws d q v cd above)
        (λ v. sym (high_is v) ∙ agree (ask.at_place v q) ∙ skip_at laws d q v cd above)

    module _ (r : Q) (m k : Diagram Q) (e : IsCanonicalBy ask (Test r m k)) where
      -- nor do questions about one variable at two places
      pub not_two : size (Test q l h) + size (Test r m k) ≤ suc n → ask.cmp q r ≡ Less →
          ask.shares q r ≡ true → Agree (Test q l h) (Test r m k) → ⊥
      not_two small less shared agree =
          let above : RootAbove ask q m = above_shared laws q r m less shared e.2 in
          no_such m (omega (arith, size_low q l h, size_low r m k))
          (omega (arith, size_high q l h, size_low r m k)) e.0
          (λ v. sym (low_is v) ∙ agree (ask.below_all v q) ∙ at_low laws q r m k v shared e.0 above)
          (λ v. sym (high_is v) ∙ agree (ask.at_place v q) ∙ at_between laws q r m k v shared less e.0 above)

      pub less_roots : size (Test q l h) + size (Test r m k) ≤ suc n → ask.cmp q r ≡ Less →
          Agree (Test q l h) (Test r m k) → ⊥
      less_roots small less agree = elim (cases_Bool (ask.shares q r)) [
        | inl shared ↦ not_two small less shared agree
        | inr free ↦ not_asked (Test r m k) small e (less, free) agree
      ]

      pub same_high : ask.cmp q r ≡ Equal → Agree (Test q l h) (Test r m k) → Agree h k
      same_high same agree v = elim (cases_Bool (ask.answer v q)) [
        | inl below ↦
            let after : RootAfter ask q k = after_equal laws q r k same e.3 in
            front_where_yes laws h q v below c.1 c.3 ∙ sym (high_is v) ∙ agree (ask.at_place v q)
            ∙ at_high laws q r m k v same e.1 after ∙ sym (front_where_yes laws k q v below e.1 after)
        | inr over ↦
            let left : truth_by ask (Test q l h) v ≡ truth_by ask h v = rw over refl in
            let too : ask.answer v r ≡ false = sym (laws.answers_equal v q r same) ∙ over in
            let right : truth_by ask (Test r m k) v ≡ truth_by ask k v = rw too refl in
            sym left ∙ agree v ∙ right
      ]

      pub same_low : ask.cmp q r ≡ Equal → Agree (Test q l h) (Test r m k) → Agree l m
      same_low same agree v =
          let above : RootAbove ask q m = above_equal laws q r m same e.2 in
          sym (low_is v) ∙ agree (ask.below_all v q)
          ∙ at_low laws q r m k v (laws.equal_share q r same) e.0 above

      pub same_roots : size (Test q l h) + size (Test r m k) ≤ suc n → ask.cmp q r ≡ Equal →
          Agree (Test q l h) (Test r m k) → IsAlike ask (Test q l h) (Test r m k)
      same_roots small same agree =
          let lows : size l + size m ≤ n = omega (arith, size_low q l h, size_low r m k) in
          let highs : size h + size k ≤ n = omega (arith, size_high q l h, size_high r m k) in (
            same,
            smaller l m lows c.0 e.0 (same_low same agree),
            smaller h k highs c.1 e.1 (same_high same agree),
          )

  pub turned_round : (d e : Diagram Q) → Agree d e → Agree e d
  turned_round d e agree v = sym (agree v)

  pub by_size : V → (n : ℕ) → UpTo n
  by_size some zero d e small cd ce agree = absurd (omega (arith, size_positive d))
  by_size some (suc n) (Leaf b) (Leaf c) small cd ce agree = agree some
  by_size some (suc n) (Leaf b) (Test r m k) small cd ce agree =
      not_asked n (by_size some n) r m k ce (Leaf b) (omega arith) tt tt
      (turned_round (Leaf b) (Test r m k) agree)
  by_size some (suc n) (Test q l h) (Leaf c) small cd ce agree =
      not_asked n (by_size some n) q l h cd (Leaf c) small tt tt agree
  by_size some (suc n) (Test q l h) (Test r m k) small cd ce agree = elim (three_ways (ask.cmp q r)) [
    | inl less ↦ absurd (less_roots n (by_size some n) q l h cd r m k ce small less agree)
    | inr (inl same) ↦ same_roots n (by_size some n) q l h cd r m k ce small same agree
    | inr (inr more) ↦
        let less : ask.cmp r q ≡ Less = laws.total.antisymm r q ∙ rw more refl in
        let back : Agree (Test r m k) (Test q l h) = turned_round (Test q l h) (Test r m k) agree in
        absurd (less_roots n (by_size some n) r m k ce q l h cd (omega arith) less back)
  ]

pub one_diagram : (Q V : Type 0) (ask : Asking Q V) → IsAsking ask → V → OneDiagramBy ask
one_diagram Q V ask laws some d e cd ce agree =
    by_size laws some (size d + size e) d e (omega arith) cd ce agree

-- canonical diagrams are alike exactly where they mean the same
pub alike_exactly : (Q V : Type 0) (ask : Asking Q V) → IsAsking ask → V → (d e : Diagram Q) →
    IsCanonicalBy ask d →
    IsCanonicalBy ask e → IsAlike ask d e ↔ ((v : V) → truth_by ask d v ≡ truth_by ask e v)
alike_exactly Q V ask laws some d e cd ce = (alike_truth laws d e, one_diagram Q V ask laws some d e cd ce)
