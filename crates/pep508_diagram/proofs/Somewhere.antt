-- A canonical diagram but for the leaf that is false holds under some valuation, which is built from below: a
-- branch that holds somewhere gives it, with the question's variable moved so that the branch speaks.
use Rattle.std.proofs.Common.{◌≡◌, ◌≢◌, ◌⊎◌, inl, inr, true, false, refl, sym, subst, ◌∙◌}
use Rattle.std.proofs.lemmas.Bool.{cases_Bool}
use Rattle.std.proofs.lemmas.Cmp.{tied_itself}
use Rattle.pep508_diagram.specs.Diagram.{Diagram, Leaf, Test, Asking, IsAsking, truth_by, IsAlike, front_by}
use Rattle.pep508_diagram.specs.Diagram.{IsCanonicalBy}
use Rattle.pep508_diagram.specs.Question.{Question, Valuation, truth, IsCanonical}
use Rattle.pep508_diagram.proofs.Moved.{front_where_yes, at_low, at_high}
use Rattle.pep508_diagram.proofs.Questions.{asks, lowest}

module _ {Q V : Type 0} (ask : Asking Q V) where
  -- some valuation makes the diagram hold
  abbrev pub HoldsSomewhere : Diagram Q → Type 0
  HoldsSomewhere d = (v : V) × (truth_by ask d v ≡ true)

module _ {Q V : Type 0} {ask : Asking Q V} (laws : IsAsking ask) where
  both_false : (q : Q) (l h : Diagram Q) → l ≡ Leaf false → h ≡ Leaf false → IsAlike ask l (front_by ask q h)
  both_false q l h e f =
      subst (λ d. IsAlike ask d (front_by ask q h)) (sym e)
      (subst (λ d. IsAlike ask (Leaf false) (front_by ask q d)) (sym f) refl)

  low_holds : (q : Q) (l h : Diagram Q) → IsCanonicalBy ask (Test q l h) → HoldsSomewhere ask l →
      HoldsSomewhere ask (Test q l h)
  low_holds q l h c low = (
    ask.below_all low.0 q,
    at_low laws q q l h low.0 (laws.equal_share q q (tied_itself laws.total q)) c.0 c.2 ∙ low.1,
  )

  high_holds : (q : Q) (l h : Diagram Q) → IsCanonicalBy ask (Test q l h) → HoldsSomewhere ask h →
      HoldsSomewhere ask (Test q l h)
  high_holds q l h c high = elim (cases_Bool (ask.answer high.0 q)) [
    | inl below ↦ (
      ask.at_place high.0 q,
      at_high laws q q l h high.0 (tied_itself laws.total q) c.1 c.3
          ∙ sym (front_where_yes laws h q high.0 below c.1 c.3) ∙ high.1,
    )
    | inr over ↦ (high.0, rw over high.1)
  ]

  pub false_or_holds : V → (d : Diagram Q) → IsCanonicalBy ask d → (d ≡ Leaf false) ⊎ HoldsSomewhere ask d
  false_or_holds some (Leaf true) c = inr (some, refl)
  false_or_holds some (Leaf false) c = inl refl
  false_or_holds some (Test q l h) c = elim (false_or_holds some l c.0) [
    | inl low_false ↦ elim (false_or_holds some h c.1) [
      | inl high_false ↦ absurd (c.4 (both_false q l h low_false high_false))
      | inr high ↦ inr (high_holds q l h c high)
    ]
    | inr low ↦ inr (low_holds q l h c low)
  ]

pub marker_holds_somewhere : (d : Diagram Question) → IsCanonical d → d ≢ Leaf false →
    (v : Valuation) × (truth d v ≡ true)
marker_holds_somewhere d c other = elim (false_or_holds asks lowest d c) [
  | inl e ↦ absurd (other e)
  | inr found ↦ found
]
