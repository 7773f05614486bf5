-- Diagrams with each leaf turned, their leaves that are reached by yes alone, and diagrams of one truth.
use Rattle.std.proofs.Common.{◌≡◌, Bool, true, false, cond, refl, sym, ap, ◌∙◌, true≢false}
use Rattle.version_ranges.specs.Turns.{flips}
use Rattle.pep508_diagram.specs.Diagram.{Diagram, Leaf, Test, Asking, IsAsking, truth_by, IsAlike, RootAbove}
use Rattle.pep508_diagram.specs.Diagram.{RootAfter, front_by, IsCanonicalBy, turned_by, leftmost}
use Rattle.pep508_diagram.proofs.Canonical.{one_diagram}

pub flips_twice : (t b : Bool) → flips t (flips t b) ≡ b
flips_twice true true = refl
flips_twice true false = refl
flips_twice false b = refl

pub flips_back : (t b c : Bool) → flips t b ≡ flips t c → b ≡ c
flips_back t b c e = sym (flips_twice t b) ∙ ap (flips t) e ∙ flips_twice t c

pub flips_apart : (b : Bool) → b ≡ flips true b → ⊥
flips_apart true e = true≢false e
flips_apart false e = true≢false (sym e)

pub turned_twice : {Q : Type 0} (t : Bool) (d : Diagram Q) → turned_by t (turned_by t d) ≡ d
turned_twice t (Leaf b) = ap Leaf (flips_twice t b)
turned_twice t (Test q l h) = rw (turned_twice t l, turned_twice t h) refl

pub turned_not : {Q : Type 0} (d : Diagram Q) → turned_by false d ≡ d
turned_not (Leaf b) = refl
turned_not (Test q l h) = rw (turned_not l, turned_not h) refl

pub leftmost_turned : {Q : Type 0} (t : Bool) (d : Diagram Q) →
    leftmost (turned_by t d) ≡ flips t (leftmost d)
leftmost_turned t (Leaf b) = refl
leftmost_turned t (Test q l h) = leftmost_turned t l

module _ {Q V : Type 0} (ask : Asking Q V) where
  pub turned_truth : (t : Bool) (d : Diagram Q) (v : V) →
      truth_by ask (turned_by t d) v ≡ flips t (truth_by ask d v)
  turned_truth t (Leaf b) v = refl
  turned_truth t (Test q l h) v =
      rw (turned_truth t l v, turned_truth t h v)
      (along (ask.answer v q) (truth_by ask l v) (truth_by ask h v))
    where
      along : (b x y : Bool) → cond b (flips t x) (flips t y) ≡ flips t (cond b x y)
      along true x y = refl
      along false x y = refl

  pub alike_turned : (t : Bool) (d e : Diagram Q) → IsAlike ask d e →
      IsAlike ask (turned_by t d) (turned_by t e)
  alike_turned t (Leaf b) (Leaf c) a = ap (flips t) a
  alike_turned t (Leaf b) (Test r m k) a = a
  alike_turned t (Test q l h) (Leaf c) a = a
  alike_turned t (Test q l h) (Test r m k) a = (a.0, alike_turned t l m a.1, alike_turned t h k a.2)

  pub alike_turned_back : (t : Bool) (d e : Diagram Q) → IsAlike ask (turned_by t d) (turned_by t e) →
      IsAlike ask d e
  alike_turned_back t (Leaf b) (Leaf c) a = flips_back t b c a
  alike_turned_back t (Leaf b) (Test r m k) a = a
  alike_turned_back t (Test q l h) (Leaf c) a = a
  alike_turned_back t (Test q l h) (Test r m k) a =
      (a.0, alike_turned_back t l m a.1, alike_turned_back t h k a.2)

  pub front_turned : (t : Bool) (q : Q) (d : Diagram Q) →
      front_by ask q (turned_by t d) ≡ turned_by t (front_by ask q d)
  front_turned t q (Leaf b) = refl
  front_turned t q (Test r l h) = along (ask.shares q r) l (Test r l h)
    where
      along : (b : Bool) (x y : Diagram Q) → cond b (turned_by t x) (turned_by t y) ≡ turned_by t (cond b x y)
      along true x y = refl
      along false x y = refl

  pub above_turned : (t : Bool) (q : Q) (d : Diagram Q) → RootAbove ask q d → RootAbove ask q (turned_by t d)
  above_turned t q (Leaf b) above = above
  above_turned t q (Test r l h) above = above

  pub after_turned : (t : Bool) (q : Q) (d : Diagram Q) → RootAfter ask q d → RootAfter ask q (turned_by t d)
  after_turned t q (Leaf b) after = after
  after_turned t q (Test r l h) after = after

  pub turned_canonical : (t : Bool) (d : Diagram Q) → IsCanonicalBy ask d → IsCanonicalBy ask (turned_by t d)
  turned_canonical t (Leaf b) c = tt
  turned_canonical t (Test q l h) c = (
    turned_canonical t l c.0,
    turned_canonical t h c.1,
    above_turned t q l c.2,
    after_turned t q h c.3,
    λ a. c.4 (alike_turned_back t l (front_by ask q h) (rw (front_turned t q h) at a)),
  )

  pub alike_leftmost : (d e : Diagram Q) → IsAlike ask d e → leftmost d ≡ leftmost e
  alike_leftmost (Leaf b) (Leaf c) a = a
  alike_leftmost (Leaf b) (Test r m k) a = absurd a
  alike_leftmost (Test q l h) (Leaf c) a = absurd a
  alike_leftmost (Test q l h) (Test r m k) a = alike_leftmost l m a.1

  -- no diagram is alike to its turned one
  pub turned_apart : (d : Diagram Q) → IsAlike ask d (turned_by true d) → ⊥
  turned_apart d a = flips_apart (leftmost d) (alike_leftmost d (turned_by true d) a ∙ leftmost_turned true d)

  pub alike_leaf : (d : Diagram Q) (b : Bool) → IsAlike ask d (Leaf b) → d ≡ Leaf b
  alike_leaf (Leaf c) b a = ap Leaf a
  alike_leaf (Test q l h) b a = absurd a

  -- a canonical diagram of one truth is a leaf
  pub not_constant : IsAsking ask → V → (d : Diagram Q) (b : Bool) → IsCanonicalBy ask d →
      ((v : V) → truth_by ask d v ≡ b) → d ≡ Leaf b
  not_constant laws some d b c all = alike_leaf d b (one_diagram Q V ask laws some d (Leaf b) c tt all)
