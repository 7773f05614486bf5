-- Diagrams that are one have one number among some, and lists of them may be exchanged.
use Rattle.std.proofs.Common.{◌≡◌, ◌⊎◌, inl, inr, ℕ, ◌+◌, ◌<◌, ◌&&◌, Bool, true, false, cond, List, [], ◌∷◌}
use Rattle.std.proofs.Common.{◌++◌, Option, Some, None, refl, ap, ap₂, sym, ◌∙◌, true≢false, arith, is_eq}
use Rattle.std.proofs.lemmas.Bool.{cases_Bool}
use Rattle.std.specs.Cmp.{Equal-is}
use mathlib.Core.Bool.{beq}
use Rattle.pep508_diagram.specs.Diagram.{Diagram, Leaf, Test, Asking, IsAsking, IsAlike}
use Rattle.pep508_diagram.proofs.Alike.{alike_back, alike_on}
use Rattle.pep508_tree.proofs.Same.{bools_alike}
use Rattle.pep508_marker_key.specs.Walk.{is_alike, number_among, number_of}

both_true : (a b : Bool) → (a && b) ≡ true → (a ≡ true) × (b ≡ true)
both_true true b e = (refl, e)
both_true false b e = absurd (true≢false (sym e))

beq_itself : (b : Bool) → beq b b ≡ true
beq_itself true = refl
beq_itself false = refl

numbers : (n k : ℕ) → Some n ≡ Some k → n ≡ k
numbers n k e = cc

none_some : (m : ℕ) → None ≡ Some m → ⊥
none_some m e = absurd (cc)

module _ {Q V : Type 0} (ask : Asking Q V) where
  -- the test answers whether diagrams are one
  pub tested : (d e : Diagram Q) → is_alike ask d e ≡ true → IsAlike ask d e
  tested (Leaf b) (Leaf c) t = bools_alike b c t
  tested (Leaf b) (Test r l h) t = absurd (true≢false (sym t))
  tested (Test q l h) (Leaf c) t = absurd (true≢false (sym t))
  tested (Test q l h) (Test r m k) t =
      let first = both_true (is_eq (ask.cmp q r)) (is_alike ask l m && is_alike ask h k) t in
      let rest = both_true (is_alike ask l m) (is_alike ask h k) first.1 in
      ((Equal-is (ask.cmp q r)).0 first.0, tested l m rest.0, tested h k rest.1)

  pub tests : (d e : Diagram Q) → IsAlike ask d e → is_alike ask d e ≡ true
  tests (Leaf b) (Leaf c) a = ap (beq b) (sym a) ∙ beq_itself b
  tests (Leaf b) (Test r l h) a = absurd a
  tests (Test q l h) (Leaf c) a = absurd a
  tests (Test q l h) (Test r m k) a =
      ap₂ (λ o b. is_eq o && b) a.0 (ap₂ (λ b c. b && c) (tests l m a.1) (tests h k a.2))

  -- as many diagrams, each with its counterpart one
  abbrev pub AreAlike : List (Diagram Q) → List (Diagram Q) → Type 0
  AreAlike [] [] = Unit {0}
  AreAlike [] (y ∷ ys) = ⊥
  AreAlike (x ∷ xs) [] = ⊥
  AreAlike (x ∷ xs) (y ∷ ys) = IsAlike ask x y × AreAlike xs ys

  pub one_more : (xs ys : List (Diagram Q)) (d e : Diagram Q) → AreAlike xs ys → IsAlike ask d e →
      AreAlike (xs ++ d ∷ []) (ys ++ e ∷ [])
  one_more [] [] d e are a = (a, tt)
  one_more [] (y ∷ ys) d e are a = absurd are
  one_more (x ∷ xs) [] d e are a = absurd are
  one_more (x ∷ xs) (y ∷ ys) d e are a = (are.0, one_more xs ys d e are.1 a)

  module _ (laws : IsAsking ask) where
    same_test : (x y d e : Diagram Q) → IsAlike ask x y → IsAlike ask d e → is_alike ask x d ≡ is_alike ask y e
    same_test x y d e one a = elim (cases_Bool (is_alike ask x d)) [
      | inl so ↦
          so
          ∙ sym (tests y e
          (alike_on laws y x e (alike_back laws x y one) (alike_on laws x d e (tested x d so) a)))
      | inr apart ↦ elim (cases_Bool (is_alike ask y e)) [
        | inl also ↦
            absurd (true≢false
            (sym (tests x d
            (alike_on laws x y d one (alike_on laws y e d (tested y e also) (alike_back laws d e a))))
            ∙ apart))
        | inr neither ↦ apart ∙ sym neither
      ]
    ]

    same_among : (n : ℕ) (found : Option ℕ) (xs ys : List (Diagram Q)) (d e : Diagram Q) → AreAlike xs ys →
        IsAlike ask d e → number_among ask n found xs d ≡ number_among ask n found ys e
    same_among n found [] [] d e are a = refl
    same_among n found [] (y ∷ ys) d e are a = absurd are
    same_among n found (x ∷ xs) [] d e are a = absurd are
    same_among n found (x ∷ xs) (y ∷ ys) d e are a =
        ap (λ b. number_among ask (n + 1) (cond b (Some n) found) xs d) (same_test x y d e are.0 a)
        ∙ same_among (n + 1) (cond (is_alike ask y e) (Some n) found) xs ys d e are.1 a

    -- diagrams that are one have one number
    pub same_number : (xs ys : List (Diagram Q)) (d e : Diagram Q) → AreAlike xs ys → IsAlike ask d e →
        number_of ask xs d ≡ number_of ask ys e
    same_number xs ys d e are a = same_among 0 None xs ys d e are a

    abbrev IsBelow : ℕ → Option ℕ → Type 0
    IsBelow n found = (k : ℕ) → found ≡ Some k → k < n

    below_next : (b : Bool) (n : ℕ) (found : Option ℕ) → IsBelow n found →
        IsBelow (n + 1) (cond b (Some n) found)
    below_next true n found below k e = let same : n ≡ k = numbers n k e in omega arith
    below_next false n found below k e = let less : k < n = below k e in omega arith

    -- diagrams of one number are one, but for a number that both had before
    module _ (n m : ℕ) (found other : Option ℕ) (x y d e : Diagram Q) (below : IsBelow n found)
        (also : IsBelow n other) (one : IsAlike ask x y) where
      here : (b c : Bool) → is_alike ask x d ≡ b → is_alike ask y e ≡ c → cond b (Some n) found ≡ Some m →
          cond c (Some n) other ≡ Some m → IsAlike ask d e ⊎ ((found ≡ Some m) × (other ≡ Some m))
      here true true s t f g =
          inl (alike_on laws d x e (alike_back laws x d (tested x d s)) (alike_on laws x y e one (tested y e t)))
      here true false s t f g =
          let same : n ≡ m = numbers n m f in
          let less : m < n = also m g in
          absurd (omega arith)
      here false true s t f g =
          let same : n ≡ m = numbers n m g in
          let less : m < n = below m f in
          absurd (omega arith)
      here false false s t f g = inr (f, g)

    numbered_alike : (n m : ℕ) (found other : Option ℕ) (xs ys : List (Diagram Q)) (d e : Diagram Q) →
        IsBelow n found → IsBelow n other → AreAlike xs ys → number_among ask n found xs d ≡ Some m →
        number_among ask n other ys e ≡ Some m → IsAlike ask d e ⊎ ((found ≡ Some m) × (other ≡ Some m))
    numbered_alike n m found other [] [] d e below also are p q = inr (p, q)
    numbered_alike n m found other [] (y ∷ ys) d e below also are p q = absurd are
    numbered_alike n m found other (x ∷ xs) [] d e below also are p q = absurd are
    numbered_alike n m found other (x ∷ xs) (y ∷ ys) d e below also are p q =
        let b = is_alike ask x d in
        let c = is_alike ask y e in
        elim (numbered_alike (n + 1) m (cond b (Some n) found) (cond c (Some n) other) xs ys d e
        (below_next b n found below) (below_next c n other also) are.1 p q) [
          | inl one ↦ inl one
          | inr both ↦ here n m found other x y d e below also are.0 b c refl refl both.0 both.1
        ]

    none_below : IsBelow 0 None
    none_below k e = absurd (none_some k e)

    pub one_number : (m : ℕ) (xs ys : List (Diagram Q)) (d e : Diagram Q) → AreAlike xs ys →
        number_of ask xs d ≡ Some m → number_of ask ys e ≡ Some m → IsAlike ask d e
    one_number m xs ys d e are p q =
        elim (numbered_alike 0 m None None xs ys d e none_below none_below are p q) [
          | inl one ↦ one
          | inr both ↦ absurd (none_some m both.0)
        ]
