-- What is written of diagrams is the same where they are one, and tells apart those that aren't.
use Rattle.std.proofs.Common.{◌≡◌, ◌⊎◌, inl, inr, ℕ, ◌+◌, Bool, true, false, cond, List, [], ◌∷◌, ◌++◌, Option}
use Rattle.std.proofs.Common.{Some, None, refl, ap, ap₂, sym, subst, ◌∙◌, append_assoc, arith}
use Rattle.std.specs.declared.cmp.Ordering.TheVariants.{Equal}
use Rattle.pep440_key.specs.Key.{number_bytes}
use Rattle.pep508_diagram.specs.Diagram.{Diagram, Leaf, Test, Asking, IsAsking, IsAlike}
use Rattle.pep508_diagram.proofs.Alike.{shares_equal}
use Rattle.pep508_marker_key.specs.Told.{TellApart}
use Rattle.pep508_marker_key.specs.Walk.{Written, leaf_byte, number_of, goes_on, both, once, written}
use Rattle.pep508_marker_key.proofs.Apart.{heads, tails, numbers_apart, same_bytes, equal_numbers}
use Rattle.pep508_marker_key.proofs.Alike.{AreAlike, one_more, same_number, one_number}

leaves : (b c : Bool) → leaf_byte b ≡ leaf_byte c → b ≡ c
leaves true true e = refl
leaves true false e = absurd (omega (arith, e))
leaves false true e = absurd (omega (arith, e))
leaves false false e = refl

two_three : (two three : ℕ) → two + 1 ≡ three → two ≡ three → ⊥
two_three two three e f = omega (arith, e, f)

not_leaf : (b : Bool) (n : ℕ) → leaf_byte b ≡ n + 2 → ⊥
not_leaf true n e = omega (arith, e)
not_leaf false n e = omega (arith, e)

module _ {Q V : Type 0} (ask : Asking Q V) (laws : IsAsking ask) (bytes : Q → List ℕ)
    (apart : TellApart ask.cmp bytes) where
  abbrev BeforeAlike : Option Q → Option Q → Type 0
  BeforeAlike None None = Unit {0}
  BeforeAlike None (Some r) = ⊥
  BeforeAlike (Some q) None = ⊥
  BeforeAlike (Some q) (Some r) = ask.cmp q r ≡ Equal

  on_alike : (p o : Option Q) (q r : Q) → BeforeAlike p o → ask.cmp q r ≡ Equal →
      goes_on ask p q ≡ goes_on ask o r
  on_alike None None q r before e = refl
  on_alike None (Some o) q r before e = absurd before
  on_alike (Some p) None q r before e = absurd before
  on_alike (Some p) (Some o) q r before e =
      shares_equal laws p q r e ∙ laws.shares_on p o r (laws.equal_share p o before)

  abbrev AreSame : Written Q → Written Q → Type 0
  AreSame v w = (v.bytes ≡ w.bytes) × AreAlike ask v.numbered w.numbered

  -- what is written in the end: all, or a number
  abbrev picked : Bool → List (Diagram Q) → Diagram Q → Option ℕ → Written Q → Written Q
  picked on numbered d number whole = cond on whole (once ask bytes numbered d number whole)

  same_picked : (on : Bool) (number : Option ℕ) (xs ys : List (Diagram Q)) (d e : Diagram Q)
      (v w : Written Q) → AreAlike ask xs ys → IsAlike ask d e → AreSame v w →
      AreSame (picked on xs d number v) (picked on ys e number w)
  same_picked true number xs ys d e v w are a same = same
  same_picked false None xs ys d e v w are a same =
      (same.0, one_more ask v.numbered w.numbered d e same.1 a)
  same_picked false (Some n) xs ys d e v w are a same = (refl, are)

  pub same_written : (p o : Option Q) (xs ys : List (Diagram Q)) (d e : Diagram Q) → BeforeAlike p o →
      AreAlike ask xs ys → IsAlike ask d e → AreSame (written ask bytes p xs d) (written ask bytes o ys e)
  same_written p o xs ys (Leaf b) (Leaf c) before are a = (ap (λ b. leaf_byte b ∷ []) a, are)
  same_written p o xs ys (Leaf b) (Test r l h) before are a = absurd a
  same_written p o xs ys (Test q l h) (Leaf c) before are a = absurd a
  same_written p o xs ys (Test q l h) (Test r m k) before are a =
      let low = same_written None None xs ys l m tt are a.1 in
      let first = written ask bytes None xs l in
      let other_first = written ask bytes None ys m in
      let high = same_written (Some q) (Some r) first.numbered other_first.numbered h k a.0 low.1 a.2 in
      let last = written ask bytes (Some q) first.numbered h in
      let other_last = written ask bytes (Some r) other_first.numbered k in
      let whole : AreSame (both ask bytes q first last) (both ask bytes r other_first other_last) =
      (ap₂ (λ s t. 2 ∷ (s ++ t)) (same_bytes bytes apart q r a.0) (ap₂ (λ s t. s ++ t) low.0 high.0), high.1) in
      let number : number_of ask xs (Test q l h) ≡ number_of ask ys (Test r m k) =
      same_number ask laws xs ys (Test q l h) (Test r m k) are a in
      let v = both ask bytes q first last in
      let w = both ask bytes r other_first other_last in
      subst (λ on. AreSame (picked (goes_on ask p q) xs (Test q l h) (number_of ask xs (Test q l h)) v)
      (picked on ys (Test r m k) (number_of ask ys (Test r m k)) w)) (on_alike p o q r before a.0)
      (subst (λ n. AreSame (picked (goes_on ask p q) xs (Test q l h) (number_of ask xs (Test q l h)) v)
      (picked (goes_on ask p q) ys (Test r m k) n w)) number
      (same_picked (goes_on ask p q) (number_of ask xs (Test q l h)) xs ys (Test q l h) (Test r m k) v w are a
      whole))

  -- all is written, or a number that the diagram has
  abbrev IsPicked : List ℕ → Option ℕ → List ℕ → Type 0
  IsPicked written number whole =
      (written ≡ whole) ⊎ ((n : ℕ) × (number ≡ Some n) × (written ≡ 3 ∷ number_bytes n))

  is_picked : (on : Bool) (number : Option ℕ) (xs : List (Diagram Q)) (d : Diagram Q) (whole : Written Q) →
      IsPicked (picked on xs d number whole).bytes number whole.bytes
  is_picked true number xs d whole = inl refl
  is_picked false None xs d whole = inl refl
  is_picked false (Some n) xs d whole = inr (n, refl, refl)

  pub apart_written : (p o : Option Q) (xs ys : List (Diagram Q)) (d e : Diagram Q) (u v : List ℕ) →
      BeforeAlike p o → AreAlike ask xs ys →
      (written ask bytes p xs d).bytes ++ u ≡ (written ask bytes o ys e).bytes ++ v →
      IsAlike ask d e × (u ≡ v)
  apart_written p o xs ys (Leaf b) (Leaf c) u v before are s =
      (leaves b c (heads (leaf_byte b) (leaf_byte c) u v s), tails (leaf_byte b) (leaf_byte c) u v s)
  apart_written p o xs ys (Leaf b) (Test r m k) u v before are s =
      let first = written ask bytes None ys m in
      let last = written ask bytes (Some r) first.numbered k in
      let inner = bytes r ++ (first.bytes ++ last.bytes) in
      let e = Test r m k in
      elim (is_picked (goes_on ask o r) (number_of ask ys e) ys e (both ask bytes r first last)) [
        | inl whole ↦
            absurd (not_leaf b 0 (heads (leaf_byte b) 2 u (inner ++ v) (s ∙ ap (λ t. t ++ v) whole)))
        | inr one ↦
            absurd (not_leaf b 1
            (heads (leaf_byte b) 3 u (number_bytes one.0 ++ v) (s ∙ ap (λ t. t ++ v) one.2)))
      ]
  apart_written p o xs ys (Test q l h) (Leaf c) u v before are s =
      let first = written ask bytes None xs l in
      let last = written ask bytes (Some q) first.numbered h in
      let inner = bytes q ++ (first.bytes ++ last.bytes) in
      let d = Test q l h in
      elim (is_picked (goes_on ask p q) (number_of ask xs d) xs d (both ask bytes q first last)) [
        | inl whole ↦
            absurd (not_leaf c 0 (heads (leaf_byte c) 2 v (inner ++ u) (sym s ∙ ap (λ t. t ++ u) whole)))
        | inr one ↦
            absurd (not_leaf c 1
            (heads (leaf_byte c) 3 v (number_bytes one.0 ++ u) (sym s ∙ ap (λ t. t ++ u) one.2)))
      ]
  apart_written p o xs ys (Test q l h) (Test r m k) u v before are s =
      let first = written ask bytes None xs l in
      let last = written ask bytes (Some q) first.numbered h in
      let inner = bytes q ++ (first.bytes ++ last.bytes) in
      let other_first = written ask bytes None ys m in
      let other_last = written ask bytes (Some r) other_first.numbered k in
      let other_inner = bytes r ++ (other_first.bytes ++ other_last.bytes) in
      let d = Test q l h in
      let e = Test r m k in
      elim (is_picked (goes_on ask p q) (number_of ask xs d) xs d (both ask bytes q first last)) [
        | inl whole ↦
            elim (is_picked (goes_on ask o r) (number_of ask ys e) ys e (both ask bytes r other_first other_last)) [
              | inl also ↦
                  let t = tails 2 2 (inner ++ u) (other_inner ++ v)
                  (sym (ap (λ t. t ++ u) whole) ∙ s ∙ ap (λ t. t ++ v) also) in
                  let asked = (apart q r ((first.bytes ++ last.bytes) ++ u) ((other_first.bytes ++ other_last.bytes) ++ v)).0
                  (sym (append_assoc (bytes q) (first.bytes ++ last.bytes) u) ∙ t
                  ∙ append_assoc (bytes r) (other_first.bytes ++ other_last.bytes) v) in
                  let low = apart_written None None xs ys l m (last.bytes ++ u) (other_last.bytes ++ v) tt are
                  (sym (append_assoc first.bytes last.bytes u) ∙ asked.1
                  ∙ append_assoc other_first.bytes other_last.bytes v) in
                  let states = (same_written None None xs ys l m tt are low.0).1 in
                  let high = apart_written (Some q) (Some r) first.numbered other_first.numbered h k u v asked.0
                  states low.1 in
                  ((asked.0, low.0, high.0), high.1)
              | inr one ↦
                  absurd (two_three 2 3 refl (heads 2 3 (inner ++ u) (number_bytes one.0 ++ v)
                  (sym (ap (λ t. t ++ u) whole) ∙ s ∙ ap (λ t. t ++ v) one.2)))
            ]
        | inr one ↦
            elim (is_picked (goes_on ask o r) (number_of ask ys e) ys e (both ask bytes r other_first other_last)) [
              | inl also ↦
                  absurd (two_three 2 3 refl (sym (heads 3 2 (number_bytes one.0 ++ u) (other_inner ++ v)
                  (sym (ap (λ t. t ++ u) one.2) ∙ s ∙ ap (λ t. t ++ v) also))))
              | inr two ↦
                  let t = tails 3 3 (number_bytes one.0 ++ u) (number_bytes two.0 ++ v)
                  (sym (ap (λ t. t ++ u) one.2) ∙ s ∙ ap (λ t. t ++ v) two.2) in
                  let n = (numbers_apart one.0 two.0 u v).0 t in
                  let same : one.0 ≡ two.0 = equal_numbers one.0 two.0 n.0 in
                  (one_number ask laws one.0 xs ys d e are one.1 (two.1 ∙ ap Some (sym same)), n.1)
            ]
      ]
