-- Encoded characters, cut at an ASCII byte: both sides are encodings again.
use Rattle.std.proofs.Common.{◌≡◌, ℕ, ◌<◌, ◌==◌, Bool, true, false, List, [], ◌∷◌, ◌++◌, get_or}
use Rattle.std.proofs.Common.{refl, ap, sym, subst, ◌∙◌, arith}
use Rattle.std.proofs.lemmas.List.{append-nil}
use Rattle.std.proofs.lemmas.Str.{inside_one, encode_ascii, encodes-append}
use Rattle.std.specs.Char.{encode_utf8}
use Rattle.std.specs.Str.{encode_utf8_all}
use Rattle.pep508_error.proofs.Tests.{itself, the_same}
use Rattle.pep508_error.proofs.Cuts.{NonePasses, none_joined, behind_front, by_places}

-- ---- a byte that is a character of its own

other_than : (b c : ℕ) (t : Bool) → (b == c) ≡ t → (b ≡ c → ⊥) → t ≡ false
other_than b c true e h = absurd (h (the_same b c e))
other_than b c false e h = refl

abbrev pub is : ℕ → ℕ → Bool
is k c = c == k

pub record Around (front rest : List ℕ) : Type 0 where
  pub before : List ℕ
  pub behind : List ℕ
  pub front_is : front ≡ encode_utf8_all before
  pub rest_is : rest ≡ encode_utf8_all behind

module _ (k : ℕ) (small : k < 128) where
  alone : encode_utf8 k ≡ k ∷ []
  alone = encode_ascii k small

  -- the bytes of another character are other bytes
  pub apart_char : (c : ℕ) → is k c ≡ false → NonePasses (is k) (encode_utf8 c)
  apart_char c h = by_places (encode_utf8 c) (is k) (λ i l.
      other_than (get_or (encode_utf8 c) i 0) k (get_or (encode_utf8 c) i 0 == k) refl (λ e.
      (let same : c ≡ get_or (encode_utf8 c) i 0 =
      inside_one c [] (encode_utf8 c) i (sym (append-nil (encode_utf8 c))) l (subst (λ n. n < 128) (sym e) small) in
      let yes : is k c ≡ true = ap (is k) (same ∙ e) ∙ itself k in
      absurd (cc))))

  pub encoded_apart : (cs : List ℕ) → NonePasses (is k) cs → NonePasses (is k) (encode_utf8_all cs)
  encoded_apart [] h = tt
  encoded_apart (c ∷ cs) h =
      none_joined (is k) (encode_utf8 c) (encode_utf8_all cs) (apart_char c h.0) (encoded_apart cs h.1)

  apart_by : (c : ℕ) (cs : List ℕ) (t : Bool) → is k c ≡ t → NonePasses (is k) (encode_utf8_all (c ∷ cs))
      → is k c ≡ false
  apart_by c cs true e h =
      let one : encode_utf8 c ≡ k ∷ [] = ap encode_utf8 (the_same c k e) ∙ alone in
      let first : NonePasses (is k) (k ∷ encode_utf8_all cs) =
      subst (λ (bs : List ℕ). NonePasses (is k) (bs ++ encode_utf8_all cs)) one h in
      let no : is k k ≡ false = first.0 in
      let yes : is k k ≡ true = itself k in
      absurd (cc)
  apart_by c cs false e h = e

  pub apart_again : (cs : List ℕ) → NonePasses (is k) (encode_utf8_all cs) → NonePasses (is k) cs
  apart_again [] h = tt
  apart_again (c ∷ cs) h = (
    apart_by c cs (is k c) refl h,
    apart_again cs (behind_front (λ b. is k b ≡ false) (encode_utf8 c) (encode_utf8_all cs) h),
  )

  record Past (xs more front rest : List ℕ) : Type 0 where
    left : List ℕ
    front_is : front ≡ xs ++ left
    more_is : more ≡ left ++ k ∷ rest

  -- what has no such byte stands before the first one
  past : (xs more front rest : List ℕ) → NonePasses (is k) xs → xs ++ more ≡ front ++ k ∷ rest
      → Past xs more front rest
  past [] more front rest h e = record { left = front; front_is = refl; more_is = e }
  past (x ∷ xs) more [] rest h e =
      let same : x ≡ k = cc in
      let yes : is k x ≡ true = ap (is k) same ∙ itself k in
      let no : is k x ≡ false = h.0 in
      absurd (cc)
  past (x ∷ xs) more (y ∷ ys) rest h e =
      let same : x ≡ y = cc in
      let tail : xs ++ more ≡ ys ++ k ∷ rest = cc in
      let p = past xs more ys rest h.1 tail in
      record {
        left = p.left;
        front_is = ap (λ z. z ∷ ys) (sym same) ∙ ap (λ zs. x ∷ zs) p.front_is;
        more_is = p.more_is;
      }

  around_by : (c : ℕ) (cs front rest : List ℕ) (t : Bool) → is k c ≡ t
      → encode_utf8_all (c ∷ cs) ≡ front ++ k ∷ rest
      → ((later : List ℕ) → encode_utf8_all cs ≡ later ++ k ∷ rest → Around later rest) → Around front rest
  around_by c cs [] rest true same e more =
      let one : encode_utf8 c ≡ k ∷ [] = ap encode_utf8 (the_same c k same) ∙ alone in
      let split : k ∷ encode_utf8_all cs ≡ k ∷ rest = ap (λ bs. bs ++ encode_utf8_all cs) (sym one) ∙ e in
      record { before = []; behind = cs; front_is = refl; rest_is = cc }
  around_by c cs (y ∷ ys) rest true same e more =
      let one : encode_utf8 c ≡ k ∷ [] = ap encode_utf8 (the_same c k same) ∙ alone in
      let split : k ∷ encode_utf8_all cs ≡ y ∷ (ys ++ k ∷ rest) =
      ap (λ bs. bs ++ encode_utf8_all cs) (sym one) ∙ e in
      let tail : encode_utf8_all cs ≡ ys ++ k ∷ rest = cc in
      let first : y ≡ k = cc in
      let a = more ys tail in
      record {
        before = c ∷ a.before;
        behind = a.behind;
        front_is = ap (λ z. z ∷ ys) first ∙ ap (λ zs. k ∷ zs) a.front_is
            ∙ ap (λ bs. bs ++ encode_utf8_all a.before) (sym one);
        rest_is = a.rest_is;
      }
  around_by c cs front rest false other e more =
      let p = past (encode_utf8 c) (encode_utf8_all cs) front rest (apart_char c other) e in
      let a = more p.left p.more_is in
      record {
        before = c ∷ a.before;
        behind = a.behind;
        front_is = p.front_is ∙ ap (λ bs. encode_utf8 c ++ bs) a.front_is;
        rest_is = a.rest_is;
      }

  -- both sides of the byte are encodings
  pub around : (cs front rest : List ℕ) → encode_utf8_all cs ≡ front ++ k ∷ rest → Around front rest
  around [] [] rest e = absurd (cc)
  around [] (x ∷ xs) rest e = absurd (cc)
  around (c ∷ cs) front rest e = around_by c cs front rest (is k c) refl e (λ later h. around cs later rest h)

  -- the characters around the byte, encoded
  pub joined : (before behind : List ℕ)
      → encode_utf8_all (before ++ k ∷ behind) ≡ encode_utf8_all before ++ k ∷ encode_utf8_all behind
  joined before behind =
      encodes-append before (k ∷ behind)
      ∙ ap (λ bs. encode_utf8_all before ++ (bs ++ encode_utf8_all behind)) alone
