-- What the loop over writes keeps.
use Rattle.std.proofs.Common.{◌≡◌, ◌<◌, ℕ, List, [], ◌++◌, length, take, drop, Option, Some, None}
use Rattle.std.proofs.Common.{ap, ◌∙◌, append_assoc, length-append, arith}
use Rattle.std.proofs.lemmas.List.{take-append-drop}
use Rattle.std.specs.Io.KnownBytes.{Appends}

-- the writer took a front of the text, and this rest of it is left
pub record IsWritten (old now : Option (List ℕ)) (rest text : List ℕ) : Type 0 where
  pub front : List ℕ
  pub is_front : front ++ rest ≡ text
  pub held : Appends old now front

appends_both : (old mid new : Option (List ℕ)) (a b : List ℕ) → Appends old mid a → Appends mid new b
    → Appends old new (a ++ b)
appends_both None mid new a b p q = tt
appends_both (Some xs) None new a b p q = absurd p
appends_both (Some xs) (Some ys) None a b p q = absurd q
appends_both (Some xs) (Some ys) (Some zs) a b p q = q ∙ ap (λ l. l ++ b) p ∙ append_assoc xs a b

-- a write took `count` more bytes
pub written_more : (old mid new : Option (List ℕ)) (rest text : List ℕ) (count : ℕ) (left : List ℕ)
    → left ≡ drop count rest → IsWritten old mid rest text → Appends mid new (take count rest) → IsWritten old new left text
written_more old mid new rest text count left is_left written taken = record {
  front = written.front ++ take count rest;
  is_front = append_assoc written.front (take count rest) left
      ∙ ap (λ l. written.front ++ (take count rest ++ l)) is_left
      ∙ ap (λ l. written.front ++ l) (take-append-drop count rest) ∙ written.is_front;
  held = appends_both old mid new written.front (take count rest) written.held taken;
}

-- an empty text has nothing left
pub none_left : (old now : Option (List ℕ)) (rest text : List ℕ) → IsWritten old now rest text → text ≡ []
    → 0 < length rest → ⊥
none_left old now rest text written empty left =
    let none : length (written.front ++ rest) ≡ 0 = ap length (written.is_front ∙ empty) in
    omega (arith, none, length-append written.front rest)
