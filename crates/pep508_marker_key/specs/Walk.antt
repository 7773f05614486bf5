-- A diagram as bytes, with parts that occur several times written once. Diagrams are numbered as they have
-- been written, from 0 on; one that occurs again is written as its number. Questions of one variable that
-- follow one another are written as one thing, of which only the whole is numbered.
use Rattle.std.specs.Prelude.{ℕ, ◌+◌, ◌&&◌, Bool, true, false, cond, List, [], ◌∷◌, ◌++◌, Option, Some}
use Rattle.std.specs.Prelude.{None}
use Rattle.std.specs.Ordering.{is_eq}
use mathlib.Core.Bool.{beq}
use Rattle.pep440_key.specs.Key.{number_bytes}
use Rattle.pep508_diagram.specs.Diagram.{Diagram, Leaf, Test, Asking}

-- the bytes written so far, and the diagrams that are numbered then
pub record Written (Q : Type 0) : Type 0 where
  pub bytes : List ℕ
  pub numbered : List (Diagram Q)

abbrev pub leaf_byte : Bool → ℕ
leaf_byte true = 1
leaf_byte false = 0

module _ {Q V : Type 0} (ask : Asking Q V) where
  -- the diagrams are identical, up to the order's equality of questions
  abbrev pub is_alike : Diagram Q → Diagram Q → Bool
  is_alike (Leaf b) (Leaf c) = beq b c
  is_alike (Leaf b) (Test r low high) = false
  is_alike (Test q low high) (Leaf c) = false
  is_alike (Test q low high) (Test r other_low other_high) =
      is_eq (ask.cmp q r) && (is_alike low other_low && is_alike high other_high)

  -- the number of a diagram among some, which are numbered from n on; `found` where it is not among them
  abbrev pub number_among : ℕ → Option ℕ → List (Diagram Q) → Diagram Q → Option ℕ
  number_among n found [] diagram = found
  number_among n found (other ∷ others) diagram =
      number_among (n + 1) (cond (is_alike other diagram) (Some n) found) others diagram

  abbrev pub number_of : List (Diagram Q) → Diagram Q → Option ℕ
  number_of numbered diagram = number_among 0 None numbered diagram

  -- the question is of the variable of the one before
  abbrev pub goes_on : Option Q → Q → Bool
  goes_on None q = false
  goes_on (Some before) q = ask.shares before q

  module _ (bytes : Q → List ℕ) where
    -- a question with the diagrams for yes and for no
    abbrev pub both : Q → Written Q → Written Q → Written Q
    both q low high = record { bytes = 2 ∷ (bytes q ++ (low.bytes ++ high.bytes)); numbered = high.numbered }

    -- the number of a diagram that was written before, and else its bytes, after which it is numbered
    abbrev pub once : List (Diagram Q) → Diagram Q → Option ℕ → Written Q → Written Q
    once numbered diagram None written =
        record { bytes = written.bytes; numbered = written.numbered ++ diagram ∷ [] }
    once numbered diagram (Some n) written = record { bytes = 3 ∷ number_bytes n; numbered = numbered }

    -- the bytes of a diagram after a question, where these are numbered
    abbrev pub written : Option Q → List (Diagram Q) → Diagram Q → Written Q
    written before numbered (Leaf b) = record { bytes = leaf_byte b ∷ []; numbered = numbered }
    written before numbered (Test q low high) =
        let first : Written Q = written None numbered low in
        let whole : Written Q = both q first (written (Some q) first.numbered high) in
        cond (goes_on before q) whole
        (once numbered (Test q low high) (number_of numbered (Test q low high)) whole)
