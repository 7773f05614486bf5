-- The bytes of what is left to write, from one item to the next.
use Rattle.std.proofs.Common.{◌≡◌, ℕ, Bool, cond, List, [], ◌∷◌, ◌++◌, Some, None}
use Rattle.std.proofs.Common.{refl, ap, ◌∙◌, append_assoc, inl, inr}
use Rattle.std.proofs.lemmas.Bool.{cases_Bool}
use Rattle.pep508_diagram.specs.Diagram.{Diagram, Leaf, Test, Asking}
use Rattle.pep440_key.specs.Key.{number_bytes}
use Rattle.pep508_marker_key.specs.Walk.{leaf_byte, written, number_of}
use Rattle.pep508_marker_key.specs.Left.{Item, Begun, GoneOn, Closed, items_bytes}

module _ {Q V : Type 0} (ask : Asking Q V) (bytes : Q → List ℕ) where
  -- what follows a question where it is answered by no
  abbrev pub after : Q → Diagram Q → Item Q
  after q (Leaf b) = Begun (Leaf b)
  after q (Test r low high) = cond (ask.shares q r) (GoneOn (Test r low high)) (Begun (Test r low high))

  abbrev rest : List (Diagram Q) → List (Item Q) → List ℕ
  rest numbered items = items_bytes ask bytes numbered items

  pub after_bytes : (q : Q) (d : Diagram Q) (numbered : List (Diagram Q)) (items : List (Item Q)) →
      (written ask bytes (Some q) numbered d).bytes
      ++ items_bytes ask bytes (written ask bytes (Some q) numbered d).numbered items
      ≡ items_bytes ask bytes numbered (after q d ∷ items)
  unfolding items_bytes
  after_bytes q (Leaf b) numbered items = refl
  after_bytes q (Test r low high) numbered items = elim (cases_Bool (ask.shares q r)) [
    | inl same ↦ rw same refl
    | inr other ↦ rw other refl
  ]

  pub asked_bytes : (q : Q) (low high : Diagram Q) (numbered : List (Diagram Q)) (items : List (Item Q)) →
      items_bytes ask bytes numbered (GoneOn (Test q low high) ∷ items)
      ≡ (2 ∷ bytes q) ++ items_bytes ask bytes numbered (Begun low ∷ after q high ∷ items)
  unfolding items_bytes
  asked_bytes q low high numbered items =
      let first = written ask bytes None numbered low in
      let second = written ask bytes (Some q) first.numbered high in
      append_assoc (2 ∷ bytes q) (first.bytes ++ second.bytes) (rest second.numbered items)
      ∙ ap (λ xs. (2 ∷ bytes q) ++ xs) (append_assoc first.bytes second.bytes (rest second.numbered items))
      ∙ ap (λ xs. (2 ∷ bytes q) ++ (first.bytes ++ xs)) (after_bytes q high first.numbered items)

  pub leaf_bytes : (b : Bool) (numbered : List (Diagram Q)) (items : List (Item Q)) →
      items_bytes ask bytes numbered (Begun (Leaf b) ∷ items) ≡ (leaf_byte b ∷ []) ++ items_bytes ask bytes numbered items
  unfolding items_bytes
  leaf_bytes b numbered items = refl

  pub closed_bytes : (d : Diagram Q) (numbered : List (Diagram Q)) (items : List (Item Q)) →
      items_bytes ask bytes numbered (Closed d ∷ items) ≡ items_bytes ask bytes (numbered ++ d ∷ []) items
  unfolding items_bytes
  closed_bytes d numbered items = refl

  pub again_bytes : (q : Q) (low high : Diagram Q) (n : ℕ) (numbered : List (Diagram Q)) (items : List (Item Q)) →
      number_of ask numbered (Test q low high) ≡ Some n →
      items_bytes ask bytes numbered (Begun (Test q low high) ∷ items)
      ≡ (3 ∷ number_bytes n) ++ items_bytes ask bytes numbered items
  unfolding items_bytes
  again_bytes q low high n numbered items known = rw known refl

  pub begun_bytes : (q : Q) (low high : Diagram Q) (numbered : List (Diagram Q)) (items : List (Item Q)) →
      number_of ask numbered (Test q low high) ≡ None →
      items_bytes ask bytes numbered (Begun (Test q low high) ∷ items)
      ≡ items_bytes ask bytes numbered (GoneOn (Test q low high) ∷ Closed (Test q low high) ∷ items)
  unfolding items_bytes
  begun_bytes q low high numbered items new = rw new refl
