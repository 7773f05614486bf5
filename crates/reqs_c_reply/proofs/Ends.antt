-- How calls end.
use Rattle.std.proofs.Common.{◌≡◌, ℕ, Bool, true, false, List, Result, Ok, Err, String, string_bytes}
use Rattle.std.proofs.Common.{MatchResult, IfOk, refl, sym, subst}
use Rattle.std.proofs.lemmas.Str.{IsUtf8-from_is_utf8}
use Rattle.std.specs.Str.{is_utf8, IsUtf8}
use Rattle.reqs_c_reply.specs.declared.place.Place.{Place}
use Rattle.reqs_c_reply.specs.Endings.{Ending, Answered, Different, Refused, OutOfMemory, EndsIn, NoAnswer}

by_test : (bytes : List ℕ) (t : Bool) → is_utf8 bytes ≡ t → (IsUtf8 bytes → ⊥) → t ≡ false
by_test bytes true e h = absurd (h (IsUtf8-from_is_utf8 bytes e))
by_test bytes false e h = refl

pub is_utf8-false : (bytes : List ℕ) → (IsUtf8 bytes → ⊥) → is_utf8 bytes ≡ false
is_utf8-false bytes h = by_test bytes (is_utf8 bytes) refl h

module _ (Answers : List ℕ → Type 0) (Refuses : Place → List ℕ → Type 0) where
  -- a call that is refused ends so, whatever it might have answered
  pub refused : (ending : Ending) → EndsIn NoAnswer Refuses ending → EndsIn Answers Refuses ending
  refused (Answered text) h = absurd h
  refused (Different text) h = absurd h
  refused (Refused place text) h = h
  refused OutOfMemory h = tt

  -- and one that may be refused for less
  pub refused_more : (Fewer : Place → List ℕ → Type 0)
      → ((place : Place) (text : List ℕ) → Fewer place text → Refuses place text)
      → (ending : Ending) → EndsIn NoAnswer Fewer ending → EndsIn Answers Refuses ending
  refused_more Fewer each (Answered text) h = absurd h
  refused_more Fewer each (Different text) h = absurd h
  refused_more Fewer each (Refused place text) h = each place text h
  refused_more Fewer each OutOfMemory h = tt

  -- a message that was made refuses so
  pub refused_with : {Y E : Type 0} (place : Place) (message : Result (String Y) E) (ending : Ending) (wanted : List ℕ)
      → MatchResult message (λ text. ending ≡ Refused place (string_bytes text)) (λ error. ending ≡ OutOfMemory)
      → IfOk message (λ text. string_bytes text ≡ wanted) → Refuses place wanted → EndsIn Answers Refuses ending
  refused_with place (Ok text) ending wanted is made h =
      subst (EndsIn Answers Refuses) (sym is) (subst (Refuses place) (sym made) h)
  refused_with place (Err error) ending wanted is made h = subst (EndsIn Answers Refuses) (sym is) tt

  -- and a text that was made is answered so
  pub answered_with : {Y E : Type 0} (text : Result (String Y) E) (ending : Ending) (wanted : List ℕ)
      → MatchResult text (λ text. ending ≡ Answered (string_bytes text)) (λ error. ending ≡ OutOfMemory)
      → IfOk text (λ text. string_bytes text ≡ wanted) → Answers wanted → EndsIn Answers Refuses ending
  answered_with (Ok text) ending wanted is made h =
      subst (EndsIn Answers Refuses) (sym is) (subst Answers (sym made) h)
  answered_with (Err error) ending wanted is made h = subst (EndsIn Answers Refuses) (sym is) tt
