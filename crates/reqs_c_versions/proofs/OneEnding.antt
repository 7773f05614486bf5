-- Calls that have one ending, but for want of memory.
use Rattle.std.proofs.Common.{◌≡◌, ◌≢◌, ℕ, true, List, refl, ap}
use Rattle.std.specs.Str.{is_utf8}
use Rattle.reqs_c_reply.specs.declared.place.Place.{Place}
use Rattle.reqs_c_reply.specs.Endings.{Ending, Answered, Different, Refused, OutOfMemory, EndsIn, IsNotText}

module _ (Answers : List ℕ → Type 0) (Refuses : Place → List ℕ → Type 0)
    (one_answer : (text other : List ℕ) → Answers text → Answers other → text ≡ other)
    (one_refusal : (place there : Place) (message other : List ℕ) → Refuses place message
    → Refuses there other → (place ≡ there) × (message ≡ other))
    (not_both : (text : List ℕ) (place : Place) (message : List ℕ) → Answers text → Refuses place message → ⊥)
  where
    -- what has one answer or one refusal, and not both, ends in one way
    pub one_ending : (one other : Ending) → EndsIn Answers Refuses one → EndsIn Answers Refuses other
        → one ≢ OutOfMemory → other ≢ OutOfMemory → one ≡ other
    one_ending (Answered text) (Answered again) h k some also = ap Answered (one_answer text again h k)
    one_ending (Answered text) (Different again) h k some also = absurd k
    one_ending (Answered text) (Refused place message) h k some also =
        absurd (not_both text place message h k)
    one_ending (Answered text) OutOfMemory h k some also = absurd (also refl)
    one_ending (Different text) other h k some also = absurd h
    one_ending (Refused place message) (Answered text) h k some also =
        absurd (not_both text place message k h)
    one_ending (Refused place message) (Different text) h k some also = absurd k
    one_ending (Refused place message) (Refused there again) h k some also =
        let same = one_refusal place there message again h k in λ i. Refused (same.0 i) (same.1 i)
    one_ending (Refused place message) OutOfMemory h k some also = absurd (also refl)
    one_ending OutOfMemory other h k some also = absurd (some refl)

-- ---- bytes that are no text

module _ (input : ℕ) (bytes : List ℕ) where
  -- they are refused in one way
  pub one_not_text : (place there : Place) (message other : List ℕ) → IsNotText input bytes place message
      → IsNotText input bytes there other → (place ≡ there) × (message ≡ other)
  one_not_text place there message other h k = (cc, cc)

  -- and not where they are one
  pub text_or_not : (place : Place) (message : List ℕ) → is_utf8 bytes ≡ true
      → IsNotText input bytes place message → ⊥
  text_or_not place message is h = cc
