-- Bytes that are text, and bytes that are none.
use Rattle.std.proofs.Common.{◌≡◌, ◌∙◌, ◌++◌, ℕ, Bool, true, false, List, Option, Some, None, Result, Ok, Err}
use Rattle.std.proofs.Common.{IfOk, IfSome, String, string_bytes, length, take, ap, refl, subst}
use Rattle.std.proofs.Math.Seq.{take-append_seam}
use Rattle.std.proofs.lemmas.Grind.{put_two}
use Rattle.std.specs.Fmt.{◌++?◌, WritesOnOk, DisplaysOnOk}
use Rattle.std.specs.Result.{IsOk}
use Rattle.std.specs.declared.fmt.Formatter.{Formatter}
use Rattle.std.specs.declared.fmt.Error.{Error}
use Rattle.std.specs.Io.{StartsWith}
use Rattle.std.proofs.lemmas.Str.{IsUtf8-from_is_utf8}
use Rattle.std.specs.Str.{is_utf8, IsUtf8}

by_test : (bytes : List ℕ) (t : Bool) → is_utf8 bytes ≡ t → (IsUtf8 bytes → ⊥) → t ≡ false
by_test bytes true e h = absurd (h (IsUtf8-from_is_utf8 bytes e))
by_test bytes false e h = refl

pub is_utf8-false : (bytes : List ℕ) → (IsUtf8 bytes → ⊥) → is_utf8 bytes ≡ false
is_utf8-false bytes h = by_test bytes (is_utf8 bytes) refl h

-- a text that was made is the one that is wanted
pub made : {Y E : Type 0} (made : Result (String Y) E) (given wanted : List ℕ)
    → IfOk made (λ text. string_bytes text ≡ given) → given ≡ wanted → IfOk made (λ text. string_bytes text ≡ wanted)
made (Ok text) given wanted h e = h ∙ e
made (Err error) given wanted h e = tt

-- a text before one that may have any bytes
pub said_behind : {Y E : Type 0} (made : Result (String Y) E) (front shown : List ℕ) (said : Option (List ℕ))
    → IfSome said (λ wanted. shown ≡ wanted) → IfOk made (λ text. string_bytes text ≡ front ++ shown)
    → IfOk made (λ text. IfSome (Some front ++? said) (λ wanted. string_bytes text ≡ wanted))
said_behind (Ok text) front shown None e h = tt
said_behind (Ok text) front shown (Some wanted) e h = h ∙ ap (λ l. front ++ l) e
said_behind (Err error) front shown said e h = tt

-- such a text begins so
pub begins : {Y E : Type 0} (made : Result (String Y) E) (front shown : List ℕ)
    → IfOk made (λ text. string_bytes text ≡ front ++ shown)
    → IfOk made (λ text. StartsWith (string_bytes text) front)
begins (Ok text) front shown h = ap (take (length front)) h ∙ take-append_seam front shown
begins (Err error) front shown h = tt

-- a text that is written is the one that is wanted
pub written : {W : Type 0} (took : W → List ℕ → W → Type 0) (old new : Formatter W) (result : Result (Unit {0}) Error)
    (given wanted : List ℕ) → WritesOnOk took old result given new → given ≡ wanted → WritesOnOk took old result wanted new
written took old new result given wanted h e = subst (λ bs. WritesOnOk took old result bs new) e h

-- a text that is written after one that was
pub written_behind : {W : Type 0} (took : W → List ℕ → W → Type 0) (old mid new : Formatter W) (first result : Result (Unit {0}) Error)
    (front : List ℕ) (said : Option (List ℕ)) → WritesOnOk took old first front mid → IsOk first
    → DisplaysOnOk took mid result said new → DisplaysOnOk took old result (Some front ++? said) new
written_behind took old mid new first result front None h ok k = tt
written_behind took old mid new first result front (Some wanted) h ok k =
    λ plain done. let wrote = h plain ok in
    put_two took old mid new front wanted (front ++ wanted) wrote (k wrote.plain done) refl
