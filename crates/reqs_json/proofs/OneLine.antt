-- A value's line, and its text.
use Rattle.std.proofs.Common.{◌≡◌, ◌∙◌, ap, Result, Ok, Err, IfOk, String, string_bytes}
use Rattle.serde_json.specs.Data.{Data}
use Rattle.reqs_json.specs.Lines.{line_of, value_text}

-- that of a value that was made is the line of the one that is wanted
pub line_is : {Y E : Type 0} (line : Result (String Y) E) (made wanted : Data) → made ≡ wanted
    → IfOk line (λ text. string_bytes text ≡ line_of made) → IfOk line (λ text. string_bytes text ≡ line_of wanted)
line_is (Ok text) made wanted e h = h ∙ ap line_of e
line_is (Err error) made wanted e h = tt

-- and its text is that of the one that is wanted
pub text_is : {Y E : Type 0} (shown : Result (String Y) E) (made wanted : Data) → made ≡ wanted
    → IfOk shown (λ text. string_bytes text ≡ value_text made) → IfOk shown (λ text. string_bytes text ≡ value_text wanted)
text_is (Ok text) made wanted e h = h ∙ ap value_text e
text_is (Err error) made wanted e h = tt
