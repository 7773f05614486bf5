-- The limit that a text is.
use Rattle.std.proofs.Common.{◌≡◌, ℕ, List, Option, Some, None, Result, Ok, Err, refl}
use Rattle.std.specs.Str.Parse.{ParsesUnsigned}
use Rattle.clap.specs.Words.{ReadsOne}
use Rattle.reqs_command.specs.Asked.{LimitIs}

pub limit_is : {E : Type 0} (gives : List ℕ → Result ℕ E → Type 0)
    → ((text : List ℕ) (r : Result ℕ E) → gives text r → ParsesUnsigned 64 10 text r)
    → (told : Option (List ℕ)) (result : Option ℕ) → (told ≡ None → result ≡ None)
    → ((text : List ℕ) → told ≡ Some text → ReadsOne gives text result) → LimitIs told result
limit_is gives parses None result none read = none refl
limit_is gives parses (Some text) (Some limit) none read = parses text (Ok limit) (read text refl)
limit_is gives parses (Some text) None none read =
    λ limit h. let refused = read text refl in parses text (Err refused.0) refused.1 h.0
