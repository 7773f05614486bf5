-- Single quotes in what is left of a text.
use Rattle.std.proofs.Common.{◌≡◌, ℕ, ◌==◌, ◌||◌, true, false, List, ◌++◌, length, chars, encode_utf8, sym}
use Rattle.std.proofs.Common.{ap, ◌∙◌, inl, inr}
use Rattle.std.proofs.lemmas.Bool.{cases_Bool}
use Rattle.std.proofs.lemmas.Str.{chars-nil, chars_past_char, IsUtf8-past_char}
use Rattle.std.proofs.lemmas.List.{nil_from_length}
use Rattle.std.specs.Cmp.{unsigned_Decides}
use Rattle.std.specs.List.{list_any}
use Rattle.std.specs.Str.{IsUtf8}
use Rattle.pep508_questions.specs.Asks.{is_quoted}

-- these bytes of a text are left, and no quote stood before them
pub record IsPast (text rest : List ℕ) : Type 0 where
  pub utf8 : IsUtf8 rest
  pub same : is_quoted rest ≡ is_quoted text

module _ (text rest later : List ℕ) (c : ℕ) (past : IsPast text rest)
    (at : rest ≡ encode_utf8 c ++ later) where
  next_quote : ((c == 39) || is_quoted later) ≡ is_quoted text
  next_quote = ap (list_any (λ c. c == 39)) (sym (chars_past_char rest later c past.utf8 at)) ∙ past.same

  pub quote_on : (c ≡ 39 → ⊥) → IsPast text later
  quote_on other = record {
    utf8 = IsUtf8-past_char rest later c past.utf8 at;
    same = elim (cases_Bool (c == 39)) [
      | inl e ↦ absurd (other ((unsigned_Decides c 39).0 e))
      | inr e ↦ sym (ap (λ b. b || is_quoted later) e) ∙ next_quote
    ];
  }

  pub quote_found : c ≡ 39 → true ≡ is_quoted text
  quote_found e = sym (ap (λ b. b || is_quoted later) ((unsigned_Decides c 39).1 e)) ∙ next_quote

pub no_quote : (text rest : List ℕ) → IsPast text rest → length rest ≡ 0 → false ≡ is_quoted text
no_quote text rest past none =
    ap (list_any (λ c. c == 39)) (sym (ap chars (nil_from_length rest none) ∙ chars-nil)) ∙ past.same
