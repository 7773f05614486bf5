-- The parts of a front, one after another.
use Rattle.std.proofs.Common.{◌≡◌, ◌==◌, ◌<◌, ℕ, Bool, true, false, if◌then◌else◌, List, [], ◌∷◌, ◌++◌}
use Rattle.std.proofs.Common.{length, Result, Ok, Err, refl, sym, ap, subst, ◌∙◌, arith}
use Rattle.std.proofs.lemmas.Bool.Decides.{nat_tests}
use Rattle.std.proofs.lemmas.List.{append_cancel_left}
use Rattle.std.proofs.lemmas.Str.{chars-nil, encodes-chars}
use Rattle.std.specs.Str.{chars, encode_utf8_all, skip_leading_whitespace, IsUtf8}
use Rattle.pep508_url.specs.Vars.{Variables}
use Rattle.pep508_name.specs.Name.{normal_name}
use Rattle.pep508_error.specs.declared.refusal.RefusalKind.{RefusalKind}
use Rattle.pep508_requirement_text.specs.UrlEnds.{url_split}
use Rattle.pep508_requirement_text.specs.FrontReading.{Refused, Source, if_url, name_at, extras_at, source_at}
use Rattle.pep508_requirement_text.specs.FrontReading.{behind_name, behind_extras, with_source, front_reading}
use Rattle.pep508_error.specs.Steps.{◌>>=◌}
use Rattle.pep508_requirement_text.specs.FrontReading.Refused.{Malformed}
use Rattle.pep508_requirement_text.specs.FrontReading.Source.{Url}
use Rattle.pep508_requirement_text.specs.FrontOutcome.{Tells}
use Rattle.pep508_requirement_text.proofs.Outcomes.{stops}

-- ---- URLs

some_left : (c : ℕ) (cs : List ℕ) → (length (c ∷ cs) == 0) ≡ false
some_left c cs = let n : 0 < length (c ∷ cs) = omega arith in grind (arith, nat_tests)

by_chars : (cs text : List ℕ) → encode_utf8_all cs ≡ text → (length text == 0) ≡ false → (length cs == 0) ≡ false
by_chars [] [] e h = h
by_chars [] (b ∷ bs) e h = absurd (cc)
by_chars (c ∷ cs) text e h = some_left c cs

pub nothing : (text : List ℕ) → (length text == 0) ≡ true → text ≡ []
nothing [] h = refl
nothing (b ∷ bs) h = absurd (cc (sym (some_left b bs) ∙ h))

abbrev chosen : List ℕ × List ℕ → Bool → Result (Source × List ℕ) Refused
chosen parts none = if none then Err Malformed else Ok (Url (encode_utf8_all parts.0), parts.1)

pub url_read : (text rest : List ℕ) (parts : List ℕ × List ℕ) → IsUtf8 text → (chars text, rest) ≡ parts
    → (length text == 0) ≡ false → if_url parts ≡ Ok (Url text, rest)
url_read text rest parts u e h =
    ap if_url (sym e) ∙ ap (chosen (chars text, rest)) (by_chars (chars text) text (encodes-chars text u) h)
    ∙ ap (λ (xs : List ℕ). Ok (Url xs, rest)) (encodes-chars text u)

pub url_missing : (text rest : List ℕ) (parts : List ℕ × List ℕ) → (chars text, rest) ≡ parts
    → (length text == 0) ≡ true → if_url parts ≡ Err Malformed
url_missing text rest parts e h =
    let none : (length (chars text) == 0) ≡ true =
    ap (λ (xs : List ℕ). length xs == 0) (ap chars (nothing text h) ∙ chars-nil) in
    ap if_url (sym e) ∙ ap (chosen (chars text, rest)) none

-- ---- the whole

module _ (vars : Variables) (kind : RefusalKind) (text name_text : List ℕ) (at : name_text ≡ skip_leading_whitespace (chars text)) where
  reading_is : front_reading text ≡ (name_at name_text >>= behind_name (chars text))
  unfolding front_reading
  reading_is = ap (λ (cs : List ℕ). name_at cs >>= behind_name (chars text)) (sym at)

  pub name_stops : Tells vars kind (name_at name_text) → Tells vars kind (front_reading text)
  name_stops h =
      subst (Tells vars kind) (sym reading_is) (stops vars kind (name_at name_text) (behind_name (chars text)) h)

  module _ (name after extras_text : List ℕ) (named : name_at name_text ≡ Ok (name, after))
      (extras_at_text : extras_text ≡ skip_leading_whitespace after) where
    named_is : front_reading text ≡ (extras_at extras_text >>= behind_extras (chars text) name)
    named_is =
        reading_is ∙ ap (λ (m : Result (List ℕ × List ℕ) Refused). m >>= behind_name (chars text)) named
        ∙ ap (λ (cs : List ℕ). extras_at cs >>= behind_extras (chars text) name) (sym extras_at_text)

    pub extras_stop : Tells vars kind (extras_at extras_text) → Tells vars kind (front_reading text)
    extras_stop h =
        subst (Tells vars kind) (sym named_is)
        (stops vars kind (extras_at extras_text) (behind_extras (chars text) name) h)

    module _ (extras : List (List ℕ)) (later source_text : List ℕ) (listed : extras_at extras_text ≡ Ok (extras, later))
        (source_at_text : source_text ≡ skip_leading_whitespace later) where
      listed_is : front_reading text ≡ (source_at (chars text) name source_text >>= with_source name extras)
      listed_is =
          named_is ∙ ap (λ (m : Result (List (List ℕ) × List ℕ) Refused). m >>= behind_extras (chars text) name) listed
          ∙ ap (λ (cs : List ℕ). source_at (chars text) name cs >>= with_source name extras) (sym source_at_text)

      pub source_stops : Tells vars kind (source_at (chars text) name source_text) → Tells vars kind (front_reading text)
      source_stops h =
          subst (Tells vars kind) (sym listed_is)
          (stops vars kind (source_at (chars text) name source_text) (with_source name extras) h)

      pub front_is : (source : Source) (rest : List ℕ) → source_at (chars text) name source_text ≡ Ok (source, rest)
          → front_reading text ≡ Ok (record { name = normal_name name; extras = extras; source = source }, rest)
      front_is source rest e =
          listed_is ∙ ap (λ (m : Result (Source × List ℕ) Refused). m >>= with_source name extras) e

-- a URL, where its text ends
pub url_placed : (brackets : Bool) (here text front rest later : List ℕ) → text ≡ here → text ≡ front ++ rest
    → here ≡ front ++ later → (chars front, chars rest) ≡ url_split brackets 0 (chars text)
    → (chars front, chars later) ≡ url_split brackets 0 (chars here)
url_placed brackets here text front rest later e whole at cut =
    let same : later ≡ rest = append_cancel_left front later rest (sym at ∙ sym e ∙ whole) in
    ap (λ (xs : List ℕ). (chars front, chars xs)) same ∙ cut
    ∙ ap (λ (xs : List ℕ). url_split brackets 0 (chars xs)) e
