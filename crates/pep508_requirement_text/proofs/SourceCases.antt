-- What follows a name, by its first character.
use Rattle.std.proofs.Common.{◌≡◌, ◌≢◌, ℕ, Bool, true, false, if◌then◌else◌, eqb, List, ◌∷◌, Err, refl, sym}
use Rattle.std.proofs.Common.{ap, ◌∙◌, arith}
use Rattle.std.proofs.lemmas.Bool.Decides.{nat_tests}
use Rattle.std.specs.Str.{skip_leading_whitespace}
use Rattle.pep508_requirement_text.specs.UrlEnds.{url_split}
use Rattle.pep508_requirement_text.specs.FrontReading.{Source, Reading, source_at, if_url, listed, alone}
use Rattle.pep508_requirement_text.specs.FrontReading.{begins_operator, run_of}
use Rattle.pep508_error.specs.Cuts.{encoded_cut}
use Rattle.pep508_requirement_text.specs.FrontReading.Refused.{Nameless}
use Rattle.pep508_requirement_text.specs.FrontFound.{enclosed_at}

is_not : (c d : ℕ) → c ≢ d → eqb c d ≡ false
is_not c d h = grind (arith, nat_tests)

module _ (whole name : List ℕ) (c : ℕ) (inner : List ℕ) where
  abbrev tested : Bool → Bool → Bool → Bool → Reading Source
  tested at opens operator ends =
      if at then if_url (url_split false 0 (skip_leading_whitespace inner))
      else (if opens then enclosed_at inner
      else (if operator then listed (encoded_cut (λ d. eqb d 59) (c ∷ inner))
      else (if ends then alone name (c ∷ inner) else Err (Nameless (run_of whole)))))

  by_tests : (at opens operator ends : Bool) → eqb c 64 ≡ at → eqb c 40 ≡ opens → begins_operator c ≡ operator
      → eqb c 59 ≡ ends → source_at whole name (c ∷ inner) ≡ tested at opens operator ends
  by_tests at opens operator ends p q r s =
      ap (λ (t : Bool). tested t (eqb c 40) (begins_operator c) (eqb c 59)) p
      ∙ ap (λ (t : Bool). tested at t (begins_operator c) (eqb c 59)) q
      ∙ ap (λ (t : Bool). tested at opens t (eqb c 59)) r
      ∙ ap (λ (t : Bool). tested at opens operator t) s

  module _ (cs : List ℕ) (e : cs ≡ c ∷ inner) where
    begun : source_at whole name cs ≡ source_at whole name (c ∷ inner)
    begun = ap (source_at whole name) e

    pub at_url : c ≡ 64 → source_at whole name cs ≡ if_url (url_split false 0 (skip_leading_whitespace inner))
    at_url h = begun ∙ ap (λ (d : ℕ). source_at whole name (d ∷ inner)) h

    pub at_bracket : c ≡ 40 → source_at whole name cs ≡ enclosed_at inner
    at_bracket h = begun ∙ ap (λ (d : ℕ). source_at whole name (d ∷ inner)) h

    pub at_operator : c ≢ 64 → c ≢ 40 → begins_operator c ≡ true
        → source_at whole name cs ≡ listed (encoded_cut (λ d. eqb d 59) cs)
    at_operator p q r =
        begun ∙ by_tests false false true (eqb c 59) (is_not c 64 p) (is_not c 40 q) r refl
        ∙ ap (λ (xs : List ℕ). listed (encoded_cut (λ d. eqb d 59) xs)) (sym e)

    pub at_marker : c ≡ 59 → source_at whole name cs ≡ alone name cs
    at_marker h =
        begun ∙ ap (λ (d : ℕ). source_at whole name (d ∷ inner)) h
        ∙ ap (λ (d : ℕ). alone name (d ∷ inner)) (sym h) ∙ ap (alone name) (sym e)

    pub at_other : c ≢ 64 → c ≢ 40 → begins_operator c ≡ false → c ≢ 59
        → source_at whole name cs ≡ Err (Nameless (run_of whole))
    at_other p q r s = begun ∙ by_tests false false false false (is_not c 64 p) (is_not c 40 q) r (is_not c 59 s)
