-- Extras are refused as malformed alone.
use Rattle.std.proofs.Common.{◌≡◌, ℕ, ◌==◌, true, false, if◌then◌else◌, List, [], ◌∷◌, Option, Some, None}
use Rattle.std.proofs.Common.{Result, Ok, Err, IfSome, refl, ap, subst, ◌∙◌, option_map, chars}
use Rattle.pep508_url.specs.Vars.{Variables}
use Rattle.pep508_error.specs.declared.refusal.Refusal.{Refusal}
use Rattle.pep508_error.specs.declared.refusal.RefusalKind.{RefusalKind}
use Rattle.pep508_error.specs.declared.refusal.RefusalKind.TheVariants as kinds
use Rattle.pep508_error.specs.declared.error.Pep508Error.{Pep508Error}
use Rattle.pep508_error.specs.declared.error.Pep508ErrorSource.{Pep508ErrorSource}
use Rattle.pep508_error.specs.declared.error.Pep508ErrorSource.TheVariants as sources
use Rattle.pep508_error.specs.Errors.{told_error, told_refusal}
use Rattle.pep508_requirement_text.specs.FrontReading.{Refused, Reading, if_there, extras_of, bracketed}
use Rattle.pep508_requirement_text.specs.FrontReading.{extras_at}
use Rattle.pep508_error.specs.Steps.{◌>>=◌}
use Rattle.pep508_error.specs.Cuts.{cut_around}
use Rattle.pep508_requirement_text.specs.FrontReading.Refused.{Malformed}
use Rattle.pep508_requirement_text.specs.FrontOutcome.{Fits, Tells}
use Rattle.pep508_requirement.specs.ExtrasReading.{ExtrasRefusedBy}
use Rattle.pep508_requirement.proofs.Refusing.{Says, says, said_input}

there_plain : {A : Type 0} (o : Option A) (refused : Refused) → if_there o ≡ Err refused → refused ≡ Malformed
there_plain None refused h = cc
there_plain (Some x) refused h = cc

bracketed_plain : (o : Option (List ℕ × List ℕ)) (refused : Refused) → (if_there o >>= bracketed) ≡ Err refused
    → refused ≡ Malformed
bracketed_plain None refused h = cc
bracketed_plain (Some parts) refused h =
    there_plain (option_map (λ names. (names, parts.1)) (extras_of parts.0)) refused h

extras_plain : (cs : List ℕ) (refused : Refused) → extras_at cs ≡ Err refused → refused ≡ Malformed
extras_plain [] refused h = cc
extras_plain (c ∷ cs) refused h =
    elim (c == 91) as
    (λ b. ◌≡◌ {A = Reading (List (List ℕ))} (if b then if_there (cut_around 93 cs) >>= bracketed else Ok ([], c ∷ cs)) (Err refused)
    → refused ≡ Malformed)
    [ true ↦ bracketed_plain (cut_around 93 cs) refused | false ↦ (λ e. cc) ] h

module _ {T E : Type 0} (vars : Variables) (text : List ℕ) where
  cause_by : (source : Pep508ErrorSource T E) (outcome : Result (List (List ℕ) × List ℕ) Refused) (kind : RefusalKind)
      → extras_at (chars text) ≡ outcome → Says source kind → Tells vars kind outcome → ExtrasRefusedBy text source
  cause_by sources.Memory outcome kind e said h = tt
  cause_by (sources.UrlError error) outcome kind e said h = absurd said
  cause_by sources.NumberAtEnd (Ok found) kind e said h = cc
  cause_by sources.NumberAtEnd (Err refused) kind e said h = absurd (subst (λ k. Fits vars k refused) said h)
  cause_by (sources.String message) (Ok found) kind e said h = cc
  cause_by (sources.String message) (Err refused) kind e said h =
      e ∙ ap Err (extras_plain (chars text) refused e)
  cause_by (sources.UnsupportedRequirement message) (Ok found) kind e said h = cc
  cause_by (sources.UnsupportedRequirement message) (Err refused) kind e said h =
      absurd (subst (Fits vars (kinds.UnsupportedRequirement message)) (extras_plain (chars text) refused e)
      (subst (λ k. Fits vars k refused) said h))

  pub extras_error : (error : Pep508Error T E) (refusal : Refusal)
      → IfSome (told_error error) (λ fault. told_refusal refusal ≡ Some fault)
      → ((refusal.kind ≡ kinds.Memory → ⊥) → refusal.input.now ≡ text)
      → Tells vars refusal.kind (extras_at (chars text))
      → ExtrasRefusedBy text error.message × IfSome (told_error error) (λ fault. fault.input ≡ text)
  extras_error error refusal told of h = (
    cause_by error.message (extras_at (chars text)) refusal.kind refl
        (says T E error.message error.excerpt refusal.kind refusal.input.now refusal.start refusal.len told) h,
    said_input T E (told_error error) refusal.kind refusal.input.now text refusal.start refusal.len of told,
  )
