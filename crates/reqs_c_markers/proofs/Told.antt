-- What is said of texts that are refused.
use Rattle.std.proofs.Common.{◌≡◌, ◌≢◌, ◌∙◌, ℕ, true, List, Result, Ok, Err, Option, Some, None, String}
use Rattle.std.proofs.Common.{string_bytes, MatchResult, IfOk, IfSome, ap, inr, refl, sym, subst}
use Rattle.pep508_url.specs.UrlFaults.{url_error_text}
use Rattle.pep508_url.specs.UrlTexts.{Verbatim}
use Rattle.pep508_url.specs.declared.url_error.VerbatimUrlError.{VerbatimUrlError}
use Rattle.pep508_error.specs.declared.excerpt.Excerpt.{Excerpt}
use Rattle.pep508_error.specs.declared.error.Pep508ErrorSource.{Pep508ErrorSource}
use Rattle.pep508_error.specs.declared.error.Pep508ErrorSource.TheVariants as sources
use Rattle.pep508_error.specs.Errors.{Fault, told_by, told_error, source_text}
use Rattle.pep508_error.specs.Spans.{IsSpan}
use Rattle.pep508_comparison_parser.specs.SideReading.{Refused}
use Rattle.pep508_comparison_parser.specs.Outcome.{Shows}
use Rattle.reqs_c_reply.specs.declared.place.Place.{Place}
use Rattle.reqs_c_reply.specs.Endings.{Ending, Refused as RefusedAt, OutOfMemory, EndsIn, NoAnswer, span}
use Rattle.reqs_c_markers.specs.Errors.{TextError, IsToldBy}

-- the fault of what an excerpt shows
abbrev pub shown : Pep508ErrorSource Verbatim VerbatimUrlError → Excerpt → Fault Verbatim VerbatimUrlError
shown source excerpt = record { source = source; input = string_bytes excerpt.input; start = excerpt.start; len = excerpt.len }

-- what is not want of memory tells a fault
pub tells : (source : Pep508ErrorSource Verbatim VerbatimUrlError) (excerpt : Excerpt)
    → (source ≡ sources.Memory → ⊥) → told_by source excerpt ≡ Some (shown source excerpt)
tells sources.Memory excerpt plain = absurd (plain refl)
tells (sources.String text) excerpt plain = refl
tells (sources.UrlError error) excerpt plain = refl
tells (sources.UnsupportedRequirement text) excerpt plain = refl
tells sources.NumberAtEnd excerpt plain = refl

pub is_told : (error : TextError) → (error.message ≡ sources.Memory → ⊥) → told_error error ≡ None → ⊥
is_told error plain none =
    let is : Some (shown error.message error.excerpt) ≡ None = sym (tells error.message error.excerpt plain) ∙ none in (cc)

-- a message that was made says the fault
pub told_with : {Y E : Type 0} (input : ℕ) (error : TextError) (place : Place) (start len : ℕ) (message : Result (String Y) E)
    (ending : Ending)
    → (error.message ≡ sources.Memory → ⊥)
    → place ≡ span input start len → start ≡ error.excerpt.start → len ≡ error.excerpt.len
    → IsSpan (string_bytes error.excerpt.input) error.excerpt.start error.excerpt.len
    → MatchResult message (λ text. ending ≡ RefusedAt place (string_bytes text)) (λ error. ending ≡ OutOfMemory)
    → IfOk message (λ text. IfSome (source_text url_error_text error.message) (λ wanted. string_bytes text ≡ wanted))
    → EndsIn NoAnswer (IsToldBy input error) ending
told_with input error place start len (Ok text) ending plain stands starts ends within is made =
    subst (EndsIn NoAnswer (IsToldBy input error)) (sym is) (record {
      fault = shown error.message error.excerpt;
      tells = tells error.message error.excerpt plain;
      stands = (cc);
      within = within;
      says = made;
    })
told_with input error place start len (Err failed) ending plain stands starts ends within is made =
    subst (EndsIn NoAnswer (IsToldBy input error)) (sym is) tt
