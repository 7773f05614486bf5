-- What an error says of a text is the reason for which the text is no requirement without a name.
use Rattle.std.proofs.Common.{◌≡◌, ◌⊎◌, ℕ, Bool, true, false, List, Option, Some, None, Result, Ok, Err}
use Rattle.std.proofs.Common.{IfSome, refl, sym, ap, subst, inl, inr, ⊎_elim}
use Rattle.std.specs.Str.{skip_leading_whitespace}
use Rattle.pep508_error.specs.declared.excerpt.Excerpt.{Excerpt}
use Rattle.pep508_error.specs.declared.refusal.Refusal.{Refusal}
use Rattle.pep508_error.specs.declared.refusal.RefusalKind.{RefusalKind}
use Rattle.pep508_error.specs.declared.refusal.RefusalKind.TheVariants as kinds
use Rattle.pep508_error.specs.declared.error.Pep508Error.{Pep508Error}
use Rattle.pep508_error.specs.declared.error.Pep508ErrorSource.{Pep508ErrorSource}
use Rattle.pep508_error.specs.declared.error.Pep508ErrorSource.TheVariants as sources
use Rattle.pep508_error.specs.Errors.{Fault, fault_at, told_by, told_error, told_refusal}
use Rattle.pep508_marker_parser.specs.MarkerReading.{Marker}
use Rattle.pep508_marker_parser.specs.SideReading as marker_reading
use Rattle.pep508_marker_parser.specs.Outcome as marker_outcome
use Rattle.pep508_requirement_text.specs.FrontReading.Refused.{Malformed}
use Rattle.pep508_requirement_text.specs.FrontOutcome.{IsPlain}
use Rattle.pep508_requirement_text.specs.UnnamedReading.{UnnamedFront, IsUnnamedReading}
use Rattle.pep508_requirement.specs.MarkerBehind.{marker_behind}
use Rattle.pep508_requirement.specs.Pieces.{UrlRefusedBy, IsUrlError}
use Rattle.pep508_requirement.specs.UnnamedRequirementReading.{IsUnnamedMarkerRefused, UnnamedRefusedBy}
use Rattle.pep508_requirement.specs.UnnamedRequirementReading.{IsUnnamedRefused}
use Rattle.pep508_requirement.proofs.Refusing.{Says, says, said_input, moved, source_in, input_in}

-- ---- errors of URLs

module _ {T E : Type 0} (Reads : List ℕ → Result T E → Type 0) (lacks : E → Bool) (text : List ℕ) where
  not_lacking : (b : Bool) (source : Pep508ErrorSource T E) → (b ≡ true → source ≡ sources.Memory)
      → (source ≡ sources.Memory → ⊥) → b ≡ false
  not_lacking true source h other = absurd (other (h refl))
  not_lacking false source h other = refl

  same_error : (e f : E) → ◌≡◌ {A = Pep508ErrorSource T E} (sources.UrlError e) (sources.UrlError f) → e ≡ f
  same_error e f h = cc

  url_said : (source : Pep508ErrorSource T E) (error : E) → sources.UrlError error ≡ source
      → (lacks error ≡ true → source ≡ sources.Memory) → Reads text (Err error)
      → UrlRefusedBy Reads lacks text source
  url_said sources.Memory error said lacking read = tt
  url_said (sources.UrlError e) error said lacking read = (
    subst (λ x. Reads text (Err x)) (same_error error e said) read,
    subst (λ x. lacks x ≡ false) (same_error error e said)
        (not_lacking (lacks error) (sources.UrlError e) lacking (λ h. cc)),
  )
  url_said (sources.String message) error said lacking read = cc
  url_said (sources.UnsupportedRequirement message) error said lacking read = cc
  url_said sources.NumberAtEnd error said lacking read = cc

  url_cause_of : (source : Pep508ErrorSource T E) (excerpt : Excerpt) (error : E) (whole : List ℕ) (start len : ℕ)
      → (lacks error ≡ true → source ≡ sources.Memory)
      → IfSome (told_by source excerpt) (λ fault. fault_at (sources.UrlError error) whole start len ≡ Some fault)
      → Reads text (Err error) → UrlRefusedBy Reads lacks text source
  url_cause_of sources.Memory excerpt error whole start len lacking told read = tt
  url_cause_of (sources.UrlError e) excerpt error whole start len lacking told read =
      url_said (sources.UrlError e) error (ap (source_in T E) told) lacking read
  url_cause_of (sources.String message) excerpt error whole start len lacking told read =
      url_said (sources.String message) error (ap (source_in T E) told) lacking read
  url_cause_of (sources.UnsupportedRequirement message) excerpt error whole start len lacking told read =
      url_said (sources.UnsupportedRequirement message) error (ap (source_in T E) told) lacking read
  url_cause_of sources.NumberAtEnd excerpt error whole start len lacking told read =
      url_said sources.NumberAtEnd error (ap (source_in T E) told) lacking read

  input_of : (told : Option (Fault T E)) (error : E) (whole : List ℕ) (start len : ℕ)
      → IfSome told (λ fault. fault_at (sources.UrlError error) whole start len ≡ Some fault)
      → IfSome told (λ fault. fault.input ≡ whole)
  input_of None error whole start len h = tt
  input_of (Some fault) error whole start len h = sym (ap (input_in T E whole) h)

  -- the error of what is said of a URL's text
  pub given_error : (error : E) (found : Pep508Error T E) (whole : List ℕ) (start len : ℕ)
      → (lacks error ≡ true → found.message ≡ sources.Memory)
      → IfSome (told_error found) (λ fault. fault_at (sources.UrlError error) whole start len ≡ Some fault)
      → Reads text (Err error) → IsUrlError Reads lacks text whole found
  given_error error found whole start len lacking told read = record {
    cause = url_cause_of found.message found.excerpt error whole start len lacking told read;
    input = input_of (told_error found) error whole start len told;
  }

-- ---- errors of requirements

module _ {T E : Type 0} (Reads : List ℕ → Result T E → Type 0) (lacks : E → Bool) (text : List ℕ) where
  front_cause : (source : Pep508ErrorSource T E) (kind : RefusalKind) → Says source kind → IsPlain kind
      → (kind ≡ kinds.Memory) ⊎ IsUnnamedReading text (Err Malformed) → UnnamedRefusedBy Reads lacks text source
  front_cause sources.Memory kind said plain h = tt
  front_cause (sources.UrlError error) kind said plain h = absurd said
  front_cause sources.NumberAtEnd kind said plain h = absurd (subst IsPlain said plain)
  front_cause (sources.UnsupportedRequirement message) kind said plain h = absurd (subst IsPlain said plain)
  front_cause (sources.String message) kind said plain h =
      ⊎_elim (λ (e : kind ≡ kinds.Memory). cc)
      (λ (malformed : IsUnnamedReading text (Err Malformed)). inl malformed) h

  -- the front is refused
  pub unnamed_front_error : (error : Pep508Error T E) (refusal : Refusal)
      → IfSome (told_error error) (λ fault. told_refusal refusal ≡ Some fault)
      → ((refusal.kind ≡ kinds.Memory → ⊥) → refusal.input.now ≡ text)
      → IsPlain refusal.kind × ((refusal.kind ≡ kinds.Memory) ⊎ IsUnnamedReading text (Err Malformed))
      → IsUnnamedRefused Reads lacks text error
  unnamed_front_error error refusal told of h = record {
    cause =
        front_cause error.message refusal.kind
        (says T E error.message error.excerpt refusal.kind refusal.input.now refusal.start refusal.len told) h.0 h.1;
    input =
        said_input T E (told_error error) refusal.kind refusal.input.now text refusal.start refusal.len of told;
  }

  module _ (front : UnnamedFront) (rest : List ℕ) (reading : IsUnnamedReading text (Ok (front, rest))) where
    url_cause : (source : Pep508ErrorSource T E) → UrlRefusedBy Reads lacks front.url source
        → UnnamedRefusedBy Reads lacks text source
    url_cause sources.Memory h = tt
    url_cause (sources.UrlError error) h =
        record { front = front; rest = rest; reading = reading; reads = h.0; told = h.1 }
    url_cause source h = absurd h

    -- the URL is refused
    pub unnamed_url_error : (error : Pep508Error T E) (whole : List ℕ) → whole ≡ text
        → IsUrlError Reads lacks front.url whole error → IsUnnamedRefused Reads lacks text error
    unnamed_url_error error whole at h = record {
      cause = url_cause error.message h.cause;
      input = moved T E (told_error error) whole text at h.input;
    }

    module _ (read : T) (url : Reads front.url (Ok read)) where
      marker_refused : (kind : RefusalKind) (outcome : Result Marker marker_reading.Refused)
          → marker_behind (skip_leading_whitespace rest) ≡ outcome → (kind ≡ kinds.Memory → ⊥)
          → marker_outcome.Tells kind outcome → IsUnnamedMarkerRefused Reads text kind
      marker_refused kind (Ok marker) e other h = absurd (other h)
      marker_refused kind (Err refused) e other h = record {
        front = front;
        rest = rest;
        read = read;
        refused = refused;
        reading = reading;
        url = url;
        is_marker = e;
        fits = h;
      }

      unsupported_never : (message : _) (outcome : Result Marker marker_reading.Refused)
          → marker_outcome.Tells (kinds.UnsupportedRequirement message) outcome → ⊥
      unsupported_never message (Ok marker) h = cc
      unsupported_never message (Err refused) h = h

      marker_cause : (source : Pep508ErrorSource T E) (kind : RefusalKind) → Says source kind
          → marker_outcome.Tells kind (marker_behind (skip_leading_whitespace rest))
          → UnnamedRefusedBy Reads lacks text source
      marker_cause sources.Memory kind said h = tt
      marker_cause (sources.UrlError error) kind said h = absurd said
      marker_cause sources.NumberAtEnd kind said h =
          marker_refused kinds.NumberAtEnd (marker_behind (skip_leading_whitespace rest)) refl (λ e. cc)
          (subst (λ k. marker_outcome.Tells k (marker_behind (skip_leading_whitespace rest))) said h)
      marker_cause (sources.String message) kind said h =
          inr (marker_refused (kinds.String message) (marker_behind (skip_leading_whitespace rest)) refl (λ e. cc)
          (subst (λ k. marker_outcome.Tells k (marker_behind (skip_leading_whitespace rest))) said h))
      marker_cause (sources.UnsupportedRequirement message) kind said h =
          unsupported_never message (marker_behind (skip_leading_whitespace rest))
          (subst (λ k. marker_outcome.Tells k (marker_behind (skip_leading_whitespace rest))) said h)

    -- the marker behind the URL is refused
    pub unnamed_marker_error : (error : Pep508Error T E) (refusal : Refusal) (read : T) → Reads front.url (Ok read)
        → IfSome (told_error error) (λ fault. told_refusal refusal ≡ Some fault)
        → ((refusal.kind ≡ kinds.Memory → ⊥) → refusal.input.now ≡ text)
        → marker_outcome.Tells refusal.kind (marker_behind (skip_leading_whitespace rest))
        → IsUnnamedRefused Reads lacks text error
    unnamed_marker_error error refusal read url told of h = record {
      cause =
          marker_cause read url error.message refusal.kind
          (says T E error.message error.excerpt refusal.kind refusal.input.now refusal.start refusal.len told) h;
      input =
          said_input T E (told_error error) refusal.kind refusal.input.now text refusal.start refusal.len of told;
    }
