-- Texts that are refused for what an error says of them.
use Rattle.std.proofs.Common.{◌≡◌, ℕ, true, List, Some, Result, codes, inl, inr, subst}
use Rattle.std.specs.Str.{is_utf8, chars}
use Rattle.read_outcome.specs.Outcome.{Answers}
use Rattle.pep508_url.specs.Vars.{Variables}
use Rattle.pep508_url.specs.UrlFaults.{told_url}
use Rattle.pep508_url.specs.UrlTexts.{Verbatim, verbatim_reading}
use Rattle.pep508_url.specs.declared.url_error.VerbatimUrlError.{VerbatimUrlError}
use Rattle.pep508_error.specs.Errors.{told_error}
use Rattle.pep508_comparison_parser.specs.Outcome.{Shows}
use Rattle.pep508_marker_parser.specs.MarkerReading.{marker_at}
use Rattle.pep508_requirement.specs.MarkedReading.{IsReadMarked}
use Rattle.pep508_requirement.specs.RequirementReading.{IsRefused}
use Rattle.pep508_requirement.specs.declared.marked_requirement.MarkedRequirement.{MarkedRequirement}
use Rattle.pep508_url.specs.Lacking.{lacks_memory}
use Rattle.reqs_c_reply.specs.Endings.{Ending, EndsIn, NoAnswer, IsNotText}
use Rattle.reqs_c_reply.proofs.Ends.{refused_more}
use Rattle.reqs_c_markers.specs.Errors.{TextError, IsToldBy}
use Rattle.reqs_c_markers.specs.Markers.{RefusesMarker}
use Rattle.reqs_c_markers.specs.Parts.{ReadsUrl, no_variables, AreParts, RefusesRequirement}

-- what may be returned for the text of a URL with these variables
abbrev pub reads_with : Variables → List ℕ → Result Verbatim VerbatimUrlError → Type 0
reads_with vars text outcome =
    Answers (λ url. url) told_url outcome (verbatim_reading vars text (Some (codes "/")))

-- a requirement that is read with no variables
pub read_alone : (vars : Variables) (bytes text : List ℕ) (r : MarkedRequirement Verbatim VerbatimUrlError)
    → vars ≡ no_variables → text ≡ bytes → IsReadMarked (reads_with vars) text r → IsReadMarked ReadsUrl bytes r
read_alone vars bytes text r none is h =
    let alone = subst (λ (v : Variables). IsReadMarked (reads_with v) text r) none h in
    subst (λ (bs : List ℕ). IsReadMarked ReadsUrl bs r) is alone

module _ (input : ℕ) (bytes text : List ℕ) (error : TextError) (e : is_utf8 bytes ≡ true) (is : text ≡ bytes)
    (ending : Ending) (told : EndsIn NoAnswer (IsToldBy input error) ending) where
  pub no_marker : Shows text (told_error error) (marker_at (chars text))
      → EndsIn NoAnswer (RefusesMarker input bytes) ending
  no_marker shows =
      let shown = subst (λ (bs : List ℕ). Shows bs (told_error error) (marker_at (chars bs))) is shows in
      refused_more NoAnswer (RefusesMarker input bytes) (IsToldBy input error)
      (λ place message h. inr (record { error = error; is_utf8_text = e; told = h; shows = shown })) ending told

module _ (bytes text : List ℕ) (error : TextError) (e : is_utf8 bytes ≡ true) (is : text ≡ bytes) (ending : Ending)
    (told : EndsIn NoAnswer (IsToldBy 1 error) ending) where
  pub no_requirement : (vars : Variables) → vars ≡ no_variables
      → IsRefused (reads_with vars) lacks_memory vars text error
      → EndsIn (AreParts bytes) (RefusesRequirement bytes) ending
  no_requirement vars none refused =
      let alone = subst (λ (v : Variables). IsRefused (reads_with v) lacks_memory v text error) none refused in
      let why = subst (λ (bs : List ℕ). IsRefused ReadsUrl lacks_memory no_variables bs error) is alone in
      refused_more (AreParts bytes) (RefusesRequirement bytes) (IsToldBy 1 error)
      (λ place message h. inr (record { error = error; is_utf8_text = e; told = h; refused = why })) ending told

-- no text, so no marker
pub no_text : (input : ℕ) (bytes : List ℕ) (ending : Ending) → EndsIn NoAnswer (IsNotText input bytes) ending
    → EndsIn NoAnswer (RefusesMarker input bytes) ending
no_text input bytes ending h =
    refused_more NoAnswer (RefusesMarker input bytes) (IsNotText input bytes) (λ place message no. inl no) ending h
