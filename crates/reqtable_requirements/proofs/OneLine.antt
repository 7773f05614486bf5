-- What reading a requirement answers, as the reading of its line.
use Rattle.std.proofs.Common.{◌≡◌, ◌∙◌, ◌⊎◌, inl, inr, ℕ, false, List, Option, Some, None, Result, Ok, Err}
use Rattle.std.proofs.Common.{refl, ap}
use Rattle.read_outcome.specs.Outcome.{Tells}
use Rattle.pep508_url.specs.Vars.{Variables}
use Rattle.pep508_url.specs.UrlTexts.{Verbatim}
use Rattle.pep508_url.specs.UrlFaults.{UrlFault, told_url}
use Rattle.pep508_url.specs.Lacking.{lacks_memory}
use Rattle.pep508_url.specs.declared.url_error.VerbatimUrlError.{VerbatimUrlError}
use Rattle.pep508_url.specs.declared.url_error.VerbatimUrlError.TheVariants as urls
use Rattle.pep508_error.specs.declared.refusal.RefusalKind.TheVariants as kinds
use Rattle.pep508_error.specs.declared.error.Pep508Error.{Pep508Error}
use Rattle.pep508_error.specs.declared.error.Pep508ErrorSource.{Pep508ErrorSource}
use Rattle.pep508_error.specs.declared.error.Pep508ErrorSource.TheVariants as sources
use Rattle.pep508_marker_parser.specs.SideReading as markers
use Rattle.pep508_marker_parser.specs.Outcome as outcome
use Rattle.pep508_requirement_text.specs.FrontReading.{Source, Front}
use Rattle.pep508_requirement_text.specs.FrontReading.Source.{Any, Specifiers, Url}
use Rattle.pep508_requirement.specs.MarkerBehind.{marker_behind}
use Rattle.pep508_requirement.specs.declared.marked_requirement.MarkedRequirement.{MarkedRequirement}
use Rattle.pep508_requirement.specs.declared.version_or_url.VersionOrUrl.{VersionOrUrl}
use Rattle.pep508_requirement.specs.declared.version_or_url.VersionOrUrl.TheVariants as asked
use Rattle.pep508_requirement.specs.MarkedReading.{IsReadMarked}
use Rattle.pep508_requirement.specs.RequirementReading.{AsksFor, IsReadUpTo, IsFrontRefused}
use Rattle.pep508_requirement.specs.RequirementReading.{IsUrlRefused, IsMarkerRefused, IsRefused, RefusedBy}
use Rattle.reqtable_requirements.specs.LineReading.{NoRequirement, NumberAtEnd, url_of, with_marker}
use Rattle.reqtable_requirements.specs.LineReading.{with_rest, with_url, with_source, with_front, line_of}
use Rattle.reqtable_requirements.specs.Requirements.{ReadsUrl, refusal_by, refusal_of, ReadsLine}

-- a URL that is asked for was read
source_read : (vars : Variables) (number : ℕ) (front : Front) (rest : List ℕ) (source : Source)
    (what : Option (VersionOrUrl Verbatim VerbatimUrlError)) → AsksFor (ReadsUrl vars) source what
    → with_source vars number front rest source ≡ with_rest number front rest
source_read vars number front rest Any what h = refl
source_read vars number front rest (Specifiers given) what h = refl
source_read vars number front rest (Url text) (Some (asked.Url url)) h = ap (with_url number front rest) h
source_read vars number front rest (Url text) (Some (asked.VersionSpecifier list)) h = absurd h
source_read vars number front rest (Url text) None h = absurd h

-- a URL is refused for what its error tells
url_fault : (error : VerbatimUrlError) (read : Result Verbatim UrlFault) → lacks_memory error ≡ false
    → Tells (told_url error) read → (fault : UrlFault) × (read ≡ Err fault)
url_fault urls.Memory read h t = absurd (cc)
url_fault (urls.Url error) read h t = (_, t)
url_fault (urls.WorkingDirectory path) read h t = (_, t)
url_fault (urls.UrlConversion path) read h t = (_, t)
url_fault (urls.Normalization path) read h t = (_, t)

module _ (vars : Variables) (number : ℕ) (text : List ℕ) where
  -- the line's front and URL are read
  up_to : (front : Front) (what : Option (VersionOrUrl Verbatim VerbatimUrlError)) (left : List ℕ)
      → IsReadUpTo (ReadsUrl vars) text front what left
      → line_of vars number text ≡ with_marker number front (marker_behind left)
  unfolding line_of
  up_to front what left h =
      ap (with_front vars number) h.reading ∙ source_read vars number front h.rest front.source what h.asks
      ∙ ap (λ cs. with_marker number front (marker_behind cs)) h.behind

  pub line_read : (r : MarkedRequirement Verbatim VerbatimUrlError) → IsReadMarked (ReadsUrl vars) text r
      → ReadsLine vars number text (Ok (record { number = number; requirement = r }))
  line_read r h = (
    record { number = number; front = h.front; formula = h.marker.formula },
    up_to h.front r.version_or_url h.left h.whole ∙ ap (with_marker number h.front) h.is_marker,
    record { number = refl; name = h.name; extras = h.extras; asks = h.whole.asks; formula = h.formula },
  )

  front_refused : (kind : _) → IsFrontRefused vars text kind → line_of vars number text ≡ Err (NoRequirement number)
  unfolding line_of
  front_refused kind h = ap (with_front vars number) h.reading

  marker_refused : (message : _) (front : Front) (refused : markers.Refused) → outcome.Fits (kinds.String message) refused
      → with_marker number front (Err refused) ≡ Err (NoRequirement number)
  marker_refused message front markers.Malformed h = refl
  marker_refused message front markers.AtEnd h = absurd h
  marker_refused message front markers.TooDeep h = refl

  marker_at_end : (front : Front) (refused : markers.Refused) → outcome.Fits kinds.NumberAtEnd refused
      → with_marker number front (Err refused) ≡ Err (NumberAtEnd number)
  marker_at_end front markers.Malformed h = absurd h
  marker_at_end front markers.AtEnd h = refl
  marker_at_end front markers.TooDeep h = absurd h

  url_refused : (error : VerbatimUrlError) → IsUrlRefused (ReadsUrl vars) lacks_memory text error
      → line_of vars number text ≡ Err (NoRequirement number)
  unfolding line_of
  url_refused error h =
      let fault = url_fault error (url_of vars h.url) h.told h.reads in
      ap (with_front vars number) h.reading ∙ ap (with_source vars number h.front h.rest) h.source
      ∙ ap (with_url number h.front h.rest) fault.1

  text_refused : (message : _) → IsMarkerRefused (ReadsUrl vars) text (kinds.String message)
      → line_of vars number text ≡ Err (NoRequirement number)
  text_refused message h =
      up_to h.front h.what h.left h.read ∙ ap (with_marker number h.front) h.is_marker
      ∙ marker_refused message h.front h.refused h.fits

  at_end_refused : IsMarkerRefused (ReadsUrl vars) text kinds.NumberAtEnd
      → line_of vars number text ≡ Err (NumberAtEnd number)
  at_end_refused h =
      up_to h.front h.what h.left h.read ∙ ap (with_marker number h.front) h.is_marker
      ∙ marker_at_end h.front h.refused h.fits

  string_refused : (message : _)
      → IsFrontRefused vars text (kinds.String message) ⊎ IsMarkerRefused (ReadsUrl vars) text (kinds.String message)
      → line_of vars number text ≡ Err (NoRequirement number)
  string_refused message (inl h) = front_refused (kinds.String message) h
  string_refused message (inr h) = text_refused message h

  refused_by : (error : Pep508Error Verbatim VerbatimUrlError)
      (source : Pep508ErrorSource Verbatim VerbatimUrlError) → IsRefused (ReadsUrl vars) lacks_memory vars text error
      → RefusedBy (ReadsUrl vars) lacks_memory vars text source
      → ReadsLine vars number text (Err (refusal_by number error source))
  refused_by error sources.Memory whole h = (tt, tt)
  refused_by error sources.NumberAtEnd whole h = (at_end_refused h, tt)
  refused_by error (sources.UrlError url) whole h = (url_refused url h, (refl, whole))
  refused_by error (sources.UnsupportedRequirement message) whole h =
      (front_refused (kinds.UnsupportedRequirement message) h, (refl, whole))
  refused_by error (sources.String message) whole h = (string_refused message h, (refl, whole))

  pub line_refused : (error : Pep508Error Verbatim VerbatimUrlError)
      → IsRefused (ReadsUrl vars) lacks_memory vars text error
      → ReadsLine vars number text (Err (refusal_of number error))
  line_refused error h = refused_by error error.message h h.cause
