-- What an error says of a text is the reason for which the text is refused.
use Rattle.std.proofs.Common.{◌≡◌, ℕ, Bool, List, Option, Some, None, Result, Ok, Err, IfSome, refl, sym, ap}
use Rattle.std.proofs.Common.{subst, ◌∙◌, inl, inr}
use Rattle.std.specs.Str.{skip_leading_whitespace}
use Rattle.pep508_url.specs.Vars.{Variables}
use Rattle.pep508_error.specs.declared.cursor.Cursor.{Cursor}
use Rattle.pep508_error.specs.declared.excerpt.Excerpt.{Excerpt}
use Rattle.pep508_error.specs.declared.refusal.Refusal.{Refusal}
use Rattle.pep508_error.specs.declared.refusal.RefusalKind.{RefusalKind}
use Rattle.pep508_error.specs.declared.refusal.RefusalKind.TheVariants as kinds
use Rattle.pep508_error.specs.declared.error.Pep508Error.{Pep508Error}
use Rattle.pep508_error.specs.declared.error.Pep508ErrorSource.{Pep508ErrorSource}
use Rattle.pep508_error.specs.declared.error.Pep508ErrorSource.TheVariants as sources
use Rattle.pep508_error.specs.Errors.{Fault, told_by, said_by, told_error, told_refusal}
use Rattle.pep508_marker_parser.specs.MarkerReading.{Marker}
use Rattle.pep508_marker_parser.specs.SideReading as marker_reading
use Rattle.pep508_marker_parser.specs.Outcome as marker_outcome
use Rattle.pep508_requirement_text.specs.FrontReading.{Front, Refused, front_reading}
use Rattle.pep508_requirement_text.specs.FrontReading as reading
use Rattle.pep508_requirement_text.specs.FrontOutcome.{Tells}
use Rattle.pep508_requirement_text.specs.FrontFound.{IsSource, IsUrlIn}
use Rattle.pep508_requirement_text.specs.declared.specifiers_or_url.Source.{Source}
use Rattle.pep508_requirement_text.specs.declared.specifiers_or_url.Source.TheVariants as read
use Rattle.pep508_requirement_text.specs.declared.specifiers_or_url.UrlPiece.{UrlPiece}
use Rattle.pep508_requirement.specs.declared.version_or_url.VersionOrUrl.{VersionOrUrl}
use Rattle.pep508_requirement.specs.declared.version_or_url.VersionOrUrl.TheVariants as asked
use Rattle.pep508_requirement.specs.MarkerBehind.{marker_behind}
use Rattle.pep508_requirement.specs.Pieces.{UrlRefusedBy, ReadsAsked}
use Rattle.pep508_requirement.specs.RequirementReading.{AsksFor, IsReadUpTo, IsFrontRefused, IsMarkerRefused}
use Rattle.pep508_requirement.specs.RequirementReading.{RefusedBy, IsRefused}

-- ---- errors made of refusals

-- the kind of refusal of which an error says this
abbrev pub kind_of : {T E : Type 0} → Pep508ErrorSource T E → RefusalKind
kind_of sources.Memory = kinds.Memory
kind_of (sources.String message) = kinds.String message
kind_of (sources.UnsupportedRequirement message) = kinds.UnsupportedRequirement message
kind_of sources.NumberAtEnd = kinds.NumberAtEnd
kind_of (sources.UrlError error) = kinds.Memory

-- an error says what the refusal does, or that memory ran out
abbrev pub Says : {T E : Type 0} → Pep508ErrorSource T E → RefusalKind → Type 0
Says sources.Memory kind = Unit {0}
Says (sources.UrlError error) kind = ⊥
Says source kind = kind ≡ kind_of source

module _ (T E : Type 0) where
  abbrev pub source_in : Option (Fault T E) → Pep508ErrorSource T E
  source_in None = sources.Memory
  source_in (Some fault) = fault.source

  abbrev pub input_in : List ℕ → Option (Fault T E) → List ℕ
  input_in input None = input
  input_in input (Some fault) = fault.input

  kind_said : (kind : RefusalKind) (input : List ℕ) (start len : ℕ)
      → kind_of (source_in (said_by kind input start len)) ≡ kind
  kind_said kinds.Memory input start len = refl
  kind_said (kinds.String message) input start len = refl
  kind_said (kinds.UnsupportedRequirement message) input start len = refl
  kind_said kinds.NumberAtEnd input start len = refl

  no_url_said : (kind : RefusalKind) (input : List ℕ) (start len : ℕ) (error : E)
      → source_in (said_by kind input start len) ≡ sources.UrlError error → ⊥
  no_url_said kinds.Memory input start len error h = cc
  no_url_said (kinds.String message) input start len error h = cc
  no_url_said (kinds.UnsupportedRequirement message) input start len error h = cc
  no_url_said kinds.NumberAtEnd input start len error h = cc

  pub says : (source : Pep508ErrorSource T E) (excerpt : Excerpt) (kind : RefusalKind) (input : List ℕ) (start len : ℕ)
      → IfSome (told_by source excerpt) (λ fault. said_by kind input start len ≡ Some fault) → Says source kind
  says sources.Memory excerpt kind input start len h = tt
  says (sources.String message) excerpt kind input start len h =
      sym (kind_said kind input start len) ∙ ap (λ told. kind_of (source_in told)) h
  says (sources.UnsupportedRequirement message) excerpt kind input start len h =
      sym (kind_said kind input start len) ∙ ap (λ told. kind_of (source_in told)) h
  says sources.NumberAtEnd excerpt kind input start len h =
      sym (kind_said kind input start len) ∙ ap (λ told. kind_of (source_in told)) h
  says (sources.UrlError error) excerpt kind input start len h = no_url_said kind input start len error (ap source_in h)

  pub said_input : (told : Option (Fault T E)) (kind : RefusalKind) (input text : List ℕ) (start len : ℕ)
      → ((kind ≡ kinds.Memory → ⊥) → input ≡ text)
      → IfSome told (λ fault. said_by kind input start len ≡ Some fault) → IfSome told (λ fault. fault.input ≡ text)
  said_input None kind input text start len of h = tt
  said_input (Some fault) kinds.Memory input text start len of h = cc
  said_input (Some fault) (kinds.String message) input text start len of h =
      sym (ap (input_in input) h) ∙ of (λ e. cc)
  said_input (Some fault) (kinds.UnsupportedRequirement message) input text start len of h =
      sym (ap (input_in input) h) ∙ of (λ e. cc)
  said_input (Some fault) kinds.NumberAtEnd input text start len of h = sym (ap (input_in input) h) ∙ of (λ e. cc)

  pub moved : (told : Option (Fault T E)) (from to : List ℕ) → from ≡ to → IfSome told (λ fault. fault.input ≡ from)
      → IfSome told (λ fault. fault.input ≡ to)
  moved None from to e h = tt
  moved (Some fault) from to e h = h ∙ e

-- ---- causes

asked_is : {X F : Type 0} (x y : X) → ◌≡◌ {A = Result X F} (Ok x) (Ok y) → x ≡ y
asked_is x y h = cc

front_refused : (vars : Variables) (text : List ℕ) (kind : RefusalKind) (outcome : Result (Front × List ℕ) Refused)
    → front_reading text ≡ outcome → (kind ≡ kinds.Memory → ⊥) → Tells vars kind outcome
    → IsFrontRefused vars text kind
front_refused vars text kind (Ok found) e other h = absurd (other h)
front_refused vars text kind (Err refused) e other h = record { refused = refused; reading = e; fits = h }

module _ {T E : Type 0} (Reads : List ℕ → Result T E → Type 0) (lacks : E → Bool) (vars : Variables)
    (text : List ℕ) where
  no_number : (outcome : Result (Front × List ℕ) Refused) → Tells vars kinds.NumberAtEnd outcome → ⊥
  no_number (Ok found) h = cc
  no_number (Err refused) h = h

  front_cause : (source : Pep508ErrorSource T E) (kind : RefusalKind) → Says source kind
      → Tells vars kind (front_reading text) → RefusedBy Reads lacks vars text source
  front_cause sources.Memory kind said h = tt
  front_cause (sources.UrlError error) kind said h = absurd said
  front_cause sources.NumberAtEnd kind said h =
      absurd (no_number (front_reading text) (subst (λ k. Tells vars k (front_reading text)) said h))
  front_cause (sources.String message) kind said h =
      inl (front_refused vars text (kinds.String message) (front_reading text) refl (λ e. cc)
      (subst (λ k. Tells vars k (front_reading text)) said h))
  front_cause (sources.UnsupportedRequirement message) kind said h =
      front_refused vars text (kinds.UnsupportedRequirement message) (front_reading text) refl (λ e. cc)
      (subst (λ k. Tells vars k (front_reading text)) said h)

  -- the front is refused
  pub front_error : (error : Pep508Error T E) (refusal : Refusal)
      → IfSome (told_error error) (λ fault. told_refusal refusal ≡ Some fault)
      → ((refusal.kind ≡ kinds.Memory → ⊥) → refusal.input.now ≡ text)
      → Tells vars refusal.kind (front_reading text) → IsRefused Reads lacks vars text error
  front_error error refusal told of h = record {
    cause =
        front_cause error.message refusal.kind
        (says T E error.message error.excerpt refusal.kind refusal.input.now refusal.start refusal.len told) h;
    input =
        said_input T E (told_error error) refusal.kind refusal.input.now text refusal.start refusal.len of told;
  }

  -- the marker is refused
  marker_refused : (kind : RefusalKind) (front : Front) (what : Option (VersionOrUrl T E)) (left : List ℕ)
      (outcome : Result Marker marker_reading.Refused) → IsReadUpTo Reads text front what left
      → marker_behind left ≡ outcome → (kind ≡ kinds.Memory → ⊥) → marker_outcome.Tells kind outcome
      → IsMarkerRefused Reads text kind
  marker_refused kind front what left (Ok marker) whole e other h = absurd (other h)
  marker_refused kind front what left (Err refused) whole e other h = record {
    front = front;
    what = what;
    left = left;
    refused = refused;
    read = whole;
    is_marker = e;
    fits = h;
  }

  unsupported_never : (message : _) (outcome : Result Marker marker_reading.Refused)
      → marker_outcome.Tells (kinds.UnsupportedRequirement message) outcome → ⊥
  unsupported_never message (Ok marker) h = cc
  unsupported_never message (Err refused) h = h

  marker_cause : (source : Pep508ErrorSource T E) (kind : RefusalKind) (front : Front)
      (what : Option (VersionOrUrl T E)) (left : List ℕ) → Says source kind → IsReadUpTo Reads text front what left
      → marker_outcome.Tells kind (marker_behind left) → RefusedBy Reads lacks vars text source
  marker_cause sources.Memory kind front what left said whole h = tt
  marker_cause (sources.UrlError error) kind front what left said whole h = absurd said
  marker_cause sources.NumberAtEnd kind front what left said whole h =
      marker_refused kinds.NumberAtEnd front what left (marker_behind left) whole refl (λ e. cc)
      (subst (λ k. marker_outcome.Tells k (marker_behind left)) said h)
  marker_cause (sources.String message) kind front what left said whole h =
      inr (marker_refused (kinds.String message) front what left (marker_behind left) whole refl (λ e. cc)
      (subst (λ k. marker_outcome.Tells k (marker_behind left)) said h))
  marker_cause (sources.UnsupportedRequirement message) kind front what left said whole h =
      absurd (unsupported_never message (marker_behind left)
      (subst (λ k. marker_outcome.Tells k (marker_behind left)) said h))

  -- ---- what is asked for

  -- what was read of the front is what its text asks for
  pub asks : (source : Source) (given : reading.Source) (what : Option (VersionOrUrl T E)) → IsSource source given
      → ReadsAsked Reads lacks source (Ok what) → AsksFor Reads given what
  asks read.Any reading.Source.Any what s h = subst (AsksFor Reads reading.Source.Any) (sym (asked_is what None h)) tt
  asks (read.Specifiers list) (reading.Source.Specifiers given) what s h =
      subst (AsksFor Reads (reading.Source.Specifiers given))
      (sym (asked_is what (Some (asked.VersionSpecifier list)) h)) s
  asks (read.Url piece) (reading.Source.Url url) None s h = absurd h
  asks (read.Url piece) (reading.Source.Url url) (Some (asked.VersionSpecifier list)) s h = absurd h
  asks (read.Url piece) (reading.Source.Url url) (Some (asked.Url u)) s h = subst (λ t. Reads t (Ok u)) s h
  asks source given what s h = absurd s

  url_source : (piece : UrlPiece) (given : reading.Source) → IsSource (read.Url piece) given
      → given ≡ reading.Source.Url piece.text.now
  url_source piece (reading.Source.Url url) s = ap reading.Source.Url (sym s)
  url_source piece given s = absurd s

  url_cause : (piece : UrlPiece) (front : Front) (rest : List ℕ) (source : Pep508ErrorSource T E)
      → front_reading text ≡ Ok (front, rest) → front.source ≡ reading.Source.Url piece.text.now
      → UrlRefusedBy Reads lacks piece.text.now source → RefusedBy Reads lacks vars text source
  url_cause piece front rest sources.Memory e s h = tt
  url_cause piece front rest (sources.UrlError error) e s h = record {
    front = front;
    rest = rest;
    url = piece.text.now;
    reading = e;
    source = s;
    reads = h.0;
    told = h.1;
  }
  url_cause piece front rest source e s h = absurd h

  -- the URL is refused
  pub url_error : (start : Cursor) (source : Source) (front : Front) (rest : List ℕ) (error : Pep508Error T E)
      → front_reading text ≡ Ok (front, rest) → IsSource source front.source
      → IsUrlIn start source → start.input.now ≡ text
      → ReadsAsked Reads lacks source (Err error) → IsRefused Reads lacks vars text error
  url_error start read.Any front rest error e s in_it at h = cc
  url_error start (read.Specifiers list) front rest error e s in_it at h = cc
  url_error start (read.Url piece) front rest error e s in_it at h = record {
    cause = url_cause piece front rest error.message e (url_source piece front.source s) h.cause;
    input = moved T E (told_error error) piece.start.input.now text (in_it ∙ at) h.input;
  }

  -- what was read of front and URL
  pub read_up_to : (source : Source) (front : Front) (what : Option (VersionOrUrl T E)) (rest : List ℕ)
      → front_reading text ≡ Ok (front, rest) → IsSource source front.source
      → ReadsAsked Reads lacks source (Ok what)
      → IsReadUpTo Reads text front what (skip_leading_whitespace rest)
  read_up_to source front what rest e s wanted =
      record { rest = rest; reading = e; asks = asks source front.source what s wanted; behind = refl }

  -- the marker behind the front is refused
  pub marker_error : (error : Pep508Error T E) (refusal : Refusal) (source : Source) (front : Front)
      (what : Option (VersionOrUrl T E)) (rest : List ℕ)
      → IfSome (told_error error) (λ fault. told_refusal refusal ≡ Some fault)
      → ((refusal.kind ≡ kinds.Memory → ⊥) → refusal.input.now ≡ text)
      → front_reading text ≡ Ok (front, rest) → IsSource source front.source
      → ReadsAsked Reads lacks source (Ok what)
      → marker_outcome.Tells refusal.kind (marker_behind (skip_leading_whitespace rest))
      → IsRefused Reads lacks vars text error
  marker_error error refusal source front what rest told of e s wanted h = record {
    cause =
        marker_cause error.message refusal.kind front what (skip_leading_whitespace rest)
        (says T E error.message error.excerpt refusal.kind refusal.input.now refusal.start refusal.len told)
        (read_up_to source front what rest e s wanted) h;
    input =
        said_input T E (told_error error) refusal.kind refusal.input.now text refusal.start refusal.len of told;
  }
