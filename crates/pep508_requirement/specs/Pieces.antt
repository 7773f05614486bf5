-- The results of the steps of reading: the URL of a front.
use Rattle.std.specs.Prelude.{◌≡◌, ℕ, Bool, false, List, Option, Some, None, Result, Ok, Err, IfSome}
use Rattle.pep508_error.specs.declared.error.Pep508Error.{Pep508Error}
use Rattle.pep508_error.specs.declared.error.Pep508ErrorSource.{Pep508ErrorSource}
use Rattle.pep508_error.specs.declared.error.Pep508ErrorSource.TheVariants as sources
use Rattle.pep508_error.specs.Errors.{told_error}
use Rattle.pep508_requirement_text.specs.declared.specifiers_or_url.Source.{Source}
use Rattle.pep508_requirement_text.specs.declared.specifiers_or_url.Source.TheVariants as read
use Rattle.pep508_requirement.specs.declared.version_or_url.VersionOrUrl.{VersionOrUrl}
use Rattle.pep508_requirement.specs.declared.version_or_url.VersionOrUrl.TheVariants as asked

-- this error is of the URL's text, and not for lack of memory
abbrev pub UrlRefusedBy : {T E : Type 0} → (List ℕ → Result T E → Type 0) → (E → Bool) → List ℕ
    → Pep508ErrorSource T E → Type 0
UrlRefusedBy Reads lacks text sources.Memory = Unit {0}
UrlRefusedBy Reads lacks text (sources.UrlError error) = Reads text (Err error) × (lacks error ≡ false)
UrlRefusedBy Reads lacks text source = ⊥

-- the URL's text is refused with this error, which shows it in the whole text, or memory ran out
pub record IsUrlError {T E : Type 0} (Reads : List ℕ → Result T E → Type 0) (lacks : E → Bool)
    (text whole : List ℕ)
    (error : Pep508Error T E) : Type 0 where
  pub cause : UrlRefusedBy Reads lacks text error.message
  pub input : IfSome (told_error error) (λ fault. fault.input ≡ whole)

-- the result is the reading of the URL's text
abbrev pub ReadsPiece : {T E : Type 0} → (List ℕ → Result T E → Type 0) → (E → Bool) → List ℕ → List ℕ
    → Result T (Pep508Error T E) → Type 0
ReadsPiece Reads lacks text whole (Ok url) = Reads text (Ok url)
ReadsPiece Reads lacks text whole (Err error) = IsUrlError Reads lacks text whole error

-- the specifiers or the URL that the front requires
abbrev pub ReadsAsked : {T E : Type 0} → (List ℕ → Result T E → Type 0) → (E → Bool) → Source
    → Result (Option (VersionOrUrl T E)) (Pep508Error T E) → Type 0
ReadsAsked Reads lacks read.Any result = result ≡ Ok None
ReadsAsked Reads lacks (read.Specifiers list) result = result ≡ Ok (Some (asked.VersionSpecifier list))
ReadsAsked Reads lacks (read.Url piece) (Ok None) = ⊥
ReadsAsked Reads lacks (read.Url piece) (Ok (Some (asked.VersionSpecifier list))) = ⊥
ReadsAsked Reads lacks (read.Url piece) (Ok (Some (asked.Url url))) = Reads piece.text.now (Ok url)
ReadsAsked Reads lacks (read.Url piece) (Err error) =
    IsUrlError Reads lacks piece.text.now piece.start.input.now error
