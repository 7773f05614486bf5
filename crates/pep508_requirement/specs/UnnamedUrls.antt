-- The results that are allowed for the URL of a requirement without a name. What is read from a path and
-- from a URL's text depends on the type of URLs.
use Rattle.std.specs.Prelude.{ℕ, List}
use Rattle.pep508_url.specs.UrlTexts.{Named, place_of}
use Rattle.pep508_url.specs.UrlTexts.Named.{Path, Url}

-- this may be returned for a text that names this
abbrev pub ReadsNamed : {R : Type 0} → (List ℕ → R → Type 0) → (List ℕ → R → Type 0) → List ℕ → Named → R
    → Type 0
ReadsNamed ReadsPath ReadsUrl text (Path path) outcome = ReadsPath path outcome
ReadsNamed ReadsPath ReadsUrl text Url outcome = ReadsUrl text outcome

-- the results that are allowed for a text whose variables are expanded
unfoldable pub ReadsUnnamed : {R : Type 0} → (List ℕ → R → Type 0) → (List ℕ → R → Type 0) → List ℕ → R
    → Type 0
ReadsUnnamed ReadsPath ReadsUrl text outcome = ReadsNamed ReadsPath ReadsUrl text (place_of text) outcome
