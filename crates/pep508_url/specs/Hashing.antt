-- Equal URLs feed a hash alike.
use Rattle.std.specs.Prelude.{◌≡◌, true}
use Rattle.std.specs.Hash as fed
use Rattle.std.proofs.Common.{ap}
use Rattle.std.proofs.lemmas.Slice.Eq.{bytes_eq-Decides}
use Rattle.pep508_url.specs.UrlTexts.{Verbatim, url_text, url_eq}

-- equal URLs feed a hash alike
pub alike_urls : (a b : Verbatim) → url_eq a b ≡ true → fed.str (url_text a) ≡ fed.str (url_text b)
alike_urls a b h = ap fed.str ((bytes_eq-Decides (url_text a) (url_text b)).0 h)
