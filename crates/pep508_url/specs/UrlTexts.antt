-- Which text is which URL. The crate `url` reads texts by the URL Standard.
use Rattle.std.specs.Prelude.{ℕ, ◌==◌, ◌||◌, ◌&&◌, not, Bool, if◌then◌else◌, List, ◌∷◌, [], ◌++◌, codes}
use Rattle.std.specs.Prelude.{bytes_eq, flat_map, Option, Some, None, Result, Ok, Err}
use Rattle.std.specs.declared.cmp.Ordering.{Ordering}
use Rattle.std.specs.Ordering.{nat_cmp}
use Rattle.std.specs.Cmp.Lexicographic.{slice_cmp}
use Rattle.std.specs.List.{list_any}
use Rattle.std.specs.Char.{is_ascii_alphanumeric}
use Rattle.std.specs.Cow.{cow_str_bytes}
use Rattle.percent_encoding.specs.Percent.{percent_encode_byte}
use Rattle.url.specs.Parser.{Parsed, parse_url}
use Rattle.url.specs.Parts.{Parts, has_host, serialize}
use Rattle.url.specs.Setters.{set_fragment}
use Rattle.pep508_url.specs.declared.scheme.Scheme.{Scheme}
use Rattle.pep508_url.specs.declared.scheme.Scheme.TheVariants.{File}
use Rattle.pep508_url.specs.declared.path_or_url.Place.{Place}
use Rattle.pep508_url.specs.declared.path_or_url.Place.TheVariants as places
use Rattle.pep508_url.specs.Cuts.{cut}
use Rattle.pep508_url.specs.Vars.{Variables}
use Rattle.pep508_url.specs.Expansion.{expanded}
use Rattle.pep508_url.specs.Schemes.{scheme_of, scheme_split}
use Rattle.pep508_url.specs.Splits.{without_host}
use Rattle.pep508_url.specs.Paths.{absolute_reading, normal_reading, utf8_decoded, decoded}
use Rattle.pep508_url.specs.UrlFaults.{UrlFault}
use Rattle.pep508_url.specs.UrlFaults.UrlFault.{NotRead, UrlConversion}

-- a URL, and the text that it was given as
pub record Verbatim : Type 0 where
  pub url : Parts
  pub given : Option (List ℕ)

-- the print of a URL; URLs compare and hash by this, whatever text was given
abbrev pub url_text : Verbatim → List ℕ
url_text verbatim = serialize verbatim.url

abbrev pub url_eq : Verbatim → Verbatim → Bool
url_eq a b = bytes_eq (url_text a) (url_text b)

abbrev pub url_cmp : Verbatim → Verbatim → Ordering
url_cmp a b = slice_cmp nat_cmp (url_text a) (url_text b)

-- the next step, unless this one is refused
abbrev pub and_read : {A B : Type 0} → Result A UrlFault → (A → Result B UrlFault) → Result B UrlFault
and_read (Ok x) next = next x
and_read (Err fault) next = Err fault

-- the URL that the crate `url` reads, or its fault
abbrev pub as_read : Parsed Parts → Result Parts UrlFault
as_read (Ok url) = Ok url
as_read (Err error) = Err (NotRead error)

abbrev pub text_reading : List ℕ → Result Parts UrlFault
text_reading text = as_read (parse_url None text)

-- ---- a path's URL (RFC 8089, section 2)

-- a byte that is allowed in a path as it is: RFC 3986's `pchar` without escapes (section 3.3), `/`, `[`,
-- `]`
abbrev pub is_path_byte : ℕ → Bool
is_path_byte b = is_ascii_alphanumeric b || list_any (λ kept. kept == b) (codes "-._~!$&'()*+,;=:@/[]")

-- the byte, or its escape with capitals
abbrev pub path_byte : ℕ → List ℕ
path_byte b = if is_path_byte b then b ∷ [] else percent_encode_byte b

-- the text of the URL of an absolute path
unfoldable pub file_text : List ℕ → List ℕ
file_text path = codes "file://" ++ flat_map path_byte path

abbrev pub with_fragment : List ℕ → Result Parts UrlFault → Result Parts UrlFault
with_fragment fragment (Ok url) = Ok (set_fragment url (Some fragment))
with_fragment fragment (Err fault) = Err fault

-- what follows the first `#` of the path is the URL's fragment
abbrev pub by_fragment : List ℕ → Option (List ℕ × List ℕ) → Result Parts UrlFault
by_fragment path None = text_reading (file_text path)
by_fragment path (Some parts) = with_fragment parts.1 (text_reading (file_text parts.0))

-- the URL of a normal absolute path
unfoldable pub file_reading : List ℕ → Result Parts UrlFault
file_reading path = by_fragment path (cut 35 path)

-- the URL of a path, which is absolute or relative to the directory
unfoldable pub path_reading : List ℕ → Option (List ℕ) → Result Parts UrlFault
path_reading path directory =
    and_read (absolute_reading path directory) (λ absolute. and_read (normal_reading absolute) file_reading)

-- ---- a requirement's URL (PEP 508, "Grammar")

-- a text names a path, or a URL that the crate `url` reads
pub data Named : Type 0 where
  Path : List ℕ → Named
  Url : Named

-- the meaning of a text by its scheme: a path for `file`, a URL for another listed scheme, and a path for
-- any other
abbrev pub by_scheme : List ℕ → List ℕ → Option Scheme → Named
by_scheme text rest None = Path text
by_scheme text rest (Some File) = Path (decoded (without_host rest))
by_scheme text rest (Some scheme) = Url

abbrev pub by_split : List ℕ → Option (List ℕ × List ℕ) → Named
by_split text None = Path text
by_split text (Some parts) = by_scheme text parts.1 (scheme_of parts.0)

-- the meaning of a text whose variables are expanded: a path, or a URL
unfoldable pub place_of : List ℕ → Named
place_of text = by_split text (scheme_split text)

abbrev pub named_by : Place → Named
named_by (places.Path path) = Path (cow_str_bytes path)
named_by places.Url = Url

abbrev pub named_reading : List ℕ → Option (List ℕ) → Named → Result Parts UrlFault
named_reading text directory (Path path) = path_reading path directory
named_reading text directory Url = text_reading text

-- the URL of a text whose variables are expanded
unfoldable pub url_reading : List ℕ → Option (List ℕ) → Result Parts UrlFault
url_reading text directory = named_reading text directory (place_of text)

-- the URL, with or without a given text
abbrev pub given_as : Option (List ℕ) → Result Parts UrlFault → Result Verbatim UrlFault
given_as given (Ok url) = Ok (record { url = url; given = given })
given_as given (Err fault) = Err fault

-- a requirement's URL
unfoldable pub verbatim_reading : Variables → List ℕ → Option (List ℕ) → Result Verbatim UrlFault
verbatim_reading vars text directory = given_as (Some text) (url_reading (expanded vars text) directory)

-- ---- the path of a URL

-- the URL of a file on this machine
abbrev pub is_local_file : Parts → Bool
is_local_file url = bytes_eq url.scheme (codes "file") && not (has_host url)

-- the path with each escape as its byte, where that is UTF-8
unfoldable pub local_path : Parts → Option (List ℕ)
local_path url = if is_local_file url then utf8_decoded url.path else None

abbrev pub if_local : Parts → Option (List ℕ) → Result (List ℕ) UrlFault
if_local url None = Err (UrlConversion (serialize url))
if_local url (Some path) = Ok path

-- the path that a URL names, or the text of the URL that names none
abbrev pub path_of : Parts → Result (List ℕ) UrlFault
path_of url = if_local url (local_path url)
