-- Paths: their normal form, and the path that a `file` URL's text names.
use Rattle.std.specs.Prelude.{ℕ, ◌-◌, ◌==◌, ◌||◌, Bool, if◌then◌else◌, List, [], ◌∷◌, ◌++◌, length, take}
use Rattle.std.specs.Prelude.{slice_index, codes, bytes_eq, fold, Option, Some, None, option_map, unwrap_or}
use Rattle.std.specs.Prelude.{Result, Ok, Err}
use Rattle.std.specs.List.{slice_split, join_with_byte}
use Rattle.std.specs.Str.{is_utf8}
use Rattle.percent_encoding.specs.Percent.{percent_decode}
use Rattle.pep508_url.specs.Cuts.{is_absolute}
use Rattle.pep508_url.specs.UrlFaults.{UrlFault}
use Rattle.pep508_url.specs.UrlFaults.UrlFault.{WorkingDirectory, Normalization}

-- the parts without the last, where there is one
abbrev pub without_last : List (List ℕ) → Option (List (List ℕ))
without_last parts = if length parts == 0 then None else Some (take (length parts - 1) parts)

-- an empty part or `.`
abbrev pub changes_nothing : List ℕ → Bool
changes_nothing part = length part == 0 || bytes_eq part (codes ".")

-- the parts before a part with it: `..` removes the last, another part is appended
abbrev pub with_part : List (List ℕ) → List ℕ → Option (List (List ℕ))
with_part parts part =
    if changes_nothing part then Some parts
    else (if bytes_eq part (codes "..") then without_last parts else Some (parts ++ part ∷ []))

-- nothing where a `..` found no part to remove
abbrev pub behind_parts : Option (List (List ℕ)) → List ℕ → Option (List (List ℕ))
behind_parts None part = None
behind_parts (Some parts) part = with_part parts part

-- the parts of a normal path
unfoldable pub normal_parts : List (List ℕ) → Option (List (List ℕ))
normal_parts parts = fold behind_parts (Some []) parts

-- the slash with which an absolute path begins
abbrev pub root_of : List ℕ → List ℕ
root_of path = if is_absolute path then 47 ∷ [] else []

-- the path without empty parts, `.` and `..`, unless a `..` goes beyond its beginning
unfoldable pub normal_path : List ℕ → Option (List ℕ)
normal_path path =
    option_map (λ parts. root_of path ++ join_with_byte 47 parts)
    (normal_parts (slice_split (λ b. b == 47) path))

abbrev pub if_normal : List ℕ → Option (List ℕ) → Result (List ℕ) UrlFault
if_normal path None = Err (Normalization path)
if_normal path (Some normal) = Ok normal

-- the normal path, or the path that goes beyond the root
abbrev pub normal_reading : List ℕ → Result (List ℕ) UrlFault
normal_reading path = if_normal path (normal_path path)

-- the text with each `%XX` as its byte (RFC 3986, section 2.1), where that is UTF-8
unfoldable pub utf8_decoded : List ℕ → Option (List ℕ)
utf8_decoded text = if is_utf8 (percent_decode text) then Some (percent_decode text) else None

-- the text with its escapes decoded, where the bytes are UTF-8, or the text as it is
abbrev pub decoded : List ℕ → List ℕ
decoded text = unwrap_or (utf8_decoded text) text

-- the path in the directory
unfoldable pub joined : List ℕ → List ℕ → List ℕ
joined directory path =
    if slice_index directory (length directory - 1) == 47 then directory ++ path else directory ++ 47 ∷ path

-- the path in the directory, where there is one
abbrev pub in_directory : List ℕ → Option (List ℕ) → Result (List ℕ) UrlFault
in_directory path None = Err (WorkingDirectory path)
in_directory path (Some directory) = Ok (joined directory path)

-- an absolute path is itself
unfoldable pub absolute_reading : List ℕ → Option (List ℕ) → Result (List ℕ) UrlFault
absolute_reading path directory = if is_absolute path then Ok path else in_directory path directory
