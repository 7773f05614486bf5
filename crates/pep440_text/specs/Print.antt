-- The print of a version (PEP 440, "Normalization"): each part in its shortest form.
use Rattle.std.specs.Prelude.{ℕ, ◌==◌, if◌then◌else◌, codes, List, [], ◌∷◌, ◌++◌, Option, Some, None, map}
use Rattle.std.specs.Fmt.{decimal}
use Rattle.std.specs.List.{join_with_byte}
use Rattle.pep440_text.specs.declared.Prerelease.{Prerelease}
use Rattle.pep440_text.specs.declared.PrereleaseKind.{PrereleaseKind}
use Rattle.pep440_text.specs.declared.PrereleaseKind.TheVariants.{Alpha, Beta, Rc}
use Rattle.pep440_text.specs.Record.{Segment, Text, Number, VersionRecord}

-- the letters of a kind (PEP 440, "Pre-releases")
abbrev pub kind_text : PrereleaseKind → List ℕ
kind_text Alpha = codes "a"
kind_text Beta = codes "b"
kind_text Rc = codes "rc"

-- the letters and the number
abbrev pub prerelease_text : Prerelease → List ℕ
prerelease_text pre = kind_text pre.kind ++ decimal pre.number

-- a segment of a local part (PEP 440, "Local version identifiers")
abbrev pub segment_text : Segment → List ℕ
segment_text (Text bytes) = bytes
segment_text (Number number) = decimal number

-- the epoch, unless it is 0 (PEP 440, "Version epochs")
abbrev pub epoch_text : ℕ → List ℕ
epoch_text epoch = if epoch == 0 then [] else decimal epoch ++ codes "!"

-- numbers with dots between them (PEP 440, "Final releases")
abbrev pub release_text : List ℕ → List ℕ
release_text numbers = join_with_byte 46 (map decimal numbers)

-- a dot and a number
abbrev pub dotted_number : ℕ → List ℕ
dotted_number number = codes "." ++ decimal number

-- a dot and a segment
abbrev pub dotted_segment : Segment → List ℕ
dotted_segment segment = codes "." ++ segment_text segment

-- a pre-release, where there is one
abbrev pub pre_text : Option Prerelease → List ℕ
pre_text None = []
pre_text (Some pre) = prerelease_text pre

-- a word and a number, where there is one (PEP 440, "Post-releases" and "Developmental releases")
abbrev pub numbered_text : List ℕ → Option ℕ → List ℕ
numbered_text word None = []
numbered_text word (Some number) = word ++ decimal number

-- a plus and the segments with dots between them, where there are any
abbrev pub local_text : List Segment → List ℕ
local_text [] = []
local_text (segment ∷ segments) = codes "+" ++ join_with_byte 46 (map segment_text (segment ∷ segments))

-- the print of a version; `least` and `most` don't show
unfoldable pub version_text : VersionRecord → List ℕ
version_text version =
    epoch_text version.epoch ++ release_text version.release ++ pre_text version.pre
    ++ numbered_text (codes ".post") version.post ++ numbered_text (codes ".dev") version.dev
    ++ local_text version.local
