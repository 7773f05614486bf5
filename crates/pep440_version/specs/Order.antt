-- The order of versions: component by component of their keys, and the first that differs decides
-- (PEP 440, "Summary of permitted suffixes and relative ordering").
use Rattle.std.specs.Prelude.{ℕ, ◌+◌, Bool, if◌then◌else◌, ◌==◌, ◌++◌, List, [], ◌∷◌, Option, Some, None, map}
use Rattle.std.specs.List.{flat_map}
use Rattle.std.specs.Hash as fed
use Rattle.std.specs.declared.cmp.Ordering.{Ordering}
use Rattle.std.specs.declared.cmp.Ordering.TheVariants.{Equal}
use Rattle.std.specs.Ordering.{ordering_then, nat_cmp, on, eq_by_cmp}
use Rattle.std.specs.Cmp.Lexicographic.{slice_cmp}
use Rattle.pep440_text.specs.declared.Prerelease.{Prerelease}
use Rattle.pep440_text.specs.declared.PrereleaseKind.{PrereleaseKind}
use Rattle.pep440_text.specs.declared.PrereleaseKind.TheVariants.{Alpha, Beta, Rc}
use Rattle.pep440_text.specs.Record.{Segment, Text, Number, VersionRecord}

-- a number before a list that has lost its zeros at the end
abbrev pub before_stripped : ℕ → List ℕ → List ℕ
before_stripped number [] = if number == 0 then [] else number ∷ []
before_stripped number (next ∷ numbers) = number ∷ next ∷ numbers

-- a release without the zeros at its end, so that `1` and `1.0` are equal (PEP 440, "Final releases")
abbrev pub stripped : List ℕ → List ℕ
stripped [] = []
stripped (number ∷ numbers) = before_stripped number (stripped numbers)

-- numbers compared with zeros alone
abbrev pub beside_zeros : List ℕ → Ordering
beside_zeros [] = Equal
beside_zeros (number ∷ numbers) = ordering_then (nat_cmp number 0) (beside_zeros numbers)

-- zeros alone compared with numbers
abbrev pub zeros_beside : List ℕ → Ordering
zeros_beside [] = Equal
zeros_beside (number ∷ numbers) = ordering_then (nat_cmp 0 number) (zeros_beside numbers)

-- releases, number by number, with zeros where one has ended (PEP 440, "Final releases")
abbrev pub padded_cmp : List ℕ → List ℕ → Ordering
padded_cmp [] b = zeros_beside b
padded_cmp (x ∷ a) [] = beside_zeros (x ∷ a)
padded_cmp (x ∷ a) (y ∷ b) = ordering_then (nat_cmp x y) (padded_cmp a b)

-- alpha before beta before release candidate (PEP 440, "Pre-releases")
abbrev pub kind_rank : PrereleaseKind → ℕ
kind_rank Alpha = 0
kind_rank Beta = 1
kind_rank Rc = 2

-- the place of a suffix below one release, where `least` is absent: development releases, the three kinds of
-- pre-release, the release itself, post-releases
abbrev pub suffix_class : Option Prerelease → Option ℕ → Option ℕ → Option ℕ → ℕ
suffix_class (Some pre) post dev most = 2 + kind_rank pre.kind
suffix_class None (Some number) dev most = 6
suffix_class None None dev (Some number) = 6
suffix_class None None (Some number) None = 1
suffix_class None None None None = 5

-- a version with `least` sorts below every suffix
abbrev pub class_below : Option ℕ → ℕ → ℕ
class_below (Some number) class = 0
class_below None class = class

-- the place of a version among those of one release
abbrev pub class_of : VersionRecord → ℕ
class_of version = class_below version.least (suffix_class version.pre version.post version.dev version.most)

-- a number whose absence comes first
abbrev pub absent_first : Option ℕ → List ℕ
absent_first None = []
absent_first (Some number) = number ∷ []

-- a number whose absence comes last
abbrev pub absent_last : Option ℕ → List ℕ
absent_last None = 1 ∷ []
absent_last (Some number) = 0 ∷ number ∷ []

-- a pre-release: its kind, then its number
abbrev pub pre_key : Option Prerelease → List ℕ
pre_key None = []
pre_key (Some pre) = kind_rank pre.kind ∷ pre.number ∷ []

-- a post-release: absent, then by its number, and last of all the number of `most`
abbrev pub post_key : Option ℕ → Option ℕ → List ℕ
post_key post (Some number) = 1 ∷ number ∷ []
post_key (Some number) None = 0 ∷ number ∷ []
post_key None None = []

-- a segment of a local part: a text below every number (PEP 440, "Local version identifiers")
abbrev pub segment_key : Segment → List ℕ
segment_key (Text bytes) = 0 ∷ bytes
segment_key (Number number) = 1 ∷ number ∷ []

-- the segments of a local part, the first in front
abbrev pub local_key : List Segment → List (List ℕ)
local_key = map segment_key

-- the components of a version, the one that decides first in front
unfoldable pub key_of : VersionRecord → List (List ℕ)
key_of version =
    (version.epoch ∷ []) ∷ stripped version.release ∷ (class_of version ∷ []) ∷ pre_key version.pre
    ∷ post_key version.post version.most ∷ absent_first version.least ∷ absent_last version.dev
    ∷ local_key version.local

-- the order of keys: the first component that differs decides, and within it the first number that does
abbrev pub key_cmp : List (List ℕ) → List (List ℕ) → Ordering
key_cmp = slice_cmp (slice_cmp nat_cmp)

-- the order of versions
abbrev pub version_cmp : VersionRecord → VersionRecord → Ordering
version_cmp = on key_of key_cmp

-- whether neither of two versions comes first
abbrev pub version_eq : VersionRecord → VersionRecord → Bool
version_eq = eq_by_cmp version_cmp

-- the input to a hash of a component: its numbers, and a byte that ends them
abbrev pub fed_numbers : List ℕ → List (List ℕ)
fed_numbers numbers = flat_map fed.u64 numbers ++ fed.u8 255

-- and of a whole key
abbrev pub fed_key : List (List ℕ) → List (List ℕ)
fed_key = flat_map fed_numbers
