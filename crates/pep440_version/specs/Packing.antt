-- The words of versions: numbers of 64 bits whose order is that of the versions that have one.
--
-- A version has a word where its epoch is 0, it has no local part, at most four release numbers and at most
-- one suffix, and each of its numbers fits its bits. From the highest bit these are 16 for the first release
-- number, 8 for each of the next three, 3 for the kind of the suffix and 21 for its number.
use Rattle.std.specs.Prelude.{ℕ, ◌+◌, ◌*◌, ◌/◌, ◌%◌, ◌^◌, ◌==◌, ◌&&◌, nat_lt, nat_le, Bool, false, not}
use Rattle.std.specs.Prelude.{if◌then◌else◌, List, length, slice_index, Option, Some, None, IsTrue}
use Rattle.pep440_text.specs.declared.Prerelease.{Prerelease}
use Rattle.pep440_text.specs.declared.PrereleaseKind.TheVariants.{Alpha, Beta, Rc}
use Rattle.pep440_text.specs.Kept.{SuffixRecord, no_suffixes}
use Rattle.pep440_text.specs.Record.{Segment, VersionRecord}
use Rattle.pep440_version.specs.declared.packing.Form.{Form}
use Rattle.pep440_version.specs.declared.packing.Form.TheVariants.{Packed, Full}
use Rattle.pep440_version.specs.declared.packing.Suffix.{Suffix}
use Rattle.pep440_version.specs.declared.packing.Suffix.TheVariants.{Min, Dev, Pre, Bare, Post, Max}
use Rattle.pep440_version.specs.Changes.{has_local}
use Rattle.pep440_version.specs.Order.{kind_rank}

-- ---- suffixes

-- the suffix, where there is at most one
abbrev pub suffix_among : Option Prerelease → Option ℕ → Option ℕ → Option ℕ → Option ℕ → Option Suffix
suffix_among None None None None None = Some Bare
suffix_among (Some pre) None None None None = Some (Pre pre.kind pre.number)
suffix_among None (Some number) None None None = Some (Post number)
suffix_among None None (Some number) None None = Some (Dev number)
suffix_among None None None (Some number) None = Some (Min number)
suffix_among None None None None (Some number) = Some (Max number)
suffix_among pre post dev least most = None

-- the suffix of a version that has at most one
abbrev pub suffix_of : VersionRecord → Option Suffix
suffix_of version = suffix_among version.pre version.post version.dev version.least version.most

-- the kind of a suffix, in the order of the versions of one release
abbrev pub kind_of : Suffix → ℕ
kind_of (Min number) = 0
kind_of (Dev number) = 1
kind_of (Pre kind number) = 2 + kind_rank kind
kind_of Bare = 5
kind_of (Post number) = 6
kind_of (Max number) = 7

-- its number, and 0 where there is no suffix
abbrev pub number_of : Suffix → ℕ
number_of (Min number) = number
number_of (Dev number) = number
number_of (Pre kind number) = number
number_of Bare = 0
number_of (Post number) = number
number_of (Max number) = number

-- ---- words

-- the release numbers and their bits; a release that has ended goes on with zeros
abbrev pub release_fits : List ℕ → Bool
release_fits numbers =
    nat_le (length numbers) 4 && nat_lt (slice_index numbers 0) (2 ^ 16)
    && nat_lt (slice_index numbers 1) (2 ^ 8) && nat_lt (slice_index numbers 2) (2 ^ 8)
    && nat_lt (slice_index numbers 3) (2 ^ 8)

abbrev pub release_bits : List ℕ → ℕ
release_bits numbers =
    slice_index numbers 0 * 2 ^ 48 + slice_index numbers 1 * 2 ^ 40 + slice_index numbers 2 * 2 ^ 32
    + slice_index numbers 3 * 2 ^ 24

-- the suffix and its bits
abbrev pub suffix_fits : Option Suffix → Bool
suffix_fits None = false
suffix_fits (Some suffix) = nat_lt (number_of suffix) (2 ^ 21)

abbrev pub suffix_bits : Option Suffix → ℕ
suffix_bits None = 0
suffix_bits (Some suffix) = kind_of suffix * 2 ^ 21 + number_of suffix

-- whether a version has a word
abbrev pub fits : VersionRecord → Bool
fits version =
    (version.epoch == 0) && not (has_local version) && release_fits version.release
    && suffix_fits (suffix_of version)

abbrev pub Fits : VersionRecord → Type 0
Fits version = IsTrue (fits version)

-- the word of a version that has one
abbrev pub word_of : VersionRecord → ℕ
word_of version = release_bits version.release + suffix_bits (suffix_of version)

-- the word, where the version has one
unfoldable pub packed : VersionRecord → Option ℕ
packed version = if fits version then Some (word_of version) else None

-- ---- what a word says

-- the suffix of a kind and a number
abbrev pub suffix_by : ℕ → ℕ → Suffix
suffix_by kind number =
    if kind == 0 then Min number
    else if kind == 1 then Dev number
    else if kind == 2 then Pre Alpha number
    else if kind == 3 then Pre Beta number
    else if kind == 4 then Pre Rc number
    else if kind == 5 then Bare
    else if kind == 6 then Post number
    else Max number

-- the suffix whose bits end a word
abbrev pub suffix_in : ℕ → Suffix
suffix_in word = suffix_by (word / 2 ^ 21 % 8) (word % 2 ^ 21)

-- the suffixes of a version that has this one alone
abbrev pub alone : Suffix → SuffixRecord
alone (Min number) = record no_suffixes { least = Some number }
alone (Dev number) = record no_suffixes { dev = Some number }
alone (Pre kind number) = record no_suffixes { pre = Some (record { kind = kind; number = number }) }
alone Bare = no_suffixes
alone (Post number) = record no_suffixes { post = Some number }
alone (Max number) = record no_suffixes { most = Some number }

unfoldable pub unpacked : ℕ → SuffixRecord
unpacked word = alone (suffix_in word)

-- ---- the two forms of a version

-- the word, in the packed form
abbrev pub word_in : Form → Option ℕ
word_in (Packed word) = Some word
word_in (Full epoch suffixes) = None

abbrev pub epoch_in : Form → ℕ
epoch_in (Packed word) = 0
epoch_in (Full epoch suffixes) = epoch

abbrev pub suffixes_in : Form → SuffixRecord
suffixes_in (Packed word) = unpacked word
suffixes_in (Full epoch suffixes) = suffixes

-- ---- versions by their parts

abbrev pub version_by : ℕ → List ℕ → SuffixRecord → List Segment → VersionRecord
version_by epoch release suffixes local =
    record {
      epoch = epoch;
      release = release;
      pre = suffixes.pre;
      post = suffixes.post;
      dev = suffixes.dev;
      local = local;
      least = suffixes.least;
      most = suffixes.most;
    }

-- of a form, release numbers and a local part
abbrev pub formed : Form → List ℕ → List Segment → VersionRecord
formed form release local = version_by (epoch_in form) release (suffixes_in form) local
