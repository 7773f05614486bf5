-- The record of a version: the parts of PEP 440, "Version scheme", each for itself.
use Rattle.std.specs.Prelude.{ℕ, Bool, List, [], ◌++◌, replicate, Option, None, map}
use Rattle.std.specs.String.{string_bytes}
use Rattle.pep440_text.specs.declared.LocalSegment.{LocalSegment}
use Rattle.pep440_text.specs.declared.LocalSegment.TheVariants as variants
use Rattle.pep440_text.specs.declared.Prerelease.{Prerelease}
use Rattle.pep440_text.specs.declared.VersionParts.{VersionParts}

-- a segment of a local part: a text that is not a number, or a number (PEP 440, "Local version
-- identifiers")
pub data Segment : Type 0 where
  Text : List ℕ → Segment
  Number : ℕ → Segment

-- the parts of a version; `least` and `most` mark the ends of ranges and are in no text
pub record VersionRecord : Type 0 where
  pub epoch : ℕ
  pub release : List ℕ
  pub pre : Option Prerelease
  pub post : Option ℕ
  pub dev : Option ℕ
  pub local : List Segment
  pub least : Option ℕ
  pub most : Option ℕ

-- a version of release numbers alone (PEP 440, "Final releases")
abbrev pub release_record : List ℕ → VersionRecord
release_record numbers =
    record {
      epoch = 0;
      release = numbers;
      pre = None;
      post = None;
      dev = None;
      local = [];
      least = None;
      most = None;
    }

-- the version without its local part (PEP 440, "Local version identifiers")
abbrev pub without_local : VersionRecord → VersionRecord
without_local version = record version { local = [] }

-- the version with `count` more zeros at the end of its release (PEP 440, "Final releases")
abbrev pub with_end_zeros : ℕ → VersionRecord → VersionRecord
with_end_zeros count version = record version { release = version.release ++ replicate count 0 }

-- a segment, whatever memory its text lies in
abbrev pub segment_of : LocalSegment → Segment
segment_of (variants.String text) = Text (string_bytes text)
segment_of (variants.Number number) = Number number

-- a version, or all versions whose release begins with its release where it is a wildcard (PEP 440, "Version
-- matching")
pub record PatternRecord : Type 0 where
  pub version : VersionRecord
  pub wildcard : Bool

-- the version of an epoch and release numbers
abbrev pub epoch_record : ℕ → List ℕ → VersionRecord
epoch_record epoch numbers = record (release_record numbers) { epoch = epoch }

-- the version of the parts of a text
abbrev pub said : VersionParts → VersionRecord
said parts =
    record (epoch_record parts.epoch parts.release.items) {
      pre = parts.pre;
      post = parts.post;
      dev = parts.dev;
      local = map segment_of parts.local.items;
    }
