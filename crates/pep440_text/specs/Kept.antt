-- The parts of a version other than its epoch, its release and its local part, and how numbers that may be
-- absent are kept.
use Rattle.std.specs.Prelude.{ℕ, Bool, true, false, Option, Some, None}
use Rattle.pep440_text.specs.declared.Prerelease.{Prerelease}
use Rattle.pep440_text.specs.declared.PrereleaseKind.{PrereleaseKind}

-- the suffixes (PEP 440, "Version scheme"), and the marks as a range's end
pub record SuffixRecord : Type 0 where
  pub pre : Option Prerelease
  pub post : Option ℕ
  pub dev : Option ℕ
  pub least : Option ℕ
  pub most : Option ℕ

-- a number, where it is there
abbrev pub kept : Bool → ℕ → Option ℕ
kept true number = Some number
kept false number = None

-- a pre-release, where its kind is there
abbrev pub kept_pre : Option PrereleaseKind → ℕ → Option Prerelease
kept_pre (Some kind) number = Some (record { kind = kind; number = number })
kept_pre None number = None

-- no suffix and no mark
abbrev pub no_suffixes : SuffixRecord
no_suffixes = record { pre = None; post = None; dev = None; least = None; most = None }
