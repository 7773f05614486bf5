-- Packages whose lines can't contradict each other.
use Rattle.std.specs.Prelude.{◌≡◌, ℕ, true, false, List, length, map, flat_map}
use Rattle.std.specs.List.{list_any}
use Rattle.std.specs.List.Sorted.{IsStrictlySortedBy}
use Rattle.std.specs.Ordering.{nat_cmp}
use Rattle.std.specs.Cmp.Lexicographic.{slice_cmp}
use Rattle.std.specs.Str.{bytes_eq}
use Rattle.version_ranges.specs.Point.{Point}
use Rattle.pep440_version.specs.Record.{VersionRecord}
use Rattle.pep440_range.specs.Ranges.{range_of, all_hold}
use Rattle.reqtable_requirements.specs.LineSpecifiers.{specifiers_in}
use Rattle.reqtable_requirements.specs.declared.requirements.Line.{Line}
use Rattle.reqtable_table.specs.Given.{is_under}
use Rattle.reqtable_packages.specs.Packages.{HasRoom, lines_under}

-- some point is in the ranges of all specifiers of these lines
abbrev pub Meet : List Line → Type 0
Meet lines =
    ((p : Point VersionRecord) → all_hold (map range_of (flat_map specifiers_in lines)) p ≡ false) → ⊥

-- lines agree, and are so few that the number of their subsets is within the limit
pub record Agree (limit : ℕ) (lines : List Line) : Type 0 where
  pub few : HasRoom limit (length lines)
  pub meet : Meet lines

-- names, each once and rising: the lines of every other package agree
pub record AreDoubtful (limit : ℕ) (lines : List Line) (names : List (List ℕ)) : Type 0 where
  pub rising : IsStrictlySortedBy (slice_cmp nat_cmp) names
  pub others : (name : List ℕ) → list_any (bytes_eq name) names ≡ false →
      list_any (is_under name) lines ≡ true → Agree limit (lines_under name lines)
