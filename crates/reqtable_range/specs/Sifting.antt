-- Ranges that hold whatever lists accept, but for what single specifiers reject.
use Rattle.std.specs.Prelude.{◌≡◌, ◌&&◌, Bool, List, All}
use Rattle.version_ranges.specs.Point.{At}
use Rattle.version_ranges.specs.Held.{holds_at}
use Rattle.pep440_version.specs.Record.{VersionRecord, without_local}
use Rattle.pep440_version.specs.Order.{version_cmp}
use Rattle.pep440_specifier.specs.Matching.{SpecifierRecord}
use Rattle.pep440_specifier_list.specs.Lists.{matches_all}
use Rattle.pep440_range.specs.Agreement.{IsSaid}
use Rattle.reqtable_range.specs.declared.sieve.Sieve.{Sieve}
use Rattle.reqtable_range.specs.declared.specifier_sets.Kind.TheVariants.{Single}
use Rattle.reqtable_range.specs.Sorting.{IsOfKind}
use Rattle.reqtable_range.specs.Together.{all_take}

-- both ranges hold a version, the one without its local part, the other as it is
abbrev pub sieve_holds : Sieve → VersionRecord → Bool
sieve_holds sieve version =
    holds_at version_cmp sieve.public (At (without_local version))
    && holds_at version_cmp sieve.local (At version)

-- all lists accept a version exactly where both ranges hold it and some single specifiers accept it
pub record Sifts (lists : List (List SpecifierRecord)) (sieve : Sieve) : Type 0 where
  pub single : List SpecifierRecord
  pub are_single : All (IsOfKind Single) single
  pub take : (version : VersionRecord) → IsSaid version →
      all_take lists version ≡ (sieve_holds sieve version && matches_all single version)
