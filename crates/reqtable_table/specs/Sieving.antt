-- What is known of a case while its candidates are asked.
use Rattle.std.specs.Prelude.{◌≡◌, true, List, IfSome}
use Rattle.std.specs.List.{list_all}
use Rattle.pep440_version.specs.Record.{VersionRecord}
use Rattle.pep440_range.specs.Agreement.{IsSaid}
use Rattle.pep508_requirement_text.specs.FrontReading.{Front}
use Rattle.reqtable_answer.specs.Asks.{ask_takes}
use Rattle.reqtable_range.specs.declared.sieve.Sieve.{Sieve}
use Rattle.reqtable_range.specs.Sifting.{sieve_holds}
use Rattle.reqtable_table.specs.declared.sieving.Asking.{Asking}

-- ranges hold each version that the requirements accept
abbrev pub HoldsTaken : List Front → Sieve → Type 0
HoldsTaken asks sieve =
    (version : VersionRecord) → IsSaid version → list_all (ask_takes version) asks ≡ true →
    sieve_holds sieve version ≡ true

-- the ranges do, if there are any
abbrev pub Knows : List Front → Asking → Type 0
Knows asks asking = IfSome asking.sieve (HoldsTaken asks)
