-- The range of the requirements on a package.
use Rattle.std.specs.Prelude.{◌≡◌, List, Option, Some, None}
use Rattle.std.specs.List.{list_all}
use Rattle.pep440_version.specs.Record.{VersionRecord}
use Rattle.pep440_specifier.specs.Matching.{SpecifierRecord}
use Rattle.reqtable_range.specs.declared.one.OneRange.{OneRange}
use Rattle.reqtable_range.specs.One.{FindsOne}
use Rattle.reqtable_range.specs.Together.{members_of, all_take}
use Rattle.reqtable_answer.specs.declared.ask.Ask.{Ask}
use Rattle.reqtable_answer.specs.Asks.{ask_takes}
use Rattle.reqtable_answer.specs.Says.{ask_seen}

-- a range, if there is one, is that of lists that accept together what the requirements do
abbrev pub TellsTaken : List Ask → Option OneRange → Type 0
TellsTaken asks None = Unit {0}
TellsTaken asks (Some one) =
    (lists : List (List SpecifierRecord)) × FindsOne (members_of lists) one
    × ((version : VersionRecord) →
    all_take lists version ≡ list_all (λ ask. ask_takes version (ask_seen ask)) asks)
