use Rattle.std.proofs.Common.{◌≡◌, map, take}
use Rattle.std.specs.List.{list_all}
use Rattle.pep440_version.specs.Record.{VersionRecord}
use Rattle.reqtable_range.specs.Together.{all_take}
use Rattle.reqtable_answer.specs.Asks.{ask_takes}
use Rattle.reqtable_answer.specs.Says.{ask_seen}
use Rattle.reqtable_answer.proofs.ranged.lists_of.Given as goal

abbrev pub invariant-loop-ask : goal.invariant-loop-ask
invariant-loop-ask l =
    (version : VersionRecord) → all_take (map (λ list. list.now) l.lists.items) version
    ≡ list_all (λ ask. ask_takes version (ask_seen ask)) (take l.ask-index l.asks)
