use Rattle.std.proofs.Common.{map, take}
use Rattle.std.specs.List.{AllZip}
use Rattle.reqtable_marker_cache.specs.Known.{AreKnown}
use Rattle.reqtable_marker_cache.specs.Settings.{nodes_in, valuation_in}
use Rattle.reqtable_table.specs.Answers.{LiesIn}
use Rattle.reqtable_table.specs.KeptLines.{package_record}
use Rattle.reqtable_table.proofs.active_case.places_of.Given as goal

abbrev pub invariant-loop-kept : goal.invariant-loop-kept
invariant-loop-kept l = record {
  lie : AllZip (LiesIn (nodes_in l.setting) (valuation_in l.setting))
      (map package_record (take l.kept-index l.packages)) l.places.items;
  known : AreKnown (nodes_in l.setting) (valuation_in l.setting) l.known;
}
