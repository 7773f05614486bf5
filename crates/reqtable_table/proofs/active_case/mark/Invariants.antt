use Rattle.std.proofs.Common.{◌≡◌, map, take}
use Rattle.pep508_tree.specs.Meaning.{holds}
use Rattle.reqtable_marker_cache.specs.Known.{AreKnown}
use Rattle.reqtable_marker_cache.specs.Settings.{nodes_in, valuation_in}
use Rattle.reqtable_table.proofs.active_case.mark.Given as goal

abbrev pub invariant-loop-line : goal.invariant-loop-line
invariant-loop-line l = record {
  marks : l.marks.items
      ≡ map (λ line. holds (nodes_in l.setting) line.marker (valuation_in l.setting)) (take l.line-index l.lines);
  known : AreKnown (nodes_in l.setting) (valuation_in l.setting) l.known;
}
