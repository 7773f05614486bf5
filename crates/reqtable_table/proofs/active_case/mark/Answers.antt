use Rattle.std.proofs.Common.{◌∙◌, ◌++◌, ◌∷◌, [], map, ap, sym}
use Rattle.std.proofs.lemmas.List.{take_all}
use Rattle.pep508_tree.specs.Meaning.{IsTree, holds}
use Rattle.reqtable_table.specs.declared.kept.TableLine.{TableLine}
use Rattle.reqtable_table.specs.Kept.{KeptLine}
use Rattle.reqtable_table.specs.KeptLines.{line_record}
use Rattle.reqtable_marker_cache.specs.Settings.{nodes_in, valuation_in}
use Rattle.reqtable_table.proofs.Finding.{all_at, seen_more}
use Rattle.reqtable_table.proofs.MarkedAsks.{marks_seen}
use Rattle.reqtable_table.proofs.active_case.mark.Goals as goal

pub holds-requires-clause-made : goal.holds-requires-clause-made
holds-requires-clause-made c =
    all_at (λ (l : KeptLine). IsTree (nodes_in c.args.setting.now) l.marker) line_record c.args.lines.now c.loop-line.line-index
    c.line-item.result c.loop-line-test.true c.line-item.is c.requires.trees

pub loop-line-preserved : goal.loop-line-preserved
loop-line-preserved c =
    let setting = c.args.setting.now in
    record {
      marks = c.in_ok-push.ensures.items
          ∙ (λ i. c.loop-line.invariant.marks i ++ c.holds.ensures.answer i ∷ [])
          ∙ sym (seen_more (λ (line : TableLine). holds (nodes_in setting) line.marker (valuation_in setting)) c.args.lines.now
          c.loop-line.line-index c.line-item.result c.loop-line-test.true c.line-item.is);
      known = c.holds.ensures.known;
    }

pub returns-clause-marks : goal.returns-clause-marks
returns-clause-marks c =
    let lines = c.args.lines.now in
    let nodes = nodes_in c.args.setting.now in
    let v = valuation_in c.args.setting.now in
    c.loop-line.invariant.marks
    ∙ ap (map (λ (line : TableLine). holds nodes line.marker v)) (take_all c.loop-line.line-index lines c.loop-line-test.false)
    ∙ marks_seen nodes v lines
