-- Summaries as records.
use Rattle.reqtable_compare.specs.declared.summary.Summary.{Summary}
use Rattle.reqtable_compare.specs.Summed.{SummaryRecord}

abbrev pub summary_record : Summary → SummaryRecord
summary_record s = record {
  some = s.has_lines;
  extras = s.extras.items;
  range = s.range;
  prerelease = s.prerelease;
  tree = s.tree;
}
