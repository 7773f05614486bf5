-- A table's parts as records, and how a line is kept in it.
use Rattle.std.specs.Prelude.{List, map}
use Rattle.std.specs.Borrow.{Bor}
use Rattle.std.specs.List.{list_any}
use Rattle.reqtable_groups.specs.declared.given.Given.{Given}
use Rattle.reqtable_table.specs.declared.kept.TableLine.{TableLine}
use Rattle.reqtable_table.specs.declared.table.Package.{Package}
use Rattle.reqtable_search.specs.Told.{is_bound}
use Rattle.reqtable_table.specs.Kept.{KeptLine, KeptPackage}
use Rattle.reqtable_table.specs.Casing.{case_record}

abbrev pub line_record : TableLine → KeptLine
line_record line = record {
  number = line.number;
  extras = line.extras.items;
  marker = line.marker;
  url = line.is_url;
  bounded = line.is_bounded;
  specifiers = line.specifiers;
}

abbrev pub lent_lines : List (Bor TableLine) → List KeptLine
lent_lines lines = map (λ line. line_record line.now) lines

abbrev pub package_record : Package → KeptPackage
package_record kept = record {
  name = kept.name;
  cases = map case_record kept.cases.items;
  lines = map line_record kept.lines.items;
}

-- a line of which no specifier was tested
abbrev pub kept_by : Given → KeptLine
kept_by line = record {
  number = line.number;
  extras = line.extras.items;
  marker = line.marker;
  url = line.is_url;
  bounded = list_any (λ s. is_bound s.operator) line.specifiers;
  specifiers = record { members = line.specifiers; tests = 0 };
}
