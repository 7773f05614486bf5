use Rattle.std.proofs.Common.{refl}
use Rattle.reqs_json.proofs.OneLine.{line_is}
use Rattle.reqs_lists.proofs.uncovered_lines.covers_line.Goals as goal

pub line_of-requires : goal.line_of-requires
line_of-requires c = rw c.in_ok-object.ensures refl

pub returns : goal.returns
returns c = line_is c.line_of.result _ _ c.in_ok-object.ensures c.line_of.ensures
