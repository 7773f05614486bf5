use Rattle.std.proofs.Common.{map}
use Rattle.reqtable_conflicts.specs.Contradictions.{conflict_record}
use Rattle.reqs_json.proofs.OneLine.{line_is}
use Rattle.reqs_lists.proofs.Plain.{plain_conflicts}
use Rattle.reqs_lists.proofs.conflict_lines.conflicts_line.Goals as goal

pub line_of-requires : goal.line_of-requires
line_of-requires c = rw c.in_ok-object.ensures (plain_conflicts (map conflict_record c.args.conflicts.now))

pub returns : goal.returns
returns c = line_is c.line_of.result _ _ c.in_ok-object.ensures c.line_of.ensures
