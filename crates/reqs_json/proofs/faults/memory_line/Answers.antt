use Rattle.std.proofs.Common.{rules}
use Rattle.serde_json.proofs.OnLiterals.{serde_json_on_literals}
use Rattle.reqs_json.specs.Lines.{line_of}
use Rattle.reqs_json.proofs.faults.memory_line.Goals as goal

pub returns : goal.returns
unfolding line_of serde_json_on_literals
returns c = search rules
