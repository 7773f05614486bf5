use Rattle.std.proofs.Common.{rules, string_bytes}
use Rattle.reqs_json.proofs.Said.{told_assumption}
use Rattle.reqs_json.proofs.faults.assumption_line.Goals as goal

pub returns : goal.returns
returns c =
    told_assumption c.args.error.now c.error_line.result (string_bytes c.in_ok-message.message) _ _ _ (search rules)
    c.start.ensures.start c.len.ensures c.in_ok-message.ensures.ok c.error_line.ensures
