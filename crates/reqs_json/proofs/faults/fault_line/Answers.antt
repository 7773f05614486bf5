use Rattle.std.proofs.Common.{map, rules, string_bytes}
use Rattle.reqs_io_faults.specs.Ends.{of_input}
use Rattle.reqs_json.proofs.Said.{told}
use Rattle.reqs_json.proofs.faults.fault_line.Goals as goal

pub returns : goal.returns
returns c =
    told (of_input (map (λ p. p.now) c.args.paths.now)) c.args.fault.now c.error_line.result _
    (string_bytes c.in_ok-message.message) _ _ _ c.kind_of.ensures (search rules) c.path_of-path.ensures
    c.place_in.ensures c.in_ok-message.ensures c.error_line.ensures
