use Rattle.std.proofs.Common.{◌≡◌, ◌∷◌, ◌++◌, string_bytes, rules}
use Rattle.reqs_c_markers.proofs.Names.{names_written}
use Rattle.reqs_c_markers.proofs.requirement_answer.push_names.Goals as goal

pub returns-in_ok-push_str-in-Some : goal.returns-in_ok-push_str-in-Some
returns-in_ok-push_str-in-Some c =
    let is : c.args.names.now ≡ c.in-Some.first.now ∷ c.in-Some.others.now = search rules in
    names_written c.push_others.result _ _ _ c.in-Some.first.now c.in-Some.others.now c.args.names.now is
    (rw c.as_str.ensures.text at c.in_ok-push_str-in-Some.ensures.bytes) c.push_others.ensures
