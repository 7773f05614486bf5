use Rattle.std.proofs.Common.{◌≡◌, ◌∷◌, rules}
use Rattle.reqs_lists.proofs.Numbers.{numbers_written}
use Rattle.reqs_lists.proofs.conflict_lines.push_numbers.Goals as goal

pub returns-in_ok-write-in-Some : goal.returns-in_ok-write-in-Some
returns-in_ok-write-in-Some c =
    let is : c.args.numbers.now ≡ c.in-Some.first.now ∷ c.in-Some.others.now = search rules in
    numbers_written c.push_others.result _ _ _ c.in-Some.first.now c.in-Some.others.now c.args.numbers.now is
    c.in_ok-write-in-Some.ensures.bytes c.push_others.ensures
