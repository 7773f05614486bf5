use Rattle.std.proofs.Common.{◌∙◌, ◌++◌, ◌/◌, length, arith}
use Rattle.std.proofs.lemmas.List.{take-append-drop}
use Rattle.std.proofs.lemmas.Bool.Decides.{nat_tests}
use Rattle.pep440_range.specs.Shared.{range_among}
use Rattle.pep440_range.proofs.Halves.{none_share, halves_share}
use Rattle.pep440_range.proofs.shared.+shared_range.Goals as goal

pub returns-then-is_empty : goal.returns-then-is_empty
returns-then-is_empty t c =
    none_share (range_among c.args.among) c.args.members.now c.in_ok-full.field-0
    (grind (arith, nat_tests, c.is_empty.ensures, c.if-is_empty.true)) c.in_ok-full.ensures

pub returns : goal.returns
returns t c =
    let members = c.args.members.now in
    let parts = c.split_at.ensures in
    halves_share (range_among c.args.among) members c.split_at.result.0.now c.split_at.result.1.now
    c.in_ok-front.front
    c.in_ok-back.back c.both.result
    ((λ i. parts.front i ++ parts.back i) ∙ take-append-drop (length members / 2) members)
    c.in_ok-front.ensures c.in_ok-back.ensures c.both.ensures.points c.both.ensures.memory
