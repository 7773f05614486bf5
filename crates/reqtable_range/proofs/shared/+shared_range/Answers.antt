use Rattle.std.proofs.Common.{◌≡◌, ◌∙◌, ◌++◌, ◌/◌, length, arith}
use Rattle.std.proofs.lemmas.List.{take-append-drop}
use Rattle.std.proofs.lemmas.Bool.Decides.{nat_tests}
use Rattle.std.proofs.lemmas.Result.{IfOk-weaker}
use Rattle.reqtable_range.proofs.Halves.{none_share, halves_share}
use Rattle.reqtable_range.proofs.shared.+shared_range.Goals as goal

pub returns-then-is_empty : goal.returns-then-is_empty
returns-then-is_empty t c =
    let none : length c.args.members.now ≡ 0 = grind (arith, nat_tests, c.is_empty.ensures, c.if-is_empty.true) in
    IfOk-weaker c.full.result _ _ (λ set all. none_share c.args.members.now set none all) c.full.ensures

pub returns : goal.returns
returns t c =
    let members = c.args.members.now in
    let parts = c.split_at.ensures in
    let front = c.split_at.result.0.now in
    let back = c.split_at.result.1.now in
    let halves : front ++ back ≡ members = (λ i. parts.front i ++ parts.back i) ∙ take-append-drop (length members / 2) members in
    IfOk-weaker c.intersection.result _ _
    (λ both shared. halves_share front back members c.in_ok-front.front c.in_ok-back.back both halves c.in_ok-front.ensures c.in_ok-back.ensures shared)
    c.intersection.ensures
