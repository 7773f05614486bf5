use Rattle.std.proofs.Common.{◌∙◌, ◌++◌, ◌/◌, length, arith}
use Rattle.std.proofs.lemmas.List.{take-append-drop}
use Rattle.std.proofs.lemmas.Bool.Decides.{nat_tests}
use Rattle.pep508_comparison.proofs.Unions.{no_minors, halves_join}
use Rattle.pep508_comparison.proofs.lists.+minors_range.Goals as goal

pub returns-then-is_empty : goal.returns-then-is_empty
returns-then-is_empty t c =
    no_minors c.args.versions.now c.empty.result
    (grind (arith, nat_tests, c.is_empty.ensures, c.if-is_empty.true)) c.empty.ensures

pub returns : goal.returns
returns t c =
    let versions = c.args.versions.now in
    let parts = c.split_at.ensures in
    halves_join versions c.split_at.result.0.now c.split_at.result.1.now c.in_ok-front.front
    c.in_ok-back.back c.either.result
    ((λ i. parts.front i ++ parts.back i) ∙ take-append-drop (length versions / 2) versions)
    c.in_ok-front.ensures c.in_ok-back.ensures c.either.ensures.points c.either.ensures.memory
