use Rattle.std.proofs.Common.{◌≡◌, ℕ, List, get_or, length, ap, arith}
use Rattle.std.proofs.lemmas.Str.{IsCharBoundary-after_ascii}
use Rattle.pep508_requirement_text.proofs.unnamed_front.inside.Goals as goal

pub range-requires-clause-start_boundary : goal.range-requires-clause-start_boundary
range-requires-clause-start_boundary c =
    let first : get_or c.args.extras.now 0 0 ≡ 91 = ap (λ (xs : List ℕ). get_or xs 0 0) c.requires.1 in
    λ _.
    IsCharBoundary-after_ascii c.args.extras.now 0 c.utf8.extras (omega (arith, ap length c.requires.1))
    (omega (arith, first))
