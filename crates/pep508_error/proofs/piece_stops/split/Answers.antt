use Rattle.std.proofs.Common.{rules}
use Rattle.std.proofs.lemmas.Fn.{always_returns_same}
use Rattle.pep508_error.proofs.TextCuts.{cut_some, cut_none}
use Rattle.pep508_error.proofs.piece_stops.split.Goals as goal

pub returns-in-Some-clause-parts : goal.returns-in-Some-clause-parts
returns-in-Some-clause-parts g c =
    let s = c.in-Some.ensures.cases in
    let test = g.S.Stop.stops c.args.stop in
    cut_some test c.args.text.now c.split_at.result.0.now c.split_at.result.1.now c.in-Some.end c.utf8.text
    (s.0, s.1 test (always_returns_same _ _ _ (λ a r q k. (search rules, search rules))), s.2, s.3, s.4)
    c.split_at.ensures.front c.split_at.ensures.back

pub returns-in-None-clause-parts : goal.returns-in-None-clause-parts
returns-in-None-clause-parts g c =
    let test = g.S.Stop.stops c.args.stop in
    cut_none test c.args.text.now c.utf8.text
    (c.in-None.ensures.cases test (always_returns_same _ _ _ (λ a r q k. (search rules, search rules))))
