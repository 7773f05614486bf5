use Rattle.std.proofs.Common.{rules}
use Rattle.std.proofs.lemmas.List.Sorted.{answers_always}
use Rattle.std.specs.Char.{is_whitespace}
use Rattle.reqtable_candidates.proofs.Words.{no_parts, has_parts}
use Rattle.reqtable_candidates.proofs.candidates.split_at_white.Goals as goal

pub returns-in_err-name : goal.returns-in_err-name
returns-in_err-name c =
    rw c.from_residual.ensures (no_parts c.args.text.now c.utf8.text (c.in_err-name.ensures.cases is_whitespace (answers_always _ _ _ (λ f a r q k. search rules))))

pub returns : goal.returns
returns c =
    let s = c.in_ok-name.ensures.cases in
    rw c.trim_start.ensures.trim (has_parts c.args.text.now c.in_ok-name.name.now c.in_ok-name.rest.now c.utf8.text (s.0, s.1, s.2 is_whitespace (answers_always _ _ _ (λ f a r q k. search rules)), s.3, s.4, s.5, s.6, s.7))
