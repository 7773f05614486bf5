use Rattle.std.proofs.Common.{◌++◌, List, ℕ, eqb, lit<, sym, ap, ◌∙◌}
use Rattle.std.specs.Prelude.{flat_map}
use Rattle.std.specs.List.{slice_split}
use Rattle.std.specs.String.{string_bytes}
use Rattle.std.proofs.lemmas.Iterator.Consumers.{YieldsList-end}
use Rattle.std.proofs.lemmas.Iterator.Splits.{YieldsList-from_str_split}
use Rattle.pep508_url.specs.Expansion.{behind_dollar}
use Rattle.pep508_url.proofs.Expansion.{expanded_uncut, expanded_cut}
use Rattle.pep508_url.proofs.vars.expand_env_vars.Goals as goal

pub returns-in_default : goal.returns-in_default
returns-in_default c =
    sym (expanded_uncut c.args.vars.now c.args.text.now (sym c.in_default.ensures))

pub returns : goal.returns
returns c =
    let first = c.in-Some.first.now in
    let others = c.in-Some.others.now in
    let all = YieldsList-from_str_split {s = c.into_iter-part-iterator.result} 36 others (lit< tt) (cc) (cc) (cc) in
    let ended = YieldsList-end all c.loop-part.yielded _ c.loop-part.yielded_by _ _ c.in-None.is c.next.ensures.steps in
    let begun = c.in_ok-push_str.ensures.bytes ∙ ap (λ (xs : List ℕ). xs ++ first) c.in_ok-expanded.ensures.bytes in
    c.loop-part.invariant
    ∙ ap (λ parts. string_bytes c.push_str.new.self ++ flat_map (behind_dollar c.args.vars.now) parts) ended.0
    ∙ ap (λ xs. xs ++ flat_map (behind_dollar c.args.vars.now) (slice_split (λ b. eqb b 36) others)) begun
    ∙ sym (expanded_cut c.args.vars.now c.args.text.now (first, others) (sym c.in-Some.ensures))
