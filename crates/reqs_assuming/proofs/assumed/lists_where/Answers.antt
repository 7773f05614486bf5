use Rattle.std.proofs.Common.{◌∷◌, [], Ok}
use Rattle.std.proofs.lemmas.Result.{err_from_is_err_and}
use Rattle.pep508_formula.specs.Postfix.{formula_of}
use Rattle.reqtable_requirements.proofs.Asked.{are_of_nodes}
use Rattle.reqtable_requirements.proofs.Lasting.{lines_kept}
use Rattle.reqs_lists.proofs.Given.{left_passes, right_passes, two_read}
use Rattle.reqs_lists.specs.Lists.{IsOfLists, PassesInEither, two_lists}
use Rattle.reqs_assuming.proofs.Parsed.{none_parsed, two_where}
use Rattle.reqs_assuming.specs.Lists.{both_where}
use Rattle.reqs_assuming.proofs.assumed.lists_where.Goals as goal

pub both_assumed-requires-clause-left : goal.both_assumed-requires-clause-left
both_assumed-requires-clause-left c =
    let vars = c.args.terms.now.vars.now in
    let said = c.in_ok-said.ensures.lines.0 in
    are_of_nodes vars _ _ said.0 (lines_kept vars _ _ c.in_ok-others.ensures.keeps _ _ said.2)

pub both_assumed-requires-clause-right : goal.both_assumed-requires-clause-right
both_assumed-requires-clause-right c =
    let others = c.in_ok-others.ensures.lines.0 in are_of_nodes c.args.terms.now.vars.now _ _ others.0 others.2

pub returns-in_err-said : goal.returns-in_err-said
returns-in_err-said c =
    let p = err_from_is_err_and c.from_residual.result c.from_residual.ensures.1 in
    let terms = c.args.terms.now in
    let vars = terms.vars.now in
    let left = c.args.left.now.items in
    let right = c.args.right.now.items in
    let inputs = left ∷ right ∷ [] in
    let most = terms.bounds.nodes in
    let nodes = c.requirements_within.new.interner.nodes in
    rw (p.1, p.2)
    (none_parsed (IsOfLists vars inputs) (PassesInEither vars most nodes inputs) most nodes (two_lists vars inputs)
    (λ lists. Ok (both_where (formula_of terms.condition.now) lists)) _
    (left_passes vars left right (λ read fault. ⊥) most nodes _ c.in_err-said.ensures.lines))

pub returns-in_err-others : goal.returns-in_err-others
returns-in_err-others c =
    let left_by = c.from_residual-in_err-others in
    let p = err_from_is_err_and left_by.result left_by.ensures.1 in
    let terms = c.args.terms.now in
    let vars = terms.vars.now in
    let left = c.args.left.now.items in
    let right = c.args.right.now.items in
    let inputs = left ∷ right ∷ [] in
    let most = terms.bounds.nodes in
    let nodes = c.requirements_within-2.new.interner.nodes in
    let said = c.in_ok-said.ensures.lines.0 in
    rw (p.1, p.2)
    (none_parsed (IsOfLists vars inputs) (PassesInEither vars most nodes inputs) most nodes (two_lists vars inputs)
    (λ lists. Ok (both_where (formula_of terms.condition.now) lists)) _
    (right_passes vars left right (λ read fault. ⊥) most nodes _ said.0 said.1 c.in_err-others.ensures.lines))

pub returns : goal.returns
returns c =
    let terms = c.args.terms.now in
    let vars = terms.vars.now in
    let said = c.in_ok-said.ensures.lines.0 in
    let others = c.in_ok-others.ensures.lines.0 in
    let kept = lines_kept vars _ _ c.in_ok-others.ensures.keeps _ _ said.2 in
    let done = c.both_assumed.ensures in
    two_where (formula_of terms.condition.now) vars terms.bounds.nodes c.requirements_within-2.new.interner.nodes
    c.both_assumed.new.interner.nodes (c.args.left.now.items ∷ c.args.right.now.items ∷ []) _ _ (said.0, others.0)
    (two_read vars _ _ said.0 others.0 said.1 others.1) kept others.2 c.both_assumed.result done.left done.right done.fits
    done.fault
