use Rattle.std.proofs.Common.{◌≤◌, ◌∷◌, [], inl, inr, length}
use Rattle.std.proofs.lemmas.Result.{err_from_is_err_and}
use Rattle.pep508_formula.specs.Postfix.{formula_of}
use Rattle.reqs_lists.proofs.Given.{given_within}
use Rattle.reqs_lists.specs.Comparison.{CantBeWithin}
use Rattle.reqs_lists.specs.Covered.{IsFewCovers, OutgrowsOrUncovered}
use Rattle.reqs_lists.specs.Lists.{IsOfLists, PassesInEither}
use Rattle.reqs_assuming.proofs.Parsed.{none_answered}
use Rattle.reqs_assuming.specs.Covered.{CoversPassesWhere}
use Rattle.reqs_assuming.specs.Lists.{two_lists_where}
use Rattle.reqs_assuming.proofs.covering.covers_answer.Goals as goal

pub covers_of-requires : goal.covers_of-requires
covers_of-requires c =
    let read = c.in_ok-both.ensures.0 in record {
      vars = c.args.terms.now.vars.now;
      said = read.0.0;
      others = read.0.1;
      reads_left = read.2.0;
      reads_right = read.2.1;
    }

pub returns-in_err-both : goal.returns-in_err-both
returns-in_err-both c =
    let p = err_from_is_err_and c.from_residual.result c.from_residual.ensures.1 in
    let terms = c.args.terms.now in
    let vars = terms.vars.now in
    let inputs = c.args.left.now.items ∷ c.args.right.now.items ∷ [] in
    let bounds = terms.bounds in
    let nodes = c.lists_where.new.interner.nodes in
    rw (p.1, p.2)
    (none_answered (IsOfLists vars inputs) (PassesInEither vars bounds.nodes nodes inputs) bounds.nodes nodes
    (two_lists_where (formula_of terms.condition.now) vars inputs) _ (CantBeWithin c.args.limit bounds.cases)
    (OutgrowsOrUncovered bounds nodes c.args.limit) (λ read o. inl (inl o)) c.in_err-both.ensures)

pub returns : goal.returns
returns c =
    let terms = c.args.terms.now in
    let vars = terms.vars.now in
    let inputs = c.args.left.now.items ∷ c.args.right.now.items ∷ [] in
    let condition = formula_of terms.condition.now in
    let nodes = c.covers_of.new.interner.nodes in
    let bounds = terms.bounds in
    let limit = c.args.limit in
    let read = c.in_ok-both.ensures.0 in
    given_within (IsOfLists vars inputs) tt (IsFewCovers terms.format limit bounds.clauses) (CantBeWithin limit bounds.cases)
    (two_lists_where condition vars inputs) read.0 read.1 (length nodes ≤ bounds.nodes) (length nodes ≤ bounds.nodes) (λ fits. fits)
    (OutgrowsOrUncovered bounds nodes limit read.0) (CoversPassesWhere condition bounds nodes limit vars inputs)
    (λ fault h. inr (read.0, read.1, h)) c.covers_of.result (c.covers_of.ensures vars read.0.0 read.0.1 read.2.0 read.2.1)
