use Rattle.std.proofs.Common.{◌≤◌, ◌∷◌, [], inr, length}
use Rattle.std.proofs.lemmas.Result.{err_from_is_err_and}
use Rattle.reqtable_requirements.proofs.Lasting.{lines_kept}
use Rattle.reqs_lists.specs.Comparison.{CantBeWithin}
use Rattle.reqs_lists.specs.Covered.{IsFewCovers, OutgrowsOrUncovered, CoversPasses}
use Rattle.reqs_lists.specs.Lists.{IsOfLists, two_lists}
use Rattle.reqs_lists.proofs.Given.{given_within, left_passes, right_passes, two_read, wider}
use Rattle.reqs_lists.proofs.covering.covers_answer.Goals as goal

pub covers_of-requires : goal.covers_of-requires
covers_of-requires c =
    let left = c.in_ok-left.ensures.lines.0 in
    let right = c.in_ok-right.ensures.lines.0 in record {
      vars = c.args.vars.now;
      said = left.0;
      others = right.0;
      reads_left = lines_kept c.args.vars.now _ _ c.in_ok-right.ensures.keeps _ _ left.2;
      reads_right = right.2;
    }

pub returns-in_err-left : goal.returns-in_err-left
returns-in_err-left c =
    let p = err_from_is_err_and c.from_residual.result c.from_residual.ensures.1 in
    rw (p.1, p.2)
    (wider (left_passes c.args.vars.now c.args.left.now.items c.args.right.now.items (CantBeWithin c.args.limit c.args.bounds.cases)
    c.args.bounds.nodes c.requirements_within.new.interner.nodes _ c.in_err-left.ensures.lines))

pub returns-in_err-right : goal.returns-in_err-right
returns-in_err-right c =
    let left_by = c.from_residual-in_err-right in
    let p = err_from_is_err_and left_by.result left_by.ensures.1 in
    let left = c.in_ok-left.ensures.lines.0 in
    rw (p.1, p.2)
    (wider (right_passes c.args.vars.now c.args.left.now.items c.args.right.now.items (CantBeWithin c.args.limit c.args.bounds.cases)
    c.args.bounds.nodes c.requirements_within-2.new.interner.nodes _ left.0 left.1 c.in_err-right.ensures.lines))

pub returns : goal.returns
returns c =
    let vars = c.args.vars.now in
    let inputs = c.args.left.now.items ∷ c.args.right.now.items ∷ [] in
    let nodes = c.covers_of.new.interner.nodes in
    let bounds = c.args.bounds in
    let limit = c.args.limit in
    let left = c.in_ok-left.ensures.lines.0 in
    let right = c.in_ok-right.ensures.lines.0 in
    let kept = lines_kept vars _ _ c.in_ok-right.ensures.keeps _ _ left.2 in
    let e = two_read vars _ _ left.0 right.0 left.1 right.1 in
    given_within (IsOfLists vars inputs) tt (IsFewCovers c.args.format limit bounds.clauses) (CantBeWithin limit bounds.cases)
    (two_lists vars inputs) (left.0, right.0) e (length nodes ≤ bounds.nodes) (length nodes ≤ bounds.nodes) (λ fits. fits)
    (OutgrowsOrUncovered bounds nodes limit (left.0, right.0)) (CoversPasses bounds nodes limit vars inputs)
    (λ fault h. inr ((left.0, right.0), e, h))
    c.covers_of.result (c.covers_of.ensures vars left.0 right.0 kept right.2)
