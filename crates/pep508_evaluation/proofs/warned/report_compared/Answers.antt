use Rattle.std.proofs.Common.{◌++◌, ◌∙◌, ap, sym, subst, append_assoc, None}
use Rattle.std.specs.List.{FoldsTo}
use Rattle.pep508_tree.specs.Meaning.{diagram_of}
use Rattle.pep508_tree.specs.Roots.{root_of}
use Rattle.pep508_evaluation.specs.Valuations.{valuation_of}
use Rattle.pep508_evaluation.specs.Warned.{compared, TakesKind}
use Rattle.pep508_evaluation.specs.Edges.{root_edges}
use Rattle.pep508_evaluation.proofs.Warning.{folds_append}
use Rattle.pep508_evaluation.proofs.Rooted.{compared_root, compared_constant}
use Rattle.pep508_evaluation.proofs.warned.report_compared.Goals as goal

pub returns-in-Break-clause-taken : goal.returns-in-Break-clause-taken
returns-in-Break-clause-taken g c =
    let nodes = c.args.interner.now.nodes in
    let tree = c.loop-truth.tree in
    let v = valuation_of c.args.environment.now c.args.extras.now in
    let known = c.loop-truth.invariant.3 in
    let here = root_edges (root_of nodes tree) v in
    subst (λ ks. FoldsTo (TakesKind g.R.Reporter.takes) c.args.reporter.now ks c.report_root_edges.new.reporter)
    (sym (known.2 ∙ ap (λ ks. known.0 ++ ks)
    (compared_constant nodes c.are_sound.ensures tree c.loop-truth.invariant.1 v c.in-Break.ensures.1)))
    (folds_append (TakesKind g.R.Reporter.takes) c.args.reporter.now known.0 c.loop-truth.reporter here
    c.report_root_edges.new.reporter known.1 c.in_ok-report_root_edges.ensures.taken)

pub loop-truth-preserved : goal.loop-truth-preserved
loop-truth-preserved g c =
    let nodes = c.args.interner.now.nodes in
    let tree = c.loop-truth.tree in
    let v = valuation_of c.args.environment.now c.args.extras.now in
    let known = c.loop-truth.invariant.3 in
    let here = root_edges (root_of nodes tree) v in
    let goes = c.in-Continue.ensures in (
      c.report_root_edges.ensures.again,
      goes.made,
      c.loop-truth.invariant.2 ∙ goes.same,
      (
        known.0 ++ here,
        folds_append (TakesKind g.R.Reporter.takes) c.args.reporter.now known.0 c.loop-truth.reporter here
            c.report_root_edges.new.reporter known.1 c.in_ok-report_root_edges.ensures.taken,
        known.2
            ∙ ap (λ ks. known.0 ++ ks)
            (compared_root nodes c.are_sound.ensures tree c.loop-truth.invariant.1 v goes.root goes.root_is
            goes.known
            ∙ ap (λ t. here ++ compared v None (diagram_of nodes t)) (sym goes.chosen_is))
            ∙ sym (append_assoc known.0 here (compared v None (diagram_of nodes c.in-Continue.next))),
      ),
    )
