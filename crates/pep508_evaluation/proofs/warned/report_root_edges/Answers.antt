use Rattle.std.proofs.Common.{◌≡◌, ◌∙◌, ap, sym, subst, []}
use Rattle.std.specs.List.{FoldsTo}
use Rattle.version_ranges.specs.Point.{At}
use Rattle.pep508_tree.specs.Roots.{root_of}
use Rattle.pep508_evaluation.specs.Valuations.{valuation_of}
use Rattle.pep508_evaluation.specs.Warned.{TakesKind}
use Rattle.pep508_evaluation.specs.Edges.{text_edges, root_edges}
use Rattle.pep508_evaluation.proofs.Edging.{on_ok}
use Rattle.pep508_evaluation.proofs.Rooted.{signed_edges}
use Rattle.pep508_evaluation.proofs.warned.report_root_edges.Goals as goal

pub returns-in-Texts-clause-taken : goal.returns-in-Texts-clause-taken
returns-in-Texts-clause-taken g c =
    let n = c.in-Texts.children in
    let v = valuation_of c.args.environment.now c.args.extras.now in
    let are : text_edges [] n.later.now (At c.get_string.result.now)
    ≡ root_edges (root_of c.args.interner.now.nodes c.args.tree) v =
    ap (λ t. text_edges [] n.later.now (At t)) c.get_string.ensures
    ∙ sym (signed_edges n.negated c.in-Texts.key n.first n.later.now v)
    ∙ ap (λ o. root_edges o v) c.in-Texts.ensures.shows in
    on_ok c.report_edges.result
    (subst (λ ks. FoldsTo (TakesKind g.R.Reporter.takes) c.args.reporter.now ks c.report_edges.new.reporter) are)
    c.report_edges.ensures.taken
