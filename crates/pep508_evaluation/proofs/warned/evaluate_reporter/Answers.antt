use Rattle.std.proofs.Common.{None, []}
use Rattle.std.proofs.lemmas.Bool.{OnFalse_at}
use Rattle.pep508_tree.specs.Meaning.{diagram_of}
use Rattle.pep508_evaluation.specs.Valuations.{valuation_of}
use Rattle.pep508_evaluation.specs.Warned.{old_names, compared, warned, TakesKind}
use Rattle.pep508_evaluation.proofs.Edging.{on_ok}
use Rattle.pep508_evaluation.proofs.Warning.{folds_append, folds_nowhere}
use Rattle.pep508_evaluation.proofs.warned.evaluate_reporter.Goals as goal

pub returns-then-wants-clause-taken : goal.returns-then-wants-clause-taken
returns-then-wants-clause-taken g c =
    let d = diagram_of c.args.interner.now.nodes c.args.tree in
    let v = valuation_of c.args.environment.now c.args.extras.now in
    on_ok c.report_compared.result
    (folds_append (TakesKind g.R.Reporter.takes) c.args.reporter.now (old_names None d)
    c.report_old_names.new.reporter (compared v None d) c.report_compared.new.reporter
    c.in_ok-report_old_names.ensures.taken)
    c.report_compared.ensures.taken

pub returns-clause-taken : goal.returns-clause-taken
returns-clause-taken g c =
    let d = diagram_of c.args.interner.now.nodes c.args.tree in
    let v = valuation_of c.args.environment.now c.args.extras.now in
    folds_nowhere (TakesKind g.R.Reporter.takes) c.args.reporter.now
    (λ kind. ([], OnFalse_at c.if-wants.false c.wants.ensures (record { kind = kind; text = [] }))) (warned v d)
