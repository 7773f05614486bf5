use Rattle.std.proofs.lemmas.Result.{on_ok_weaker}
use Rattle.pep508_evaluation.specs.Valuations.{valuation_of}
use Rattle.reqtable_table.proofs.RowsOfLines.{rows_are_the_answer}
use Rattle.reqtable_table.proofs.Same.{all_same}
use Rattle.reqs_rows.proofs.answering.Answering.put_answer.Goals as goal

pub returns-in_err-places-clause-kept : goal.returns-in_err-places-clause-kept
returns-in_err-places-clause-kept g c = all_same c.args.self.now.table

pub returns-clause-put : goal.returns-clause-put
returns-clause-put g c =
    let query = c.args.query.now in
    let nodes = query.interner.now.nodes in
    let v = valuation_of c.args.environment.now query.extras.now in
    on_ok_weaker c.put_rows.result
    (λ h said admits keeps by.
    let put = h admits by in
    (put.0, rows_are_the_answer nodes v c.args.self.now.table said keeps admits query.candidates.now put.0 put.1, put.2))
    c.put_rows.ensures.put
