use Rattle.std.proofs.Common.{rules, sym, subst}
use Rattle.std.specs.List.{AllZip}
use Rattle.reqtable_table.specs.Answers.{SamePackage}
use Rattle.reqtable_table.specs.Kept.{KeepsAll}
use Rattle.reqtable_table.proofs.Same.{keeps}
use Rattle.reqtable_table.proofs.Told.{told_at_first}
use Rattle.reqs_answers.specs.Check.{on_request}
use Rattle.reqs_answers.specs.Ready.{nodes_in}
use Rattle.reqs_answers.proofs.Ready.{at_first}
use Rattle.reqs_answers.proofs.environments.answers_text.Goals as goal

pub new-admission-requires-clause-lawful : goal.new-admission-requires-clause-lawful
new-admission-requires-clause-lawful c = (on_request, λ version named answer h. search rules)

pub answers_status-requires : goal.answers_status-requires
answers_status-requires c = record {
  admits = λ version named answer h. search rules;
  ready =
      at_first _ _ c.args.query.now c.in_ok-run.run' c.args.table c.in_ok-runs.runs c.in_ok-run.ensures.table
      c.in_ok-run.ensures.runs c.in_ok-run.ensures.known c.in_ok-run.ensures.separated (search rules) c.requires
      c.in_ok-runs.ensures.are
      (told_at_first _ c.args.table c.in_ok-runs.runs c.in_ok-runs.ensures.are c.in_ok-runs.ensures.untold) (search rules);
}

pub returns-clause-text : goal.returns-clause-text
returns-clause-text c = λ said k.
    let nodes = nodes_in c.args.query.now in
    c.in_ok-put_answers.ensures said
    (keeps nodes c.answers_status.new.run.table c.args.table said
    (subst (λ t. AllZip SamePackage c.answers_status.new.run.table t) c.in_ok-run.ensures.table c.in_ok-status.ensures.kept) k)

pub returns-clause-status : goal.returns-clause-status
returns-clause-status c = λ said k.
    let nodes = nodes_in c.args.query.now in
    c.in_ok-status.ensures.status said (subst (λ t. KeepsAll nodes t said) (sym c.in_ok-run.ensures.table) k)
