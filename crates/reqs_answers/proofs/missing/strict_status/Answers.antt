use Rattle.std.proofs.Common.{◌∙◌, ◌+◌, ap, refl, sym, subst}
use Rattle.reqtable_table.proofs.Same.{all_same, packages_on, keeps}
use Rattle.reqs_io_faults.specs.Ends.{status_of_answer}
use Rattle.reqs_answers.specs.Ready.{nodes_in}
use Rattle.reqs_answers.proofs.AskedRows.{AreAsked, none_asked, one_asked, all_asked}
use Rattle.reqs_answers.proofs.missing.strict_status.Goals as goal

pub loop-environment-init : goal.loop-environment-init
loop-environment-init g c =
    let query = c.args.query.now in
    record {
      same = all_same c.args.run.now.table;
      text = refl;
      ready = c.requires;
      asked = λ said k. none_asked query.extras.now said query.candidates.now c.args.environments.now;
    }

pub loop-environment-preserved : goal.loop-environment-preserved
loop-environment-preserved g c =
    let query = c.args.query.now in
    let so_far = c.loop-environment.invariant in
    let found = c.in_ok-found.ensures in
    record {
      same = packages_on c.finds_none.new.run.table c.loop-environment.run.table c.args.run.now.table found.kept so_far.same;
      text = found.text ∙ so_far.text;
      ready = found.ready;
      asked = λ said k.
          let told =
          found.finds said (keeps (nodes_in query) c.loop-environment.run.table c.args.run.now.table said so_far.same k) in
          subst
          (AreAsked query.extras.now said query.candidates.now c.args.environments.now (c.loop-environment.environment-index + 1))
          (sym told.2)
          (one_asked query.extras.now said query.candidates.now c.args.environments.now c.loop-environment.environment-index
          c.environment-item.result c.loop-environment-test.true c.environment-item.is c.loop-environment.found (so_far.asked said k)
          told.0 told.1);
    }

pub returns-clause-status : goal.returns-clause-status
returns-clause-status g c = λ said k.
    let query = c.args.query.now in
    let all =
    all_asked query.extras.now said query.candidates.now c.args.environments.now c.loop-environment.environment-index
    c.loop-environment-test.false c.loop-environment.found (c.loop-environment.invariant.asked said k) in
    (all.0, all.1, c.of_answer.ensures ∙ ap status_of_answer all.2)
