use Rattle.std.proofs.Common.{◌∙◌, ◌++◌, ap}
use Rattle.std.proofs.lemmas.Result.{on_ok_weaker}
use Rattle.reqtable_table.proofs.Same.{all_same, packages_on, keeps}
use Rattle.reqs_answers.specs.Ready.{nodes_in}
use Rattle.reqs_answers.specs.Frames.{opening}
use Rattle.reqs_answers.proofs.Framed.{begun, gone_on, closed}
use Rattle.reqs_rows.proofs.Ready.{with_text}
use Rattle.reqs_answers.proofs.environments.put_answers.Goals as goal

pub loop-place-init : goal.loop-place-init
loop-place-init g c =
    let query = c.args.query.now in
    record {
      goes = record {
        same = all_same c.args.run.now.table;
        answers = λ said k.
            begun query.format query.extras.now said query.candidates.now c.args.environments.now c.put_opening.new.text.whole
            (c.in_ok-put_opening.ensures.whole ∙ ap (λ t. t ++ opening query.format) c.requires.empty);
      };
      ready = record {
        admits = c.requires.ready.admits;
        ready = with_text _ _ query.format (nodes_in query) query.candidates.now c.args.run.now c.put_opening.new.text
            c.in_ok-put_opening.ensures.grow c.requires.ready.ready;
      };
    }

pub loop-place-preserved : goal.loop-place-preserved
loop-place-preserved g c =
    let query = c.args.query.now in
    let so_far = c.loop-place.invariant.goes in
    record {
      goes = record {
        same = packages_on _ _ _ c.in_ok-put_environment.ensures.kept so_far.same;
        answers = λ said k.
            let put =
            c.in_ok-put_environment.ensures.put said (keeps (nodes_in query) c.loop-place.run.table c.args.run.now.table said so_far.same k) in
            gone_on query.format query.extras.now said query.candidates.now c.args.environments.now c.loop-place.place
            c.index-environments-place.result c.loop-place-test.true c.index-environments-place.is c.loop-place.run.text.whole
            c.put_environment.new.run.text.whole (so_far.answers said k) put.0 put.1 put.2;
      };
      ready = c.in_ok-put_environment.ensures.ready;
    }

pub returns : goal.returns
returns g c =
    let query = c.args.query.now in
    on_ok_weaker c.put_closing.result
    (λ h said k.
    closed query.extras.now said query.candidates.now c.args.environments.now query.format c.loop-place.place
    c.loop-place.run.text.whole c.put_closing.new.text.whole c.loop-place-test.false (c.loop-place.invariant.goes.answers said k) h)
    c.put_closing.ensures
