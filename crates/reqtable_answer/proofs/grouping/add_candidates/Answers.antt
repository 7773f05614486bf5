use Rattle.std.proofs.Common.{◌∙◌, ◌++◌, ◌∷◌, ◌&&◌, [], cond, ap}
use Rattle.reqtable_answer.specs.Asks.{is_candidate}
use Rattle.reqtable_answer.specs.Groups.{has_group, candidates_for}
use Rattle.reqtable_answer.proofs.ByPackage.{one_more}
use Rattle.reqtable_answer.proofs.grouping.add_candidates.Goals as goal

pub loop-place-preserved : goal.loop-place-preserved
loop-place-preserved c =
    let x = c.index-candidates-place.result in
    let i = c.loop-place.place in
    record {
      packages = λ q. c.in_ok-add.ensures.packages q ∙ c.loop-place.invariant.packages q;
      asks = λ q. c.in_ok-add.ensures.asks q ∙ c.loop-place.invariant.asks q;
      candidates = λ q.
          one_more (has_group c.args.groups.now) q c.args.candidates.now i x c.loop-place-test.true c.index-candidates-place.is
          (candidates_for c.args.groups.now q) (candidates_for c.loop-place.groups q) (candidates_for c.add.new.groups q)
          (c.loop-place.invariant.candidates q)
          (c.in_ok-add.ensures.candidates q
          ∙ ap (λ b. candidates_for c.loop-place.groups q ++ cond (b && is_candidate q (i, x)) ((i, x) ∷ []) []) (c.loop-place.invariant.packages q));
    }
