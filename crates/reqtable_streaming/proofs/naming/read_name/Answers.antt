use Rattle.std.proofs.Common.{◌∙◌, ◌<◌, ◌≤◌, take, sym, arith}
use Rattle.reqtable_streaming.proofs.NormalForms.{begun, step}
use Rattle.reqtable_streaming.proofs.naming.read_name.Goals as goal

pub loop-at-init : goal.loop-at-init
loop-at-init c = record {
  within = omega arith;
  room = omega arith;
  so_far = λ n above some within.
      begun c.args.line.now n some (sym c.begins_name.ensures ∙ c.if-not-begins_name.false);
}

pub loop-at-preserved : goal.loop-at-preserved
loop-at-preserved c =
    let line = c.args.line.now in
    let at = c.loop-at.at in
    record {
      within = omega (arith, c.loop-at-test.true);
      room = c.in_ok-separated.ensures.room c.loop-at.invariant.room;
      so_far = λ n above some within.
          let below : at < n = omega (arith, above) in
          let before : at ≤ n = omega (arith, above) in
          step line (take c.loop-at.count c.loop-at.normal) (take c.in_ok-separated.field-0-1 c.add_byte.new.normal) at n
          c.loop-at.separated c.in_ok-separated.field-0-0 below within c.in_ok-separated.ensures.adds (c.loop-at.invariant.so_far n before some within);
    }
