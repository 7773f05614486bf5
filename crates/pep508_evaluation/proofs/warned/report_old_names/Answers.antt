use Rattle.std.proofs.Common.{rules, refl}
use Rattle.pep508_evaluation.specs.Warned.{TakesKind}
use Rattle.pep508_evaluation.proofs.Telling.{told_none, next_made, told_more, work_less}
use Rattle.pep508_evaluation.proofs.warned.report_old_names.Goals as goal

pub loop-next-init : goal.loop-next-init
loop-next-init g c = (
  c.requires.can,
  told_none c.args.interner.now.nodes (TakesKind g.R.Reporter.takes) c.args.tree c.args.reporter.now
      c.args.reporter.now c.in_ok-waiting.waiting.items refl c.requires.made (search rules),
)

pub report_root_name-requires-clause-made : goal.report_root_name-requires-clause-made
report_root_name-requires-clause-made g c =
    let R = TakesKind g.R.Reporter.takes in
    let nodes = c.args.interner.now.nodes in
    next_made nodes R c.args.tree c.args.reporter.now c.loop-next.reporter c.are_sound.ensures
    c.loop-next.waiting.items c.pop.new.self.items c.in-Some.next c.loop-next.invariant.1 c.in-Some.ensures.items

pub loop-next-smaller : goal.loop-next-smaller
loop-next-smaller g c =
    let R = TakesKind g.R.Reporter.takes in
    let nodes = c.args.interner.now.nodes in
    work_less nodes R c.args.tree c.args.reporter.now c.loop-next.reporter c.are_sound.ensures
    c.loop-next.waiting.items c.pop.new.self.items c.in-Some.next c.loop-next.invariant.1 c.in-Some.ensures.items
    c.add_children.new.waiting.items c.in_ok-add_children.ensures

pub loop-next-preserved : goal.loop-next-preserved
loop-next-preserved g c =
    let R = TakesKind g.R.Reporter.takes in
    let nodes = c.args.interner.now.nodes in (
      c.report_root_name.ensures.again,
      told_more nodes R c.args.tree c.args.reporter.now c.loop-next.reporter c.are_sound.ensures
          c.loop-next.waiting.items c.pop.new.self.items c.in-Some.next c.loop-next.invariant.1 c.in-Some.ensures.items
          c.add_children.new.waiting.items c.in_ok-add_children.ensures c.report_root_name.new.reporter
          c.in_ok-report_root_name.ensures.taken,
    )
