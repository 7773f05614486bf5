use Rattle.std.proofs.Common.{◌∙◌, ◌<◌, ◌+◌, refl, sym, ap, subst, option_map, rules, arith}
use Rattle.pep440_range.specs.Agreement.{IsSaid}
use Rattle.reqtable_candidates.specs.Ordered.{placed_seen}
use Rattle.reqtable_answer.specs.Asks.{may_be_taken}
use Rattle.reqtable_table.specs.Choosing.{case_asks, Tells}
use Rattle.reqtable_table.specs.Sieving.{Knows}
use Rattle.reqtable_table.proofs.AskedLines.{records, none_more}
use Rattle.reqtable_table.proofs.Finding.{find_here, find_none, find_on, none_passed, passed_more, all_at}
use Rattle.reqtable_table.proofs.Finding.{is_refused, as_admitted, most_more, most_end}
use Rattle.reqtable_table.proofs.MarkedAsks.{same_asks, same_answer}
use Rattle.reqtable_table.proofs.Sifted.{knows_nothing}
use Rattle.reqtable_table.proofs.Telling.{case_tells}
use Rattle.reqtable_table.proofs.choosing_by_case.chosen.Goals as goal
use Rattle.reqtable_table.proofs.choosing_by_case.chosen.Goals.{else-taken-via-then-taken+else-admits}
use Rattle.reqtable_table.proofs.choosing_by_case.chosen.Goals.{else-taken-via-else-taken}

pub loop-at-init : goal.loop-at-init
loop-at-init g c = record {
  more = none_more 0 (records c.args.lines.now);
  knows = knows_nothing (case_asks c.args.marks.now (records c.args.lines.now)) c.new-asking.result c.new-asking.ensures;
  none = λ admits by. refl;
}

pub takes-requires-clause-knows : goal.takes-requires-clause-knows
takes-requires-clause-knows g c =
    subst (λ asks. Knows asks c.loop-at.asking)
    (sym (same_asks c.args.marks.now c.args.lines.now c.loop-at.lines c.loop-at.invariant.more.same))
    c.loop-at.invariant.knows

pub takes-requires-clause-tells : goal.takes-requires-clause-tells
takes-requires-clause-tells g c =
    let marks = c.args.marks.now in
    let lines = c.args.lines.now in
    let bounded = c.any_marked-bounded.result in
    let same = same_asks marks lines c.loop-at.lines c.loop-at.invariant.more.same in
    subst (λ asks. Tells bounded c.args.range.now asks) (sym same)
    (case_tells marks lines c.args.range.now bounded c.requires.flags c.requires.read c.requires.range
    (c.any_marked-bounded.ensures (λ line. line.is_bounded) (λ line answer h. search rules)))

pub takes-requires-clause-said : goal.takes-requires-clause-said
takes-requires-clause-said g c =
    all_at (λ x. IsSaid x.1.version) placed_seen c.args.own.now c.loop-at.at c.at-placed.result.now
    (subst (λ n. c.loop-at.at < n) c.len.ensures c.loop-at-test.true) c.at-placed.ensures c.requires.said

pub returns-then-admits-clause-chosen : goal.returns-then-admits-clause-chosen
returns-then-admits-clause-chosen g c = λ admits by.
    let marks = c.args.marks.now in
    let lines = c.args.lines.now in
    let asks = case_asks marks (records lines) in
    let item = c.at-placed.result.now in
    let answer =
    same_answer item.candidate.now.version marks lines c.loop-at.lines c.in-Ok.taken
    c.loop-at.invariant.more.same c.in-Ok.ensures.answer in
    let passes =
    as_admitted admits asks (placed_seen item) c.in-Ok.taken answer c.args.pre
    c.admits.result c.requires.flag (c.admits.ensures admits by) c.if-taken.true ∙ c.if-admits.true in
    sym (ap (option_map (λ x. x.0))
    (find_here placed_seen (may_be_taken admits asks) c.args.own.now c.loop-at.at item
    (subst (λ n. c.loop-at.at < n) c.len.ensures c.loop-at-test.true) c.at-placed.ensures (c.loop-at.invariant.none admits by) passes))

pub returns-then-admits-clause-below : goal.returns-then-admits-clause-below
returns-then-admits-clause-below g c = λ count below.
    all_at (λ x. x.0 < count) placed_seen c.args.own.now c.loop-at.at c.at-placed.result.now
    (subst (λ n. c.loop-at.at < n) c.len.ensures c.loop-at-test.true) c.at-placed.ensures below

pub returns-then-admits-clause-kept : goal.returns-then-admits-clause-kept
returns-then-admits-clause-kept g c =
    (most_end c.args.marks.now c.args.lines.now c.loop-at.lines c.takes.new.lines c.args.own.now
    c.loop-at.at c.at-placed.result.now (subst (λ n. c.loop-at.at < n) c.len.ensures c.loop-at-test.true) c.at-placed.ensures
    c.loop-at.invariant.more c.takes.ensures.more).same

pub returns-then-admits-clause-tests : goal.returns-then-admits-clause-tests
returns-then-admits-clause-tests g c =
    (most_end c.args.marks.now c.args.lines.now c.loop-at.lines c.takes.new.lines c.args.own.now
    c.loop-at.at c.at-placed.result.now (subst (λ n. c.loop-at.at < n) c.len.ensures c.loop-at-test.true) c.at-placed.ensures
    c.loop-at.invariant.more c.takes.ensures.more).tests

pub returns-in-Err-clause-kept : goal.returns-in-Err-clause-kept
returns-in-Err-clause-kept g c =
    (most_end c.args.marks.now c.args.lines.now c.loop-at.lines c.takes.new.lines c.args.own.now
    c.loop-at.at c.at-placed.result.now (subst (λ n. c.loop-at.at < n) c.len.ensures c.loop-at-test.true) c.at-placed.ensures
    c.loop-at.invariant.more c.takes.ensures.more).same

pub returns-in-Err-clause-tests : goal.returns-in-Err-clause-tests
returns-in-Err-clause-tests g c =
    (most_end c.args.marks.now c.args.lines.now c.loop-at.lines c.takes.new.lines c.args.own.now
    c.loop-at.at c.at-placed.result.now (subst (λ n. c.loop-at.at < n) c.len.ensures c.loop-at-test.true) c.at-placed.ensures
    c.loop-at.invariant.more c.takes.ensures.more).tests

pub loop-at-preserved : goal.loop-at-preserved
loop-at-preserved g c =
    let marks = c.args.marks.now in
    let lines = c.args.lines.now in
    let asks = case_asks marks (records lines) in
    let own = c.args.own.now in
    let at = c.loop-at.at in
    let item = c.at-placed.result.now in
    let so_far = c.loop-at.invariant in
    let bounded = c.any_marked-bounded.result in
    let answer =
    same_answer item.candidate.now.version marks lines c.loop-at.lines c.in-Ok.taken so_far.more.same
    c.in-Ok.ensures.answer in
    let tells =
    case_tells marks lines c.args.range.now bounded c.requires.flags c.requires.read c.requires.range
    (c.any_marked-bounded.ensures (λ line. line.is_bounded) (λ line answer h. search rules)) in
    record {
      more =
          passed_more marks lines c.takes.new.lines own (at + 1) c.next-at.result (omega (arith, c.next-at.ensures.behind))
          (most_more marks lines c.loop-at.lines c.takes.new.lines own at item
          (subst (λ n. c.loop-at.at < n) c.len.ensures c.loop-at-test.true) c.at-placed.ensures so_far.more c.takes.ensures.more);
      knows =
          subst (λ asks. Knows asks c.takes.new.asking) (same_asks marks lines c.loop-at.lines so_far.more.same)
          c.takes.ensures.knows;
      none = λ admits by.
          find_on placed_seen (may_be_taken admits asks) own (at + 1) c.next-at.result
          (find_none placed_seen (may_be_taken admits asks) own at item (subst (λ n. c.loop-at.at < n) c.len.ensures c.loop-at-test.true)
          c.at-placed.ensures (so_far.none admits by)
          (elim c.else-taken.branch [
            | else-taken-via-then-taken+else-admits w ↦
                as_admitted admits asks (placed_seen item) c.in-Ok.taken answer c.args.pre
                w.admits.result c.requires.flag (w.admits.ensures admits by) w.if-taken.true ∙ w.if-admits.false
            | else-taken-via-else-taken w ↦
                is_refused admits asks (placed_seen item) c.in-Ok.taken answer w.if-taken.false
          ]))
          (none_passed admits asks bounded c.args.range.now tells own (at + 1) c.next-at.result c.next-at.ensures.within
          c.requires.said c.next-at.ensures.passed);
    }
