use Rattle.std.proofs.Common.{refl, arith}
use Rattle.std.proofs.lemmas.Result.{IfOk-weaker}
use Rattle.pep508_error.specs.Cursors.{behind}
use Rattle.pep508_marker_parser.specs.declared.levels.Levels.{Levels}
use Rattle.pep508_marker_parser.specs.MarkerReading.{And, Or}
use Rattle.pep508_marker_parser.proofs.Steps.{chained, chosen, formula_ends, passed, skipped}
use Rattle.pep508_marker_parser.proofs.chain.go_on.Goals as goal

pub returns-in-Some-clause-read : goal.returns-in-Some-clause-read
returns-in-Some-clause-read c =
    λ deepest start reading warned h.
    let old = c.args.levels.now in
    let mid : Levels = record { builder = c.take.new.self; openings = old.openings } in
    chained deepest start reading warned old mid c.args.place refl c.in_ok-take.ensures h c.in-Some.later
    c.in-Some.ensures.next c.in-Some.ensures.later c.in-Some.ensures.stays

pub returns-in-Some-clause-shorter : goal.returns-in-Some-clause-shorter
returns-in-Some-clause-shorter c =
    let a = passed And (behind c.args.place) (behind c.in-Some.later) c.in-Some.ensures.next c.in-Some.ensures.later in
    omega (arith, a)

pub returns-in-Some-pass-clause-read : goal.returns-in-Some-pass-clause-read
returns-in-Some-pass-clause-read c =
    λ deepest start reading warned h.
    let old = c.args.levels.now in
    let mid : Levels = record { builder = c.take.new.self; openings = old.openings } in
    let after : Levels = record { builder = c.end_chain.new.self; openings = old.openings } in
    let end = c.after_whitespace-end in
    let later = c.in-Some-pass in
    chosen deepest start reading warned old mid c.args.place refl c.in_ok-take.ensures h after refl
    c.in_ok-end_chain.ensures c.in_default.ensures.next end.result end.ensures.rest end.ensures.behind later.later
    later.ensures.next later.ensures.later later.ensures.stays

pub returns-in-Some-pass-clause-shorter : goal.returns-in-Some-pass-clause-shorter
returns-in-Some-pass-clause-shorter c =
    let end = c.after_whitespace-end in
    let later = c.in-Some-pass in
    let a = skipped (behind c.args.place) (behind end.result) end.ensures.rest in
    let b = passed Or (behind end.result) (behind later.later) later.ensures.next later.ensures.later in
    omega (arith, a, b)

pub returns-in-None-clause-read : goal.returns-in-None-clause-read
returns-in-None-clause-read c =
    λ deepest start reading warned h.
    let old = c.args.levels.now in
    let mid : Levels = record { builder = c.take.new.self; openings = old.openings } in
    let after : Levels = record { builder = c.end_chain.new.self; openings = old.openings } in
    let end = c.after_whitespace-end in
    let last = c.after_whitespace in
    c.leave.ensures.read deepest start reading warned
    (formula_ends deepest start reading warned old mid c.args.place refl c.in_ok-take.ensures h after refl
    c.in_ok-end_chain.ensures c.in_default.ensures.next end.result end.ensures.rest end.ensures.behind last.result
    c.in-None.ensures.next last.ensures.rest last.ensures.behind)

pub returns-in-None-clause-shorter : goal.returns-in-None-clause-shorter
returns-in-None-clause-shorter c =
    let end = c.after_whitespace-end in
    let last = c.after_whitespace in
    let a = skipped (behind c.args.place) (behind end.result) end.ensures.rest in
    let b = skipped (behind end.result) (behind last.result) last.ensures.rest in
    IfOk-weaker c.leave.result _ _ (λ step h. omega (arith, a, b, h)) c.leave.ensures.shorter
