use Rattle.std.proofs.Common.{◌-◌, ◌+◌, sym, ◌∙◌, ap, length, map, Ok}
use Rattle.pep440_text.specs.Record.{segment_of}
use Rattle.pep440_text.specs.Reading.{with_front, segments_at}
use Rattle.pep440_text.proofs.Steps.{segments_last, segments_end, segments_more, segments_err}
use Rattle.pep440_text.proofs.Steps.{segments_pushed}
use Rattle.pep440_text.proofs.reading.local.segments.Goals as goal

pub returns-in-Err : goal.returns-in-Err
returns-in-Err c = segments_err (length c.args.bytes.now) c.loop.counter (map segment_of c.loop.segments.items) c.loop.rest.now c.in-Err.error _ c.loop-test.true c.in-Err.ensures c.loop.invariant

pub returns-in-None : goal.returns-in-None
returns-in-None c =
    sym c.loop.invariant
    ∙ segments_last (length c.args.bytes.now) c.loop.counter (map segment_of c.loop.segments.items) (segment_of c.in-Ok.segment) c.loop.rest.now c.in-Ok.behind.now c.loop-test.true c.in-Ok.ensures c.in-None.ensures.cases
    ∙ ap (λ segments. Ok (segments, c.in-Ok.behind.now)) (sym (segments_pushed c.loop.segments.items _ c.in-Ok.segment c.in_ok-push-in-Ok.ensures.items))

pub returns-then-not-is_separator : goal.returns-then-not-is_separator
returns-then-not-is_separator c =
    sym c.loop.invariant
    ∙ segments_end (length c.args.bytes.now) c.loop.counter (map segment_of c.loop.segments.items) (segment_of c.in-Ok.segment) c.loop.rest.now c.in-Ok.behind.now c.in-Some.later.now c.in-Some.byte.now c.loop-test.true c.in-Ok.ensures c.in-Some.ensures.cases.0 (sym c.if-not-is_separator.ensures)
    ∙ ap (λ segments. Ok (segments, c.in-Ok.behind.now)) (sym (segments_pushed c.loop.segments.items _ c.in-Ok.segment c.in_ok-push-in-Ok.ensures.items))

pub loop-preserved : goal.loop-preserved
loop-preserved c =
    ap (λ segments. with_front segments (segments_at (length c.args.bytes.now - (c.loop.counter + 1)) c.in-Some.later.now)) (segments_pushed c.loop.segments.items _ c.in-Ok.segment c.in_ok-push-in-Ok.ensures.items)
    ∙ sym (segments_more (length c.args.bytes.now) c.loop.counter (map segment_of c.loop.segments.items) (segment_of c.in-Ok.segment) c.loop.rest.now c.in-Ok.behind.now c.in-Some.later.now c.in-Some.byte.now c.loop-test.true c.in-Ok.ensures c.in-Some.ensures.cases.0 (sym c.if-not-is_separator.ensures))
    ∙ c.loop.invariant
