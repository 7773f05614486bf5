use Rattle.std.proofs.Common.{string_bytes}
use Rattle.reqs_messages.specs.Shown.{shown_char, shown_text}
use Rattle.reqs_messages.proofs.Told.{told_more, told_all}
use Rattle.reqs_messages.proofs.shown.shown_text.Goals as goal

pub loop-c-preserved : goal.loop-c-preserved
loop-c-preserved c =
    told_more shown_char c.args.text.now _ _ (string_bytes c.loop-c.shown) _ c.in-Some.c c.loop-c.invariant
    c.in-Some.ensures.steps.0 c.in_ok-push_shown.ensures

pub returns : goal.returns
unfolding shown_text
returns c =
    told_all shown_char c.args.text.now _ (string_bytes c.loop-c.shown) c.loop-c.invariant c.in-None.ensures.steps.0.0
