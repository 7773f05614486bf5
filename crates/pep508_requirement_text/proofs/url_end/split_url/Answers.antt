use Rattle.pep508_requirement_text.proofs.UrlLoops.{begins, ends_later, goes_later}
use Rattle.pep508_requirement_text.proofs.url_end.split_url.Goals as goal

pub loop-behind-init : goal.loop-behind-init
loop-behind-init c = begins c.args.brackets c.args.text.now c.utf8.text

pub split_to-requires : goal.split_to-requires
split_to-requires c =
    ends_later c.args.brackets c.args.text.now c.loop-behind.rest.now c.in-Ends.behind.now c.loop-behind.depth
    c.loop-behind.invariant c.in-Ends.ensures

pub loop-behind-preserved : goal.loop-behind-preserved
loop-behind-preserved c =
    goes_later c.args.brackets c.args.text.now c.loop-behind.rest.now c.in-GoesOn.behind.now c.loop-behind.depth
    c.in-GoesOn.later c.loop-behind.invariant c.in-GoesOn.ensures.0
