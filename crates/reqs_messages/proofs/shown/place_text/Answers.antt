use Rattle.std.proofs.Common.{append_assoc}
use Rattle.reqs_messages.proofs.Refused.{as_wanted}
use Rattle.reqs_messages.proofs.shown.place_text.Goals as goal

pub returns : goal.returns
returns c =
    as_wanted _ _ _ c.format.ensures.ok (rw (c.start-start.ensures.start, c.len-len.ensures) (simp append_assoc))
