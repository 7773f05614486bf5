use Rattle.reqs_c_algebra.proofs.KeyTexts.{key_given}
use Rattle.reqs_c_algebra.proofs.keys.key.Goals as goal

pub returns-in-Ok-key_of : goal.returns-in-Ok-key_of
returns-in-Ok-key_of c =
    key_given c.args.nodes c.read_marker.new.interner.nodes c.args.bytes.now c.in-Ok.tree _ c.in-Ok.ensures.few
    c.in-Ok.ensures.tree c.in-Ok-key_of.ensures
