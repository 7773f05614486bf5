use Rattle.reqtable_normal.proofs.Pushing.{told}
use Rattle.reqtable_normal.proofs.lines.never_holds.Goals as goal

pub returns : goal.returns
returns c =
    told c.args.interner.now.nodes c.args.marker c.is_false.result c.are_sound.ensures c.requires
    c.is_false.ensures
