use Rattle.reqs_c_markers.proofs.Diagrams.{never_by_name}
use Rattle.reqs_c_markers.proofs.normal_texts.never_holds.Goals as goal

pub returns : goal.returns
returns c =
    never_by_name c.args.interner.now.nodes c.are_sound.ensures c.args.tree c.requires c.is_false.result
    c.is_false.ensures
