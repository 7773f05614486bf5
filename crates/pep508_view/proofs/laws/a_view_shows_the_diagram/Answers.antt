use Rattle.pep508_view.proofs.Shown.{diagram_shown}
use Rattle.pep508_view.proofs.laws.a_view_shows_the_diagram.Goals as goal

pub returns : goal.returns
returns c = diagram_shown c.args.interner.now.nodes c.are_sound.ensures c.args.tree c.requires
