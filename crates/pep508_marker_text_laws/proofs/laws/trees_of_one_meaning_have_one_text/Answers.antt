use Rattle.std.proofs.Common.{ap}
use Rattle.pep508_tree.specs.Meaning.{diagram_of}
use Rattle.pep508_tree.proofs.OneTree.{canonical_trees}
use Rattle.pep508_tree.proofs.Shortened.{short_trees}
use Rattle.pep508_marker_text_laws.specs.MarkerText.{marker_text}
use Rattle.pep508_marker_text_laws.proofs.Spelled.{one_spelling}
use Rattle.pep508_marker_text_laws.proofs.laws.trees_of_one_meaning_have_one_text.Goals as goal

pub returns : goal.returns
returns c a b made other_made agree =
    let nodes = c.args.interner.now.nodes in
    let others = c.args.other.now.nodes in
    ap marker_text
    (one_spelling (diagram_of nodes a) (diagram_of others b)
    (canonical_trees nodes c.are_sound.ensures a made) (canonical_trees others c.are_sound-2.ensures b other_made)
    (short_trees nodes c.are_sound.ensures a made) (short_trees others c.are_sound-2.ensures b other_made) agree)
