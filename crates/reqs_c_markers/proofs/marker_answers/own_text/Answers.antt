use Rattle.pep508_tree.specs.Meaning.{diagram_of}
use Rattle.reqs_c_markers.specs.Markers.{HoldsAlike}
use Rattle.reqs_c_markers.proofs.NormalTexts.{gives_text, no_tree}
use Rattle.reqs_c_markers.proofs.marker_answers.own_text.Goals as goal

pub normal_text-requires : goal.normal_text-requires
normal_text-requires c = c.in-Ok.ensures.tree.is_tree.made

pub returns-in-Ok : goal.returns-in-Ok
returns-in-Ok c =
    let read = c.in-Ok.ensures.tree in
    let nodes = c.read_marker.new.interner.nodes in
    gives_text c.args.bounds c.args.bytes.now HoldsAlike read.marker (diagram_of nodes c.in-Ok.tree) _
    read.is_marker (record { nodes = nodes; tree = c.in-Ok.tree; are_few = c.in-Ok.ensures.few; is_tree = read })
    c.normal_text.ensures.normal read.is_tree.truth c.normal_text.ensures.ends

pub returns : goal.returns
returns c = no_tree c.args.bounds c.args.bytes.now HoldsAlike _ c.in-Err.ensures.none
