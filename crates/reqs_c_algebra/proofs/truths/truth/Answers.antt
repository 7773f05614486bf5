use Rattle.reqs_c_reply.proofs.Ends.{refused}
use Rattle.reqs_c_markers.specs.Markers.{RefusesTree}
use Rattle.reqs_c_algebra.specs.Relations.{SaysOf, IsTruthOf}
use Rattle.reqs_c_algebra.proofs.Saying.{says_of}
use Rattle.reqs_c_algebra.proofs.truths.truth.Goals as goal

pub truth_of-requires : goal.truth_of-requires
truth_of-requires c = c.in-Ok.ensures.tree.is_tree.made

pub returns-in-Ok : goal.returns-in-Ok
returns-in-Ok c =
    says_of c.args.nodes c.read_marker.new.interner.nodes c.args.bytes.now c.in-Ok.tree IsTruthOf _ _
    c.in-Ok.ensures.few c.in-Ok.ensures.tree c.truth_of.ensures c.said.ensures

pub returns : goal.returns
returns c =
    refused (SaysOf c.args.nodes c.args.bytes.now IsTruthOf) (RefusesTree 1 c.args.nodes c.args.bytes.now) _
    c.in-Err.ensures.none
