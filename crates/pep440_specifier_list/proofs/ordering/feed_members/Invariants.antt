use Rattle.std.proofs.Common.{◌≡◌, take, fold}
use Rattle.std.specs.List.{flat_map}
use Rattle.pep440_specifier_list.specs.ListHash.{fed_member}
use Rattle.pep440_specifier_list.proofs.ordering.feed_members.Given as goal

abbrev pub invariant-loop-member : goal.invariant-loop-member
invariant-loop-member g l = l.state ≡ fold g.H.Hasher.write l.fn.state (flat_map fed_member (take l.member-index l.members))
