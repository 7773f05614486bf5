use Rattle.std.proofs.Common.{map}
use Rattle.reqtable_compare.specs.Seen.{summary_record}
use Rattle.reqtable_compare.proofs.Listed.{trees_made}
use Rattle.reqtable_compare.proofs.pairing.listed_pairs.Goals as goal

pub meeting_pairs-requires-clause-left : goal.meeting_pairs-requires-clause-left
meeting_pairs-requires-clause-left c =
    trees_made c.args.interner.now.nodes (map summary_record c.args.left.now) c.deref.result.now
    c.in_ok-ours.ours.items c.deref.ensures.value c.in_ok-ours.ensures c.requires.left

pub meeting_pairs-requires-clause-right : goal.meeting_pairs-requires-clause-right
meeting_pairs-requires-clause-right c =
    trees_made c.args.interner.now.nodes (map summary_record c.args.right.now) c.deref-2.result.now
    c.in_ok-theirs.theirs.items c.deref-2.ensures.value c.in_ok-theirs.ensures c.requires.right
