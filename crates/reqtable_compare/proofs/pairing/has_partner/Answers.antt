use Rattle.std.proofs.Common.{map, take}
use Rattle.reqtable_compare.specs.Seen.{summary_record}
use Rattle.reqtable_compare.proofs.Apart.{passes_beside}
use Rattle.reqtable_compare.proofs.Steps.{split_at}
use Rattle.reqtable_compare.proofs.pairing.has_partner.Goals as goal

pub returns-then-place-right : goal.returns-then-place-right
returns-then-place-right c nodes apart is =
    let right = c.args.right.now in
    let place = c.in-Some.place.now in
    let other = c.index-right-place.result in
    let parts = split_at summary_record right place other c.if-place-right.true c.index-right-place.is in
    passes_beside c.args.relation nodes (summary_record c.args.one.now) (summary_record other) (map summary_record right)
    (map summary_record (take place right)) parts.0 parts.1 (c.in_ok-is-in-Some.ensures is) apart
