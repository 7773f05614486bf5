use Rattle.std.proofs.Common.{map}
use Rattle.reqtable_compare.specs.Seen.{summary_record}
use Rattle.reqtable_compare.proofs.LikeCases.{fits_as}
use Rattle.reqtable_compare.proofs.pairing.standing_of.Goals as goal

pub returns-then-is_like : goal.returns-then-is_like
returns-then-is_like c =
    fits_as (λ other. summary_record other.now) c.args.relation (map summary_record c.args.right.now)
    (summary_record c.args.one.now) c.args.fitting (c.is_like.ensures c.if-is_like.true) c.requires.fitting
