use Rattle.reqtable_compare.specs.Pairs.{ExtrasRise}
use Rattle.reqtable_compare.specs.Seen.{summary_record}
use Rattle.reqtable_compare.proofs.Steps.{all_at}
use Rattle.reqtable_compare.proofs.pairing.are_many.Goals as goal

pub has_partner-requires : goal.has_partner-requires
has_partner-requires c =
    all_at summary_record ExtrasRise c.args.left.now c.loop-one.one-index c.one-item.result c.loop-one-test.true
    c.one-item.is c.requires

pub fits_all-requires : goal.fits_all-requires
fits_all-requires c =
    all_at summary_record ExtrasRise c.args.left.now c.loop-one.one-index c.one-item.result c.loop-one-test.true
    c.one-item.is c.requires
