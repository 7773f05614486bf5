use Rattle.pep508_cases.proofs.Listing.{pair_more}
use Rattle.pep508_cases.proofs.meeting.add_row.Goals as goal

pub loop-other-preserved : goal.loop-other-preserved
loop-other-preserved c =
    pair_more c.loop-other.found c.insert.new.self c.args.found.now.keys c.args.one c.args.others.now
    c.loop-other.other-index c.loop-other-test.true c.in_ok-insert.ensures.updates c.loop-other.invariant
