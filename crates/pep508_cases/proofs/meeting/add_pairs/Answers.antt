use Rattle.pep508_cases.specs.Pairs.{is_listed, has_place}
use Rattle.pep508_cases.proofs.Listing.{row_more}
use Rattle.pep508_cases.proofs.meeting.add_pairs.Goals as goal

pub loop-one-preserved : goal.loop-one-preserved
loop-one-preserved c pair =
    row_more (is_listed c.args.found.now.keys pair) (is_listed c.loop-one.found.keys pair)
    (is_listed c.add_row.new.found.keys pair) (has_place c.args.others.now pair.1) c.args.places.now
    c.loop-one.one-index pair.0 c.loop-one-test.true (c.loop-one.invariant pair) (c.in_ok-add_row.ensures pair)
