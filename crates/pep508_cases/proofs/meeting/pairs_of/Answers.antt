use Rattle.std.proofs.Common.{◌∙◌, ap, arith, get_or, length}
use Rattle.pep508_cases.specs.Sets.{places_of}
use Rattle.pep508_cases.specs.Marked.{set_at}
use Rattle.pep508_cases.specs.Pairs.{is_listed}
use Rattle.pep508_cases.proofs.Marking.{short_at}
use Rattle.pep508_cases.proofs.Listing.{leaf_more}
use Rattle.pep508_cases.proofs.meeting.pairs_of.Goals as goal

pub places_at-requires : goal.places_at-requires
places_at-requires c =
    let place = (get_or c.args.leaves.now c.loop-both.both-index (0, 0)).0 in
    let same = ap (λ sets. length (set_at sets place)) c.deref.ensures.value in
    let short = short_at c.args.first.now.count c.args.first.now.sets.items c.requires.first place in
    omega (arith, same, short, c.requires.count)

pub places_at-requires-in-loop-both : goal.places_at-requires-in-loop-both
places_at-requires-in-loop-both c =
    let place = (get_or c.args.leaves.now c.loop-both.both-index (0, 0)).1 in
    let same = ap (λ sets. length (set_at sets place)) c.deref-in-loop-both.ensures.value in
    let short = short_at c.args.second.now.count c.args.second.now.sets.items c.requires.second place in
    omega (arith, same, short, c.requires.other_count)

pub loop-both-preserved : goal.loop-both-preserved
loop-both-preserved c pair =
    let leaves = get_or c.args.leaves.now c.loop-both.both-index (0, 0) in
    leaf_more c.args.first.now.sets.items c.args.second.now.sets.items c.args.leaves.now c.loop-both.both-index pair
    (is_listed c.loop-both.found.keys pair) (is_listed c.add_pairs.new.found.keys pair)
    c.deref-in-loop-both-2.result.now c.deref-in-loop-both-3.result.now c.loop-both-test.true
    (c.deref-in-loop-both-2.ensures.value ∙ c.in_ok-places.ensures
    ∙ ap (λ sets. places_of (set_at sets leaves.0)) c.deref.ensures.value)
    (c.deref-in-loop-both-3.ensures.value ∙ c.in_ok-others.ensures
    ∙ ap (λ sets. places_of (set_at sets leaves.1)) c.deref-in-loop-both.ensures.value)
    (c.loop-both.invariant pair) (c.in_ok-add_pairs.ensures pair)
