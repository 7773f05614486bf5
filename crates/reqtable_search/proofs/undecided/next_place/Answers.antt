use Rattle.std.proofs.Common.{get_or, arith}
use Rattle.reqtable_search.proofs.Places.{none_next, some_next}
use Rattle.reqtable_search.proofs.undecided.next_place.Goals as goal

pub returns-then-past-places-clause-next : goal.returns-then-past-places-clause-next
returns-then-past-places-clause-next c =
    none_next c.args.places.now c.args.at c.places_upto-past.result c.args.end c.requires.rising
    c.places_upto-past.ensures.point c.if-past-places.true

pub returns-then-place-end-clause-behind : goal.returns-then-place-end-clause-behind
returns-then-place-end-clause-behind c =
    let past = c.places_upto-past.result in
    let whole = c.if-past-places.false in
    c.places_upto-past.ensures.point.1 past 0 (omega arith) (omega (arith, c.places_upto-past.ensures.within))

pub returns-then-place-end-clause-next : goal.returns-then-place-end-clause-next
returns-then-place-end-clause-next c =
    let past = c.places_upto-past.result in
    some_next c.args.places.now c.args.at past (get_or c.args.places.now past 0) c.requires.rising
    c.places_upto-past.ensures.point c.places_upto-past.ensures.within (omega arith)

pub returns-else-place-end-clause-next : goal.returns-else-place-end-clause-next
returns-else-place-end-clause-next c =
    some_next c.args.places.now c.args.at c.places_upto-past.result c.args.end c.requires.rising
    c.places_upto-past.ensures.point c.places_upto-past.ensures.within c.if-place-end.false
