use Rattle.std.proofs.Common.{◌≡◌, ◌∙◌, ◌<◌, ◌≤◌, ◌+◌, ◌⊎◌, ℕ, false, List, map, get_or, length, sym, subst}
use Rattle.std.specs.List.{AllWithin, AllByRecursion}
use Rattle.std.specs.List.Sorted.{IsNonDecreasing}
use Rattle.version_ranges.specs.Boundaries.{point_of, turns_of}
use Rattle.version_ranges.specs.Held.{holds_at}
use Rattle.version_ranges.specs.Point.{At}
use Rattle.pep440_version.specs.Order.{version_cmp}
use Rattle.reqtable_candidates.specs.declared.ordered.Placed.{Placed}
use Rattle.reqtable_search.specs.InRun.{version_of, IsOneOf, StopsLate}
use Rattle.reqtable_search.specs.Told.{IsPassed, TurnsBetween}
use Rattle.reqtable_search.proofs.Passing.{passed_over, held_alike_none}
use Rattle.reqtable_search.proofs.Places.{places_rise, same_there}
use Rattle.reqtable_search.proofs.Stopping.{turns_between, stops_late}
use Rattle.reqtable_search.proofs.run.Run.next.Goals as goal

pub next_place-requires-clause-rising : goal.next_place-requires-clause-rising
next_place-requires-clause-rising c =
    subst IsNonDecreasing (sym c.untold_places.ensures) (places_rise c.args.bounded 0 c.args.self.now)

pub returns-clause-passed : goal.returns-clause-passed
returns-clause-passed c =
    let own = c.args.self.now in
    let placed = c.self.inside.placed.now in
    let at = c.args.at in
    let end = c.gap_end-end.result in
    let set = c.in-Some.set in
    let first = get_or placed at c.index-placed-at.result in
    let within = subst (λ (l : List Placed). at < length l) (sym c.self.view_is) c.requires in
    let held =
    held_alike_none placed at end (turns_of c.turns.result.0 c.turns.result.1.now) set first c.turns.ensures.turns within
    (same_there placed at c.index-placed-at.result first within) (c.gap_end-end.ensures.same c.turns.result.0)
    (sym c.contains.ensures ∙ c.if-contains.false) in
    let over =
    passed_over own at c.next_place.result end c.args.bounded set c.next_place.ensures.within
    (subst (λ (l : List Placed). end ≤ length l) c.self.view_is c.gap_end-end.ensures.within)
    (subst (λ l. AllWithin (λ x. holds_at version_cmp set (At (version_of x)) ≡ false) l at end) c.self.view_is held)
    (subst (AllByRecursion (λ place. at < place → c.next_place.result ≤ place)) c.untold_places.ensures c.next_place.ensures.next) in
    subst (λ range. AllWithin (λ x. IsPassed c.args.bounded range (version_of x)) own (at + 1) c.next_place.result)
    (sym c.in-Some.is) over

pub returns-clause-far : goal.returns-clause-far
returns-clause-far c =
    let own = c.args.self.now in
    let placed = c.self.inside.placed.now in
    let bounded = c.args.bounded in
    let at = c.args.at in
    let next = c.next_place.result in
    let end = c.gap_end-end.result in
    let set = c.in-Some.set in
    let starts = c.turns.result.0 in
    let boundaries = c.turns.result.1.now in
    let one =
    subst (λ (places : List ℕ). (next ≡ end) ⊎ IsOneOf places next) c.untold_places.ensures c.next_place.ensures.one in
    let between : (d : Placed) → end < length own →
    TurnsBetween set (version_of (get_or own end d)) (version_of (get_or own at d)) =
    λ d l.
    subst (λ turns. TurnsBetween turns (version_of (get_or own end d)) (version_of (get_or own at d))) c.turns.ensures.turns
    (turns_between starts boundaries (version_of (get_or own end d)) (version_of (get_or own at d))
    (subst (λ (xs : List Placed). end < length xs → TurnsBetween (map point_of boundaries) (version_of (get_or xs end d)) (version_of (get_or xs at d)))
    c.self.view_is (c.gap_end-end.ensures.far d) l)) in
    subst (λ range. StopsLate bounded range own at next) (sym c.in-Some.is)
    (λ d none l. stops_late bounded set own at next end d (between d) one l)
