use Rattle.std.proofs.Common.{◌≡◌, ◌∙◌, ◌-◌, true, false, length, get_or, sym, ap, arith}
use Rattle.version_ranges.specs.Boundaries.{point_of}
use Rattle.reqtable_search.specs.InRun.{version_of}
use Rattle.reqtable_search.proofs.Falling.{reached_by}
use Rattle.reqtable_search.proofs.Gaps.{gap_held}
use Rattle.reqtable_search.proofs.Places.{same_there}
use Rattle.reqtable_search.proofs.Stopping.{parted_there}
use Rattle.reqtable_search.proofs.gap.gap_end.Goals as goal

pub returns-in-None-clause-same : goal.returns-in-None-clause-same
returns-in-None-clause-same c =
    let placed = c.args.placed.now in
    let first = get_or placed c.args.at c.index-placed-at.result in
    gap_held placed c.args.at (length placed) c.reached-reached.result c.args.boundaries.now first
    c.requires.falls c.requires.rising c.requires.within (omega arith)
    (same_there placed c.args.at c.index-placed-at.result first c.requires.within) c.reached-reached.ensures.within
    c.reached-reached.ensures.point (λ d some. absurd (c.in-None.ensures some))

pub returns-in-Some-clause-same : goal.returns-in-Some-clause-same
returns-in-Some-clause-same c =
    let placed = c.args.placed.now in
    let first = get_or placed c.args.at c.index-placed-at.result in
    gap_held placed c.args.at c.reaching.result c.reached-reached.result c.args.boundaries.now first
    c.requires.falls c.requires.rising c.requires.within c.reaching.ensures.within
    (same_there placed c.args.at c.index-placed-at.result first c.requires.within) c.reached-reached.ensures.within
    c.reached-reached.ensures.point (λ d some k x l m.
    let boundaries = c.args.boundaries.now in
    let last = c.in-Some.last in
    let before = c.in-Some.ensures.1 in
    let few = c.reached-reached.ensures.within in
    let same : get_or boundaries (c.reached-reached.result - 1) d ≡ c.index-boundaries-last.result =
    ap (λ n. get_or boundaries n d) (sym before)
    ∙ same_there boundaries last d c.index-boundaries-last.result (omega arith) ∙ sym c.index-boundaries-last.is in
    ap (λ b. reached_by (point_of b) (version_of (get_or placed k x))) same
    ∙ c.reaching.ensures.point.0 k x (omega arith) m)

pub returns-in-Some-clause-far : goal.returns-in-Some-clause-far
returns-in-Some-clause-far c = λ d l.
    let placed = c.args.placed.now in
    let boundaries = c.args.boundaries.now in
    let last = c.in-Some.last in
    let b = c.index-boundaries-last.result in
    let first = c.index-placed-at.result in
    let high = version_of (get_or placed c.args.at d) in
    let low = version_of (get_or placed c.reaching.result d) in
    let before = c.in-Some.ensures.1 in
    let few = c.reached-reached.ensures.within in
    let is : get_or boundaries last b ≡ b = sym c.index-boundaries-last.is in
    let at_first : get_or placed c.args.at first ≡ get_or placed c.args.at d =
    same_there placed c.args.at first d c.requires.within in
    let reaches : reached_by (point_of (get_or boundaries last b)) high ≡ true =
    ap (λ x. reached_by (point_of (get_or boundaries last b)) (version_of x)) (sym at_first)
    ∙ c.reached-reached.ensures.point.0 last b (omega arith) (omega arith) in
    let stops : reached_by (point_of (get_or boundaries last b)) low ≡ false =
    ap (λ x. reached_by (point_of x) low) is
    ∙ c.reaching.ensures.point.1 c.reaching.result d (omega arith) l in
    parted_there boundaries low high last b (omega arith) reaches stops
