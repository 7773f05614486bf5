use Rattle.std.proofs.Common.{◌∙◌, sym, ap}
use Rattle.reqtable_search.proofs.Places.{told_next, untold_next}
use Rattle.reqtable_search.proofs.undecided.untold_places.Goals as goal
use Rattle.reqtable_search.proofs.undecided.untold_places.Goals.{then-not-is_told+in_ok-push, else-not-is_told}

pub loop-index-preserved : goal.loop-index-preserved
loop-index-preserved c =
    let placed = c.args.placed.now in
    let i = c.loop-index.index in
    let item = c.index-placed-index.result in
    elim c.if-not-is_told.branch [
      | then-not-is_told+in_ok-push w ↦
          ap (λ places. places.items) w.places-is ∙ w.in_ok-push.ensures.items
          ∙ untold_next c.args.bounded placed i item c.loop-index.places.items c.loop-index-test.true c.index-placed-index.is
          (sym c.is_told.ensures ∙ w.if-not-is_told.true) c.loop-index.invariant
      | else-not-is_told w ↦
          ap (λ places. places.items) w.places-is
          ∙ told_next c.args.bounded placed i item c.loop-index.places.items c.loop-index-test.true c.index-placed-index.is
          (sym c.is_told.ensures ∙ w.if-not-is_told.false) c.loop-index.invariant
    ]
