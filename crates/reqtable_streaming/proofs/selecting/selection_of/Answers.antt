use Rattle.std.proofs.Common.{◌≡◌, ◌∙◌, ◌++◌, ◌∷◌, [], List, map, length, sym, ap, subst, append-nil, append_assoc, arith, rules}
use Rattle.std.proofs.lemmas.List.{map-append, nil_from_length}
use Rattle.std.specs.List.{AllByRecursion, AllZip}
use Rattle.std.specs.Vec.Iter.{into_iter_items}
use Rattle.reqtable_answer.specs.Answer.{RowRecord}
use Rattle.reqtable_answer.specs.Rows.{row_seen, IsTakenBelow}
use Rattle.reqtable_answer.proofs.ByPackage.{all_rows}
use Rattle.reqtable_streaming.specs.declared.required.Package.{Package}
use Rattle.reqtable_streaming.specs.Packages.{IsSound, HasBest}
use Rattle.reqtable_streaming.proofs.Lists.{all_behind, all_first}
use Rattle.reqtable_streaming.proofs.Rows.{IsMade, made, one_more, grown, below_new, all_below, selection}
use Rattle.reqtable_streaming.proofs.selecting.selection_of.Goals as goal

pub loop-wanted-preserved : goal.loop-wanted-preserved
loop-wanted-preserved c =
    let done = c.loop-wanted.yielded in
    let wanted = c.in-Some.wanted in
    let old = c.loop-wanted.candidates.items in
    let new = c.row_of.new.candidates.items in
    let row = c.in_ok-row_of.field-0 in
    let rows = map row_seen c.loop-wanted.rows.items in
    let taken : into_iter_items c.loop-wanted.wanted-iterator ≡ wanted ∷ into_iter_items c.next.new.self = search rules in
    let split : (done ++ wanted ∷ []) ++ into_iter_items c.next.new.self ≡ c.args.packages.items =
    append_assoc done (wanted ∷ []) (into_iter_items c.next.new.self) ∙ ap (λ rest. done ++ rest) (sym taken) ∙ c.loop-wanted.invariant.split in
    let P : List Package → Type 0 = AllByRecursion IsSound in
    let sound : IsSound wanted =
    all_behind IsSound done wanted (into_iter_items c.next.new.self)
    (subst P (sym c.loop-wanted.invariant.split ∙ ap (λ rest. done ++ rest) taken) c.requires) in
    let kept = c.in_ok-row_of.ensures.outcome in
    let more = grown wanted.direct wanted.best old new row.outcome kept in
    let pushed : map row_seen c.push.new.self.items ≡ rows ++ row_seen row ∷ [] =
    ap (map row_seen) c.in_ok-push.ensures.items ∙ map-append row_seen c.loop-wanted.rows.items (row ∷ []) in
    record {
      split = split;
      counted = omega (arith, c.loop-wanted.invariant.counted, c.in-Some.ensures.steps.1, ap length taken);
      made = λ admits all read has.
          let Q : List RowRecord → Type 0 = AllZip (IsMade admits all read new) (done ++ wanted ∷ []) in
          subst Q (sym pushed)
          (one_more admits all read old new done rows wanted (row_seen row) more
          (c.loop-wanted.invariant.made admits all read (all_first (HasBest admits all read) done (wanted ∷ []) has))
          (made admits all read wanted (row_seen row) old new sound (all_behind (HasBest admits all read) done wanted [] has)
          c.in_ok-row_of.ensures.name c.in_ok-row_of.ensures.extras_rise c.in_ok-row_of.ensures.extras_are kept));
      places =
          let Q : List RowRecord → Type 0 = AllByRecursion (λ r. IsTakenBelow (length new) r.outcome) in
          subst Q (sym pushed) (all_below old new rows (row_seen row) more c.loop-wanted.invariant.places (below_new wanted.direct wanted.best old new row.outcome kept));
    }

pub returns-clause-selected : goal.returns-clause-selected
returns-clause-selected c = λ admits all read has.
    let done = c.loop-wanted.yielded in
    let left = into_iter_items c.loop-wanted.wanted-iterator in
    let none : left ≡ [] =
    nil_from_length left (omega (arith, c.loop-wanted.invariant.counted, c.in-None.ensures.steps.0)) in
    let whole : done ≡ c.args.packages.items = sym (append-nil done) ∙ ap (λ rest. done ++ rest) (sym none) ∙ c.loop-wanted.invariant.split in
    let P : List Package → Type 0 = AllByRecursion (HasBest admits all read) in
    let Q : List Package → Type 0 = λ l. AllZip (IsMade admits all read c.loop-wanted.candidates.items) l (map row_seen c.loop-wanted.rows.items) in
    selection admits all read c.loop-wanted.candidates.items c.args.packages.items (map row_seen c.loop-wanted.rows.items) has
    (subst Q whole (c.loop-wanted.invariant.made admits all read (subst P (sym whole) has.each)))

pub returns-clause-places : goal.returns-clause-places
returns-clause-places c =
    all_rows (λ row. IsTakenBelow (length c.loop-wanted.candidates.items) row.outcome) c.loop-wanted.rows.items c.loop-wanted.invariant.places
