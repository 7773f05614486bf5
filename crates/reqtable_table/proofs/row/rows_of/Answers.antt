use Rattle.std.proofs.Common.{◌≡◌, ◌∙◌, ◌<◌, ◌+◌, ℕ, [], List, All, option_map, length, map, take, get_or}
use Rattle.std.proofs.Common.{sym, ap, subst, arith}
use Rattle.std.proofs.lemmas.List.{take_all, get_or-map, length-map}
use Rattle.reqtable_candidates.specs.Ordered.{placed_seen}
use Rattle.reqtable_candidates.specs.declared.candidates.Candidate.{Candidate}
use Rattle.reqtable_candidates.specs.declared.ordered.Placed.{Placed}
use Rattle.reqtable_answer.specs.Rows.{row_seen, IsTakenBelow}
use Rattle.reqtable_table.specs.Answers.{AreRowsFor}
use Rattle.reqtable_table.specs.Owns.{runs_of}
use Rattle.reqtable_marker_cache.proofs.Holding.{none_known}
use Rattle.reqtable_marker_cache.specs.Settings.{nodes_in, valuation_in}
use Rattle.reqtable_table.proofs.Rows.{kept_records, none_answered, lines_here, cases_here, within_runs}
use Rattle.reqtable_table.proofs.Rows.{said_here, below_here}
use Rattle.reqtable_table.proofs.Rows.{next_here, end_here, rows_here, seen_added, all_added}
use Rattle.reqtable_table.proofs.Same.{all_same}
use Rattle.reqtable_table.proofs.Told.{told_long, told_own, own_told}
use Rattle.reqtable_table.proofs.row.rows_of.Goals as goal

abbrev seen : List Placed → List (ℕ × Candidate)
seen = map placed_seen

own_of : (runs : List (List Placed)) (i : ℕ) (run : List Placed) → i < length (map seen runs) → run ≡ get_or runs i run →
    (other : List (ℕ × Candidate)) → seen run ≡ get_or (map seen runs) i other
own_of runs i run within is other =
    let long = length-map runs seen in
    ap seen is ∙ sym (get_or-map seen runs i run other (omega arith))

pub returns-in_err-known-clause-kept : goal.returns-in_err-known-clause-kept
returns-in_err-known-clause-kept g c = all_same (kept_records c.args.packages.now)

pub loop-index-init : goal.loop-index-init
loop-index-init g c =
    let nodes = nodes_in c.args.setting.now in
    let v = valuation_in c.args.setting.now in
    let candidates = c.args.ordered.now.candidates in
    let none = sym c.new-rows.ensures.items in
    record {
      so_far = none_answered nodes v candidates c.args.packages.now;
      told = c.requires.told;
      known = none_known nodes v c.in_ok-known.known c.in_ok-known.ensures;
      rows = λ admits by. subst (λ rows. AreRowsFor admits nodes v candidates [] (map row_seen rows)) none tt;
      places = subst (All (λ row. IsTakenBelow (length candidates) row.outcome)) none (λ k d within. absurd (omega arith));
    }

pub bounds-runs-index : goal.bounds-runs-index
bounds-runs-index g c =
    let nodes = nodes_in c.args.setting.now in
    let v = valuation_in c.args.setting.now in
    let all = runs_of c.args.ordered.now c.args.runs.now c.args.told.now in
    let old = c.args.packages.now in
    let now = c.loop-index.packages in
    let i = c.loop-index.index in
    let kept = get_or now i c.index-packages-index.result in
    let is = ap (get_or now i) c.index-packages-index.is in
    let within = subst (λ n. i < n) (sym c.loop-index.auto.packages) c.loop-index-test.true in
    let so = c.loop-index.invariant in
    let r = c.requires in
    let short = within_runs nodes v all r.ordered old r.lines r.cases r.runs now i kept so.so_far within is in
    let long = length-map c.args.runs.now seen in
    omega arith

pub bounds-told-index : goal.bounds-told-index
bounds-told-index g c =
    let nodes = nodes_in c.args.setting.now in
    let v = valuation_in c.args.setting.now in
    let all = runs_of c.args.ordered.now c.args.runs.now c.args.told.now in
    let old = c.args.packages.now in
    let now = c.loop-index.packages in
    let i = c.loop-index.index in
    let kept = get_or now i c.index-packages-index.result in
    let is = ap (get_or now i) c.index-packages-index.is in
    let within = subst (λ n. i < n) (sym c.loop-index.auto.packages) c.loop-index-test.true in
    let so = c.loop-index.invariant in
    let r = c.requires in
    let long = told_long _ now all.runs c.loop-index.told so.told in
    omega arith

pub row_of-requires-clause-lines : goal.row_of-requires-clause-lines
row_of-requires-clause-lines g c =
    let nodes = nodes_in c.args.setting.now in
    let v = valuation_in c.args.setting.now in
    let all = runs_of c.args.ordered.now c.args.runs.now c.args.told.now in
    let old = c.args.packages.now in
    let now = c.loop-index.packages in
    let i = c.loop-index.index in
    let kept = get_or now i c.index-packages-index.result in
    let is = ap (get_or now i) c.index-packages-index.is in
    let within = subst (λ n. i < n) (sym c.loop-index.auto.packages) c.loop-index-test.true in
    let so = c.loop-index.invariant in
    let r = c.requires in
    lines_here nodes v all r.ordered old r.lines r.cases r.runs now i kept so.so_far within is

pub row_of-requires-clause-cases : goal.row_of-requires-clause-cases
row_of-requires-clause-cases g c =
    let nodes = nodes_in c.args.setting.now in
    let v = valuation_in c.args.setting.now in
    let all = runs_of c.args.ordered.now c.args.runs.now c.args.told.now in
    let old = c.args.packages.now in
    let now = c.loop-index.packages in
    let i = c.loop-index.index in
    let kept = get_or now i c.index-packages-index.result in
    let is = ap (get_or now i) c.index-packages-index.is in
    let within = subst (λ n. i < n) (sym c.loop-index.auto.packages) c.loop-index-test.true in
    let so = c.loop-index.invariant in
    let r = c.requires in
    cases_here nodes v all r.ordered old r.lines r.cases r.runs now i kept so.so_far within is

pub row_of-requires-clause-said : goal.row_of-requires-clause-said
row_of-requires-clause-said g c =
    let nodes = nodes_in c.args.setting.now in
    let v = valuation_in c.args.setting.now in
    let all = runs_of c.args.ordered.now c.args.runs.now c.args.told.now in
    let old = c.args.packages.now in
    let now = c.loop-index.packages in
    let i = c.loop-index.index in
    let kept = get_or now i c.index-packages-index.result in
    let is = ap (get_or now i) c.index-packages-index.is in
    let within = subst (λ n. i < n) (sym c.loop-index.auto.packages) c.loop-index-test.true in
    let so = c.loop-index.invariant in
    let r = c.requires in
    let own = map placed_seen c.index-runs-index.result in
    let own_at = own_of c.args.runs.now i c.index-runs-index.result (within_runs nodes v all r.ordered old r.lines r.cases r.runs now i kept so.so_far within is) c.index-runs-index.is in
    said_here nodes v all r.ordered old r.lines r.cases r.runs now i kept so.so_far within is own own_at

pub row_of-requires-clause-told : goal.row_of-requires-clause-told
row_of-requires-clause-told g c =
    let nodes = nodes_in c.args.setting.now in
    let v = valuation_in c.args.setting.now in
    let all = runs_of c.args.ordered.now c.args.runs.now c.args.told.now in
    let old = c.args.packages.now in
    let now = c.loop-index.packages in
    let i = c.loop-index.index in
    let kept = get_or now i c.index-packages-index.result in
    let is = ap (get_or now i) c.index-packages-index.is in
    let within = subst (λ n. i < n) (sym c.loop-index.auto.packages) c.loop-index-test.true in
    let so = c.loop-index.invariant in
    let r = c.requires in
    let own = map placed_seen c.index-runs-index.result in
    let own_at = own_of c.args.runs.now i c.index-runs-index.result (within_runs nodes v all r.ordered old r.lines r.cases r.runs now i kept so.so_far within is) c.index-runs-index.is in
    told_own _ now all.runs c.loop-index.told i kept so.told within is own (own_at own) (get_or c.loop-index.told i c.index-told-index.result)
    (ap (get_or c.loop-index.told i) c.index-told-index.is)

pub returns-in_err-row-clause-kept : goal.returns-in_err-row-clause-kept
returns-in_err-row-clause-kept g c =
    let nodes = nodes_in c.args.setting.now in
    let v = valuation_in c.args.setting.now in
    let all = runs_of c.args.ordered.now c.args.runs.now c.args.told.now in
    let old = c.args.packages.now in
    let now = c.loop-index.packages in
    let i = c.loop-index.index in
    let kept = get_or now i c.index-packages-index.result in
    let is = ap (get_or now i) c.index-packages-index.is in
    let within = subst (λ n. i < n) (sym c.loop-index.auto.packages) c.loop-index-test.true in
    let so = c.loop-index.invariant in
    let r = c.requires in
    let own = map placed_seen c.index-runs-index.result in
    let own_at = own_of c.args.runs.now i c.index-runs-index.result (within_runs nodes v all r.ordered old r.lines r.cases r.runs now i kept so.so_far within is) c.index-runs-index.is in
    (end_here nodes v all r.ordered old r.lines r.cases r.runs now i kept so.so_far within is own own_at c.row_of.new.kept c.row_of.ensures.same c.row_of.ensures.tests).0

pub returns-in_err-row-clause-told : goal.returns-in_err-row-clause-told
returns-in_err-row-clause-told g c =
    let nodes = nodes_in c.args.setting.now in
    let v = valuation_in c.args.setting.now in
    let all = runs_of c.args.ordered.now c.args.runs.now c.args.told.now in
    let old = c.args.packages.now in
    let now = c.loop-index.packages in
    let i = c.loop-index.index in
    let kept = get_or now i c.index-packages-index.result in
    let is = ap (get_or now i) c.index-packages-index.is in
    let within = subst (λ n. i < n) (sym c.loop-index.auto.packages) c.loop-index-test.true in
    let so = c.loop-index.invariant in
    let r = c.requires in
    let own = map placed_seen c.index-runs-index.result in
    let own_at = own_of c.args.runs.now i c.index-runs-index.result (within_runs nodes v all r.ordered old r.lines r.cases r.runs now i kept so.so_far within is) c.index-runs-index.is in
    own_told _ now all.runs c.loop-index.told i kept so.told within is own (own_at own) c.row_of.new.kept c.row_of.new.told c.row_of.ensures.same c.row_of.ensures.told

pub returns-in_err-row-clause-tests : goal.returns-in_err-row-clause-tests
returns-in_err-row-clause-tests g c =
    let nodes = nodes_in c.args.setting.now in
    let v = valuation_in c.args.setting.now in
    let all = runs_of c.args.ordered.now c.args.runs.now c.args.told.now in
    let old = c.args.packages.now in
    let now = c.loop-index.packages in
    let i = c.loop-index.index in
    let kept = get_or now i c.index-packages-index.result in
    let is = ap (get_or now i) c.index-packages-index.is in
    let within = subst (λ n. i < n) (sym c.loop-index.auto.packages) c.loop-index-test.true in
    let so = c.loop-index.invariant in
    let r = c.requires in
    let own = map placed_seen c.index-runs-index.result in
    let own_at = own_of c.args.runs.now i c.index-runs-index.result (within_runs nodes v all r.ordered old r.lines r.cases r.runs now i kept so.so_far within is) c.index-runs-index.is in
    (end_here nodes v all r.ordered old r.lines r.cases r.runs now i kept so.so_far within is own own_at c.row_of.new.kept c.row_of.ensures.same c.row_of.ensures.tests).1

pub returns-in_err-add_row-clause-kept : goal.returns-in_err-add_row-clause-kept
returns-in_err-add_row-clause-kept g c =
    let nodes = nodes_in c.args.setting.now in
    let v = valuation_in c.args.setting.now in
    let all = runs_of c.args.ordered.now c.args.runs.now c.args.told.now in
    let old = c.args.packages.now in
    let now = c.loop-index.packages in
    let i = c.loop-index.index in
    let kept = get_or now i c.index-packages-index.result in
    let is = ap (get_or now i) c.index-packages-index.is in
    let within = subst (λ n. i < n) (sym c.loop-index.auto.packages) c.loop-index-test.true in
    let so = c.loop-index.invariant in
    let r = c.requires in
    let own = map placed_seen c.index-runs-index.result in
    let own_at = own_of c.args.runs.now i c.index-runs-index.result (within_runs nodes v all r.ordered old r.lines r.cases r.runs now i kept so.so_far within is) c.index-runs-index.is in
    (end_here nodes v all r.ordered old r.lines r.cases r.runs now i kept so.so_far within is own own_at c.row_of.new.kept c.row_of.ensures.same c.row_of.ensures.tests).0

pub returns-in_err-add_row-clause-told : goal.returns-in_err-add_row-clause-told
returns-in_err-add_row-clause-told g c =
    let nodes = nodes_in c.args.setting.now in
    let v = valuation_in c.args.setting.now in
    let all = runs_of c.args.ordered.now c.args.runs.now c.args.told.now in
    let old = c.args.packages.now in
    let now = c.loop-index.packages in
    let i = c.loop-index.index in
    let kept = get_or now i c.index-packages-index.result in
    let is = ap (get_or now i) c.index-packages-index.is in
    let within = subst (λ n. i < n) (sym c.loop-index.auto.packages) c.loop-index-test.true in
    let so = c.loop-index.invariant in
    let r = c.requires in
    let own = map placed_seen c.index-runs-index.result in
    let own_at = own_of c.args.runs.now i c.index-runs-index.result (within_runs nodes v all r.ordered old r.lines r.cases r.runs now i kept so.so_far within is) c.index-runs-index.is in
    own_told _ now all.runs c.loop-index.told i kept so.told within is own (own_at own) c.row_of.new.kept c.row_of.new.told c.row_of.ensures.same c.row_of.ensures.told

pub returns-in_err-add_row-clause-tests : goal.returns-in_err-add_row-clause-tests
returns-in_err-add_row-clause-tests g c =
    let nodes = nodes_in c.args.setting.now in
    let v = valuation_in c.args.setting.now in
    let all = runs_of c.args.ordered.now c.args.runs.now c.args.told.now in
    let old = c.args.packages.now in
    let now = c.loop-index.packages in
    let i = c.loop-index.index in
    let kept = get_or now i c.index-packages-index.result in
    let is = ap (get_or now i) c.index-packages-index.is in
    let within = subst (λ n. i < n) (sym c.loop-index.auto.packages) c.loop-index-test.true in
    let so = c.loop-index.invariant in
    let r = c.requires in
    let own = map placed_seen c.index-runs-index.result in
    let own_at = own_of c.args.runs.now i c.index-runs-index.result (within_runs nodes v all r.ordered old r.lines r.cases r.runs now i kept so.so_far within is) c.index-runs-index.is in
    (end_here nodes v all r.ordered old r.lines r.cases r.runs now i kept so.so_far within is own own_at c.row_of.new.kept c.row_of.ensures.same c.row_of.ensures.tests).1

pub loop-index-preserved : goal.loop-index-preserved
loop-index-preserved g c =
    let nodes = nodes_in c.args.setting.now in
    let v = valuation_in c.args.setting.now in
    let all = runs_of c.args.ordered.now c.args.runs.now c.args.told.now in
    let old = c.args.packages.now in
    let now = c.loop-index.packages in
    let i = c.loop-index.index in
    let kept = get_or now i c.index-packages-index.result in
    let is = ap (get_or now i) c.index-packages-index.is in
    let within = subst (λ n. i < n) (sym c.loop-index.auto.packages) c.loop-index-test.true in
    let so = c.loop-index.invariant in
    let r = c.requires in
    let own = map placed_seen c.index-runs-index.result in
    let own_at = own_of c.args.runs.now i c.index-runs-index.result (within_runs nodes v all r.ordered old r.lines r.cases r.runs now i kept so.so_far within is) c.index-runs-index.is in
    let rows = c.loop-index.rows.items in
    let row = c.in_ok-row.row in
    let below = below_here nodes v all r.ordered old r.lines r.cases r.runs now i kept so.so_far within is own own_at in
    record {
      so_far = next_here nodes v all r.ordered old r.lines r.cases r.runs now i kept so.so_far within is own own_at c.row_of.new.kept c.row_of.ensures.same c.row_of.ensures.tests;
      told = own_told _ now all.runs c.loop-index.told i kept so.told within is own (own_at own) c.row_of.new.kept c.row_of.new.told c.row_of.ensures.same c.row_of.ensures.told;
      known = c.row_of.ensures.known;
      rows = λ admits by.
          subst (AreRowsFor admits nodes v all.candidates (kept_records (take (i + 1) old)))
          (sym (ap (map row_seen) c.in_ok-add_row.ensures ∙ seen_added rows row))
          (rows_here nodes v all r.ordered old r.lines r.cases r.runs now i kept so.so_far within is own own_at admits
          (map row_seen rows) (so.rows admits by) (option_map row_seen row) (c.in_ok-row.ensures.row admits by));
      places =
          subst (All (λ row. IsTakenBelow (length all.candidates) row.outcome)) (sym c.in_ok-add_row.ensures)
          (all_added (λ row. IsTakenBelow (length all.candidates) row.outcome) rows row so.places
          (c.in_ok-row.ensures.below (length all.candidates) below));
    }

pub returns-clause-rows : goal.returns-clause-rows
returns-clause-rows g c = λ admits by.
    subst (λ l. AreRowsFor admits (nodes_in c.args.setting.now) (valuation_in c.args.setting.now) c.args.ordered.now.candidates
    (kept_records l) (map row_seen c.loop-index.rows.items)) (take_all c.loop-index.index c.args.packages.now c.loop-index-test.false)
    (c.loop-index.invariant.rows admits by)
