use Rattle.std.proofs.Common.{◌≡◌, ◌∙◌, ◌≤◌, ◌<◌, ◌+◌, ℕ, List, [], Option, option_map, length, map, set}
use Rattle.std.proofs.Common.{get_or, sym, ap, subst, arith}
use Rattle.std.proofs.lemmas.List.{get_or-map, length-map}
use Rattle.std.proofs.lemmas.Result.{IfOk-weaker}
use Rattle.reqtable_candidates.specs.Ordered.{placed_seen}
use Rattle.reqtable_candidates.specs.declared.candidates.Candidate.{Candidate}
use Rattle.reqtable_candidates.specs.declared.ordered.Placed.{Placed}
use Rattle.reqtable_answer.specs.declared.answer.Outcome.{Outcome}
use Rattle.reqtable_answer.specs.Rows.{row_seen}
use Rattle.reqtable_table.specs.Answers.{most_tests_in, IsRowIf}
use Rattle.reqtable_table.specs.Counts.{all_tests}
use Rattle.reqtable_table.specs.KeptLines.{package_record}
use Rattle.reqtable_table.specs.Owns.{runs_of}
use Rattle.reqtable_table.specs.Runs.{IsToldIn}
use Rattle.reqtable_table.specs.declared.runs.Told.{Told}
use Rattle.reqtable_marker_cache.proofs.Holding.{nothing_known}
use Rattle.reqtable_marker_cache.specs.Settings.{nodes_in, valuation_in}
use Rattle.reqtable_table.proofs.Rows.{kept_records, none_before, lines_here, cases_here, within_runs}
use Rattle.reqtable_table.proofs.Rows.{said_here, below_here, row_here, more_here, end_here, no_more_set}
use Rattle.reqtable_table.proofs.Told.{told_long, told_own, own_told}
use Rattle.reqtable_table.proofs.row.row_at.Goals as goal

abbrev seen : List Placed → List (ℕ × Candidate)
seen = map placed_seen

own_of : (runs : List (List Placed)) (i : ℕ) (run : List Placed) → i < length (map seen runs) → run ≡ get_or runs i run →
    (other : List (ℕ × Candidate)) → seen run ≡ get_or (map seen runs) i other
own_of runs i run within is other =
    let long = length-map runs seen in
    ap seen is ∙ sym (get_or-map seen runs i run other (omega arith))

pub bounds-runs-index : goal.bounds-runs-index
bounds-runs-index g c =
    let nodes = nodes_in c.args.setting.now in
    let v = valuation_in c.args.setting.now in
    let all = runs_of c.args.ordered.now c.args.runs.now c.args.told.now in
    let old = c.args.packages.now in
    let i = c.args.index in
    let kept = get_or old i c.index-packages-index.result in
    let is = ap (get_or old i) c.index-packages-index.is in
    let r = c.requires in
    let so = none_before nodes v all.candidates old i in
    let short = within_runs nodes v all r.ordered old r.lines r.cases r.runs old i kept so r.within is in
    let long = length-map c.args.runs.now seen in
    omega arith

pub bounds-told-index : goal.bounds-told-index
bounds-told-index g c =
    let nodes = nodes_in c.args.setting.now in
    let v = valuation_in c.args.setting.now in
    let all = runs_of c.args.ordered.now c.args.runs.now c.args.told.now in
    let old = c.args.packages.now in
    let i = c.args.index in
    let kept = get_or old i c.index-packages-index.result in
    let is = ap (get_or old i) c.index-packages-index.is in
    let r = c.requires in
    let so = none_before nodes v all.candidates old i in
    let long = told_long _ old all.runs c.args.told.now r.told in
    omega (arith, r.within, long)

pub row_of-requires-clause-lines : goal.row_of-requires-clause-lines
row_of-requires-clause-lines g c =
    let nodes = nodes_in c.args.setting.now in
    let v = valuation_in c.args.setting.now in
    let all = runs_of c.args.ordered.now c.args.runs.now c.args.told.now in
    let old = c.args.packages.now in
    let i = c.args.index in
    let kept = get_or old i c.index-packages-index.result in
    let is = ap (get_or old i) c.index-packages-index.is in
    let r = c.requires in
    let so = none_before nodes v all.candidates old i in
    lines_here nodes v all r.ordered old r.lines r.cases r.runs old i kept so r.within is

pub row_of-requires-clause-cases : goal.row_of-requires-clause-cases
row_of-requires-clause-cases g c =
    let nodes = nodes_in c.args.setting.now in
    let v = valuation_in c.args.setting.now in
    let all = runs_of c.args.ordered.now c.args.runs.now c.args.told.now in
    let old = c.args.packages.now in
    let i = c.args.index in
    let kept = get_or old i c.index-packages-index.result in
    let is = ap (get_or old i) c.index-packages-index.is in
    let r = c.requires in
    let so = none_before nodes v all.candidates old i in
    cases_here nodes v all r.ordered old r.lines r.cases r.runs old i kept so r.within is

pub row_of-requires-clause-known : goal.row_of-requires-clause-known
row_of-requires-clause-known g c =
    nothing_known (nodes_in c.args.setting.now) (valuation_in c.args.setting.now) c.nothing.result c.nothing.ensures

pub row_of-requires-clause-said : goal.row_of-requires-clause-said
row_of-requires-clause-said g c =
    let nodes = nodes_in c.args.setting.now in
    let v = valuation_in c.args.setting.now in
    let all = runs_of c.args.ordered.now c.args.runs.now c.args.told.now in
    let old = c.args.packages.now in
    let i = c.args.index in
    let kept = get_or old i c.index-packages-index.result in
    let is = ap (get_or old i) c.index-packages-index.is in
    let r = c.requires in
    let so = none_before nodes v all.candidates old i in
    let own = map placed_seen c.index-runs-index.result in
    let own_at = own_of c.args.runs.now i c.index-runs-index.result (within_runs nodes v all r.ordered old r.lines r.cases r.runs old i kept so r.within is) c.index-runs-index.is in
    said_here nodes v all r.ordered old r.lines r.cases r.runs old i kept so r.within is own own_at

pub row_of-requires-clause-told : goal.row_of-requires-clause-told
row_of-requires-clause-told g c =
    let nodes = nodes_in c.args.setting.now in
    let v = valuation_in c.args.setting.now in
    let all = runs_of c.args.ordered.now c.args.runs.now c.args.told.now in
    let old = c.args.packages.now in
    let i = c.args.index in
    let kept = get_or old i c.index-packages-index.result in
    let is = ap (get_or old i) c.index-packages-index.is in
    let r = c.requires in
    let so = none_before nodes v all.candidates old i in
    let own = map placed_seen c.index-runs-index.result in
    let own_at = own_of c.args.runs.now i c.index-runs-index.result (within_runs nodes v all r.ordered old r.lines r.cases r.runs old i kept so r.within is) c.index-runs-index.is in
    told_own _ old all.runs c.args.told.now i kept r.told r.within is own (own_at own) (get_or c.args.told.now i c.index-told-index.result)
    (ap (get_or c.args.told.now i) c.index-told-index.is)

pub returns-clause-row : goal.returns-clause-row
returns-clause-row g c =
    let nodes = nodes_in c.args.setting.now in
    let v = valuation_in c.args.setting.now in
    let all = runs_of c.args.ordered.now c.args.runs.now c.args.told.now in
    let old = c.args.packages.now in
    let i = c.args.index in
    let kept = get_or old i c.index-packages-index.result in
    let is = ap (get_or old i) c.index-packages-index.is in
    let r = c.requires in
    let so = none_before nodes v all.candidates old i in
    let own = map placed_seen c.index-runs-index.result in
    let own_at = own_of c.args.runs.now i c.index-runs-index.result (within_runs nodes v all r.ordered old r.lines r.cases r.runs old i kept so r.within is) c.index-runs-index.is in
    IfOk-weaker c.row_of.result _ _
    (λ row h admits other by.
    subst (λ k. IsRowIf admits nodes v all.candidates k (option_map row_seen row))
    (sym (get_or-map package_record old i c.index-packages-index.result other r.within))
    (row_here nodes v all r.ordered old r.lines r.cases r.runs old i kept so r.within is own own_at admits (option_map row_seen row) (h admits by)))
    c.row_of.ensures.row

pub returns-clause-below : goal.returns-clause-below
returns-clause-below g c =
    let nodes = nodes_in c.args.setting.now in
    let v = valuation_in c.args.setting.now in
    let all = runs_of c.args.ordered.now c.args.runs.now c.args.told.now in
    let old = c.args.packages.now in
    let i = c.args.index in
    let kept = get_or old i c.index-packages-index.result in
    let is = ap (get_or old i) c.index-packages-index.is in
    let r = c.requires in
    let so = none_before nodes v all.candidates old i in
    let own = map placed_seen c.index-runs-index.result in
    let own_at = own_of c.args.runs.now i c.index-runs-index.result (within_runs nodes v all r.ordered old r.lines r.cases r.runs old i kept so r.within is) c.index-runs-index.is in
    IfOk-weaker c.row_of.result _ _
    (λ row h. h (length all.candidates) (below_here nodes v all r.ordered old r.lines r.cases r.runs old i kept so r.within is own own_at))
    c.row_of.ensures.below

pub returns-clause-kept : goal.returns-clause-kept
returns-clause-kept g c =
    let nodes = nodes_in c.args.setting.now in
    let v = valuation_in c.args.setting.now in
    let all = runs_of c.args.ordered.now c.args.runs.now c.args.told.now in
    let old = c.args.packages.now in
    let i = c.args.index in
    let kept = get_or old i c.index-packages-index.result in
    let is = ap (get_or old i) c.index-packages-index.is in
    let r = c.requires in
    let so = none_before nodes v all.candidates old i in
    let own = map placed_seen c.index-runs-index.result in
    let own_at = own_of c.args.runs.now i c.index-runs-index.result (within_runs nodes v all r.ordered old r.lines r.cases r.runs old i kept so r.within is) c.index-runs-index.is in
    (end_here nodes v all r.ordered old r.lines r.cases r.runs old i kept so r.within is own own_at c.row_of.new.kept c.row_of.ensures.same c.row_of.ensures.tests).0

pub returns-clause-told : goal.returns-clause-told
returns-clause-told g c =
    let nodes = nodes_in c.args.setting.now in
    let v = valuation_in c.args.setting.now in
    let all = runs_of c.args.ordered.now c.args.runs.now c.args.told.now in
    let old = c.args.packages.now in
    let i = c.args.index in
    let kept = get_or old i c.index-packages-index.result in
    let is = ap (get_or old i) c.index-packages-index.is in
    let r = c.requires in
    let so = none_before nodes v all.candidates old i in
    let own = map placed_seen c.index-runs-index.result in
    let own_at = own_of c.args.runs.now i c.index-runs-index.result (within_runs nodes v all r.ordered old r.lines r.cases r.runs old i kept so r.within is) c.index-runs-index.is in
    own_told _ old all.runs c.args.told.now i kept r.told r.within is own (own_at own) c.row_of.new.kept c.row_of.new.told c.row_of.ensures.same c.row_of.ensures.told

pub returns-clause-tests : goal.returns-clause-tests
returns-clause-tests g c = λ other.
    let nodes = nodes_in c.args.setting.now in
    let v = valuation_in c.args.setting.now in
    let all = runs_of c.args.ordered.now c.args.runs.now c.args.told.now in
    let old = c.args.packages.now in
    let i = c.args.index in
    let kept = get_or old i c.index-packages-index.result in
    let is = ap (get_or old i) c.index-packages-index.is in
    let r = c.requires in
    let so = none_before nodes v all.candidates old i in
    let own = map placed_seen c.index-runs-index.result in
    let own_at = own_of c.args.runs.now i c.index-runs-index.result (within_runs nodes v all r.ordered old r.lines r.cases r.runs old i kept so r.within is) c.index-runs-index.is in
    subst (λ k. all_tests (kept_records (set old i c.row_of.new.kept)) ≤ all_tests (kept_records old) + most_tests_in nodes v all.candidates k)
    (sym (get_or-map package_record old i c.index-packages-index.result other r.within))
    (more_here nodes v all r.ordered old r.lines r.cases r.runs old i kept so r.within is own own_at c.row_of.new.kept c.row_of.ensures.same c.row_of.ensures.tests)

abbrev outcomes : Told → List (Option Outcome)
outcomes told = told.outcomes.items

pub returns-clause-once : goal.returns-clause-once
returns-clause-once g c = λ other known.
    let nodes = nodes_in c.args.setting.now in
    let v = valuation_in c.args.setting.now in
    let all = runs_of c.args.ordered.now c.args.runs.now c.args.told.now in
    let old = c.args.packages.now in
    let i = c.args.index in
    let kept = get_or old i c.index-packages-index.result in
    let is = ap (get_or old i) c.index-packages-index.is in
    let r = c.requires in
    let one = get_or c.args.told.now i c.index-told-index.result in
    let long = told_long _ old all.runs c.args.told.now r.told in
    let within = r.within in
    let inside : i < length c.args.told.now = omega (arith, within, long) in
    no_more_set old i kept c.row_of.new.kept r.within is
    (c.row_of.ensures.once
    (subst (λ k. IsToldIn nodes v k (outcomes one)) (get_or-map package_record old i c.index-packages-index.result other r.within)
    (subst (IsToldIn nodes v (get_or (map package_record old) i other))
    (get_or-map outcomes c.args.told.now i c.index-told-index.result [] inside) known)))
