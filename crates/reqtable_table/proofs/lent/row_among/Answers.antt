use Rattle.std.proofs.Common.{◌≡◌, ◌∙◌, ◌≤◌, ◌<◌, ◌+◌, ℕ, List, [], Option, option_map, length, map, get_or}
use Rattle.std.proofs.Common.{ap, sym, subst, arith}
use Rattle.std.proofs.lemmas.List.{with_items_is, length-map}
use Rattle.std.proofs.lemmas.Result.{IfOk-weaker}
use Rattle.std.specs.Vec.{with_items}
use Rattle.pep508_diagram.specs.Question.{Valuation}
use Rattle.pep508_evaluation.specs.Valuations.{valuation_of}
use Rattle.pep508_tree.specs.Meaning.{NodeRecord}
use Rattle.pep508_tree.proofs.Conjoining.{extends_itself}
use Rattle.reqtable_candidates.specs.declared.candidates.Candidate.{Candidate}
use Rattle.reqtable_answer.specs.Admission.{Admits}
use Rattle.reqtable_answer.specs.Answer.{RowRecord}
use Rattle.reqtable_answer.specs.Rows.{row_seen}
use Rattle.reqtable_answer.specs.declared.answer.Outcome.{Outcome}
use Rattle.reqtable_table.specs.Answers.{most_tests_in, IsRowIf}
use Rattle.reqtable_table.specs.Counts.{all_tests}
use Rattle.reqtable_table.specs.Kept.{KeptPackage}
use Rattle.reqtable_table.specs.KeptLines.{package_record}
use Rattle.reqtable_table.specs.Owns.{runs_of}
use Rattle.reqtable_table.specs.Runs.{AreRunsOf, IsToldIn}
use Rattle.reqtable_table.specs.declared.runs.Told.{Told}
use Rattle.reqtable_marker_cache.specs.Settings.{nodes_in, valuation_in}
use Rattle.reqtable_table.proofs.LentTable.{stays, runs_stay, serve, few_more}
use Rattle.reqtable_table.proofs.lent.row_among.Goals as goal

pub row_at-requires-clause-within : goal.row_at-requires-clause-within
row_at-requires-clause-within g c =
    let e = ap (map package_record) c.deref_mut.ensures.value ∙ c.table.view_is in
    let long = length-map c.deref_mut.result.now package_record in
    let inside = subst (λ (l : List KeptPackage). c.args.index < length l) (sym e) c.requires.within in
    omega (arith, long, inside)

pub invariant_of-table : goal.invariant_of-table
invariant_of-table g c =
    stays c.table.inside.packages c.deref_mut.result.now c.row_at.new.packages
    (with_items_is c.table.inside.packages c.row_at.new.packages (c.row_at.auto.packages ∙ c.deref_mut.ensures.len))
    c.deref_mut.ensures.value c.row_at.ensures.kept c.table.invariant

pub returns-clause-runs : goal.returns-clause-runs
returns-clause-runs g c =
    let inside = runs_of c.runs.inside.ordered.now c.runs.inside.runs.items c.runs.inside.told.items in
    runs_stay c.table.inside.packages c.deref_mut.result.now c.row_at.new.packages inside
    (with_items_is c.table.inside.packages c.row_at.new.packages (c.row_at.auto.packages ∙ c.deref_mut.ensures.len))
    c.deref_mut.ensures.value c.row_at.ensures.kept
    (subst (λ t. AreRunsOf t inside) (sym c.table.view_is)
    (subst (λ all. AreRunsOf c.args.table.now all) (sym c.runs.view_is) c.requires.runs))

row_on : (admits : Admits) (was table : List KeptPackage) (nodes old : List NodeRecord) (v u : Valuation)
    (candidates found : List Candidate) (i : ℕ) (other : KeptPackage) (row : Option RowRecord) → was ≡ table → old ≡ nodes → u ≡ v →
    found ≡ candidates → IsRowIf admits old u found (get_or was i other) row → IsRowIf admits nodes v candidates (get_or table i other) row
row_on admits was table nodes old v u candidates found i other row t n e f h =
    subst (λ l. IsRowIf admits nodes v candidates (get_or l i other) row) t
    (subst (λ m. IsRowIf admits m v candidates (get_or was i other) row) n
    (subst (λ w. IsRowIf admits old w candidates (get_or was i other) row) e
    (subst (λ cs. IsRowIf admits old u cs (get_or was i other) row) f h)))

pub returns-clause-row : goal.returns-clause-row
returns-clause-row g c =
    IfOk-weaker c.row_at.result _ _
    (λ row h admits other by.
    row_on admits (map package_record c.deref_mut.result.now) c.args.table.now c.args.interner.now.nodes (nodes_in c.new-setting.result)
    (valuation_of c.args.environment.now c.args.extras.now) (valuation_in c.new-setting.result) c.args.runs.now.candidates
    c.runs.inside.ordered.now.candidates c.args.index other (option_map row_seen row)
    (ap (map package_record) c.deref_mut.ensures.value ∙ c.table.view_is) c.new-setting.ensures.nodes c.new-setting.ensures.valuation
    (ap (λ r. r.candidates) c.runs.view_is) (h admits other by))
    c.row_at.ensures.row

pub returns-clause-tests : goal.returns-clause-tests
returns-clause-tests g c = λ other.
    let nodes = c.args.interner.now.nodes in
    let v = valuation_of c.args.environment.now c.args.extras.now in
    let held = c.table.inside.packages in
    let i = c.args.index in
    subst (λ candidates. all_tests (map package_record (with_items held c.row_at.new.packages).items)
    ≤ all_tests c.args.table.now + most_tests_in nodes v candidates (get_or c.args.table.now i other)) (ap (λ r. r.candidates) c.runs.view_is)
    (few_more (λ m u cs table. most_tests_in m u cs (get_or table i other)) held c.deref_mut.result.now c.row_at.new.packages c.args.table.now
    nodes (nodes_in c.new-setting.result) v (valuation_in c.new-setting.result) c.runs.inside.ordered.now.candidates
    (with_items_is held c.row_at.new.packages (c.row_at.auto.packages ∙ c.deref_mut.ensures.len))
    (ap (map package_record) c.deref_mut.ensures.value ∙ c.table.view_is) c.new-setting.ensures.nodes c.new-setting.ensures.valuation
    (c.row_at.ensures.tests other))

told_on : (was table : List KeptPackage) (nodes old : List NodeRecord) (v u : Valuation) (all found : List (List (Option Outcome))) (i : ℕ)
    (other : KeptPackage) → was ≡ table → old ≡ nodes → u ≡ v → found ≡ all → IsToldIn nodes v (get_or table i other) (get_or all i []) →
    IsToldIn old u (get_or was i other) (get_or found i [])
told_on was table nodes old v u all found i other t n e f h =
    subst (λ l. IsToldIn old u (get_or l i other) (get_or found i [])) (sym t)
    (subst (λ m. IsToldIn m u (get_or table i other) (get_or found i [])) (sym n)
    (subst (λ w. IsToldIn nodes w (get_or table i other) (get_or found i [])) (sym e)
    (subst (λ told. IsToldIn nodes v (get_or table i other) (get_or told i [])) (sym f) h)))

pub returns-clause-once : goal.returns-clause-once
returns-clause-once g c = λ other known.
    let nodes = c.args.interner.now.nodes in
    let v = valuation_of c.args.environment.now c.args.extras.now in
    let held = c.table.inside.packages in
    let is = ap (map package_record) c.deref_mut.ensures.value ∙ c.table.view_is in
    let outcomes : List Told → List (List (Option Outcome)) = map (λ (t : Told). t.outcomes.items) in
    let less = c.row_at.ensures.once other
    (told_on (map package_record c.deref_mut.result.now) c.args.table.now nodes (nodes_in c.new-setting.result) v (valuation_in c.new-setting.result)
    c.args.runs.now.told (outcomes c.deref_mut-2.result.now) c.args.index other is c.new-setting.ensures.nodes c.new-setting.ensures.valuation
    (ap outcomes c.deref_mut-2.ensures.value ∙ ap (λ r. r.told) c.runs.view_is) known) in
    let few =
    few_more (λ m u cs table. 0) held c.deref_mut.result.now c.row_at.new.packages c.args.table.now nodes (nodes_in c.new-setting.result)
    v (valuation_in c.new-setting.result) c.runs.inside.ordered.now.candidates
    (with_items_is held c.row_at.new.packages (c.row_at.auto.packages ∙ c.deref_mut.ensures.len)) is
    c.new-setting.ensures.nodes c.new-setting.ensures.valuation (omega (arith, less)) in
    let none : all_tests (map package_record (with_items held c.row_at.new.packages).items) ≤ all_tests c.args.table.now =
    omega (arith, few) in
    none

pub returns-clause-serves : goal.returns-clause-serves
returns-clause-serves g c =
    serve c.table.inside.packages c.deref_mut.result.now c.row_at.new.packages c.args.table.now c.args.interner.now.nodes c.args.interner.now.nodes
    (with_items_is c.table.inside.packages c.row_at.new.packages (c.row_at.auto.packages ∙ c.deref_mut.ensures.len))
    (ap (map package_record) c.deref_mut.ensures.value ∙ c.table.view_is) (extends_itself c.args.interner.now.nodes) c.row_at.ensures.kept c.requires.cases

pub returns-clause-lasts : goal.returns-clause-lasts
returns-clause-lasts g c = λ later more.
    serve c.table.inside.packages c.deref_mut.result.now c.row_at.new.packages c.args.table.now c.args.interner.now.nodes later
    (with_items_is c.table.inside.packages c.row_at.new.packages (c.row_at.auto.packages ∙ c.deref_mut.ensures.len))
    (ap (map package_record) c.deref_mut.ensures.value ∙ c.table.view_is) more c.row_at.ensures.kept c.requires.cases
