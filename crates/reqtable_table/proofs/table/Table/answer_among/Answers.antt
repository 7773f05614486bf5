use Rattle.std.proofs.Common.{◌≡◌, ◌∙◌, ◌≤◌, ◌+◌, List, map, ap, sym, subst}
use Rattle.std.proofs.lemmas.List.{with_items_is}
use Rattle.std.specs.Vec.{with_items}
use Rattle.pep508_diagram.specs.Question.{Valuation}
use Rattle.pep508_evaluation.specs.Valuations.{valuation_of}
use Rattle.pep508_tree.specs.Meaning.{NodeRecord}
use Rattle.pep508_tree.proofs.Conjoining.{extends_itself}
use Rattle.reqtable_candidates.specs.declared.candidates.Candidate.{Candidate}
use Rattle.reqtable_answer.specs.Admission.{Admits}
use Rattle.reqtable_answer.specs.Answer.{RowRecord}
use Rattle.reqtable_answer.specs.Rows.{row_seen}
use Rattle.reqtable_table.specs.declared.table.Package.{Package}
use Rattle.reqtable_table.specs.Answers.{AreRowsFor, most_tests_of}
use Rattle.reqtable_table.specs.Counts.{all_tests}
use Rattle.reqtable_table.specs.Kept.{KeptPackage}
use Rattle.reqtable_table.specs.KeptLines.{package_record}
use Rattle.reqtable_table.specs.Owns.{runs_of}
use Rattle.reqtable_table.specs.Runs.{AreRunsOf}
use Rattle.reqtable_marker_cache.specs.Settings.{nodes_in, valuation_in}
use Rattle.reqtable_table.proofs.RowsOfLines.{rows_are_the_answer}
use Rattle.reqtable_table.proofs.LentTable.{stays, runs_stay, serve, few_more}
use Rattle.reqtable_table.proofs.table.Table.answer_among.Goals as goal

pub invariant_of-self : goal.invariant_of-self
invariant_of-self g c =
    stays c.self.inside.packages c.deref_mut.result.now c.rows_of.new.packages
    (with_items_is c.self.inside.packages c.rows_of.new.packages (c.rows_of.auto.packages ∙ c.deref_mut.ensures.len))
    c.deref_mut.ensures.value c.rows_of.ensures.kept c.self.invariant

pub invariant_of-self-2 : goal.invariant_of-self-2
invariant_of-self-2 g c =
    stays c.self.inside.packages c.deref_mut.result.now c.rows_of.new.packages
    (with_items_is c.self.inside.packages c.rows_of.new.packages (c.rows_of.auto.packages ∙ c.deref_mut.ensures.len))
    c.deref_mut.ensures.value c.rows_of.ensures.kept c.self.invariant

pub returns-in_err-rows-clause-runs : goal.returns-in_err-rows-clause-runs
returns-in_err-rows-clause-runs g c =
    let inside = runs_of c.runs.inside.ordered.now c.runs.inside.runs.items c.runs.inside.told.items in
    runs_stay c.self.inside.packages c.deref_mut.result.now c.rows_of.new.packages inside
    (with_items_is c.self.inside.packages c.rows_of.new.packages (c.rows_of.auto.packages ∙ c.deref_mut.ensures.len))
    c.deref_mut.ensures.value c.rows_of.ensures.kept
    (subst (λ t. AreRunsOf t inside) (sym c.self.view_is)
    (subst (λ all. AreRunsOf c.args.self.now all) (sym c.runs.view_is) c.requires.runs))

pub returns-in_err-rows-clause-tests : goal.returns-in_err-rows-clause-tests
returns-in_err-rows-clause-tests g c =
    let nodes = c.args.interner.now.nodes in
    let v = valuation_of c.args.environment.now c.args.extras.now in
    let held = c.self.inside.packages in
    subst (λ candidates. all_tests (map package_record (with_items held c.rows_of.new.packages).items)
    ≤ all_tests c.args.self.now + most_tests_of nodes v candidates c.args.self.now) (ap (λ r. r.candidates) c.runs.view_is)
    (few_more most_tests_of held c.deref_mut.result.now c.rows_of.new.packages c.args.self.now nodes
    (nodes_in c.new-setting.result) v (valuation_in c.new-setting.result) c.runs.inside.ordered.now.candidates
    (with_items_is c.self.inside.packages c.rows_of.new.packages (c.rows_of.auto.packages ∙ c.deref_mut.ensures.len))
    (ap (map package_record) c.deref_mut.ensures.value ∙ c.self.view_is) c.new-setting.ensures.nodes c.new-setting.ensures.valuation
    c.rows_of.ensures.tests)

pub returns-clause-runs : goal.returns-clause-runs
returns-clause-runs g c =
    let inside = runs_of c.runs.inside.ordered.now c.runs.inside.runs.items c.runs.inside.told.items in
    runs_stay c.self.inside.packages c.deref_mut.result.now c.rows_of.new.packages inside
    (with_items_is c.self.inside.packages c.rows_of.new.packages (c.rows_of.auto.packages ∙ c.deref_mut.ensures.len))
    c.deref_mut.ensures.value c.rows_of.ensures.kept
    (subst (λ t. AreRunsOf t inside) (sym c.self.view_is)
    (subst (λ all. AreRunsOf c.args.self.now all) (sym c.runs.view_is) c.requires.runs))

pub returns-clause-tests : goal.returns-clause-tests
returns-clause-tests g c =
    let nodes = c.args.interner.now.nodes in
    let v = valuation_of c.args.environment.now c.args.extras.now in
    let held = c.self.inside.packages in
    subst (λ candidates. all_tests (map package_record (with_items held c.rows_of.new.packages).items)
    ≤ all_tests c.args.self.now + most_tests_of nodes v candidates c.args.self.now) (ap (λ r. r.candidates) c.runs.view_is)
    (few_more most_tests_of held c.deref_mut.result.now c.rows_of.new.packages c.args.self.now nodes
    (nodes_in c.new-setting.result) v (valuation_in c.new-setting.result) c.runs.inside.ordered.now.candidates
    (with_items_is c.self.inside.packages c.rows_of.new.packages (c.rows_of.auto.packages ∙ c.deref_mut.ensures.len))
    (ap (map package_record) c.deref_mut.ensures.value ∙ c.self.view_is) c.new-setting.ensures.nodes c.new-setting.ensures.valuation
    c.rows_of.ensures.tests)

rows_on : (admits : Admits) (was : List Package) (table : List KeptPackage) (nodes old : List NodeRecord) (v u : Valuation)
    (candidates : List Candidate) (rows : List RowRecord) → map package_record was ≡ table → old ≡ nodes → u ≡ v →
    AreRowsFor admits old u candidates (map package_record was) rows → AreRowsFor admits nodes v candidates table rows
rows_on admits was table nodes old v u candidates rows t n e h =
    subst (λ l. AreRowsFor admits nodes v candidates l rows) t
    (subst (λ m. AreRowsFor admits m v candidates (map package_record was) rows) n
    (subst (λ w. AreRowsFor admits old w candidates (map package_record was) rows) e h))

pub returns-clause-answered : goal.returns-clause-answered
returns-clause-answered g c = λ said admits keeps by.
    let rows = map row_seen c.in_ok-rows.rows.items in
    let candidates = c.args.runs.now.candidates in
    let nodes = c.args.interner.now.nodes in
    let v = valuation_of c.args.environment.now c.args.extras.now in
    rows_are_the_answer nodes v c.args.self.now said keeps admits candidates rows
    (subst (λ cs. AreRowsFor admits nodes v cs c.args.self.now rows) (ap (λ r. r.candidates) c.runs.view_is)
    (rows_on admits c.deref_mut.result.now c.args.self.now nodes (nodes_in c.new-setting.result) v (valuation_in c.new-setting.result)
    c.runs.inside.ordered.now.candidates rows (ap (map package_record) c.deref_mut.ensures.value ∙ c.self.view_is)
    c.new-setting.ensures.nodes c.new-setting.ensures.valuation (c.in_ok-rows.ensures.rows admits by)))

pub returns-in_err-rows-clause-serves : goal.returns-in_err-rows-clause-serves
returns-in_err-rows-clause-serves g c =
    serve c.self.inside.packages c.deref_mut.result.now c.rows_of.new.packages c.args.self.now c.args.interner.now.nodes c.args.interner.now.nodes
    (with_items_is c.self.inside.packages c.rows_of.new.packages (c.rows_of.auto.packages ∙ c.deref_mut.ensures.len))
    (ap (map package_record) c.deref_mut.ensures.value ∙ c.self.view_is) (extends_itself c.args.interner.now.nodes) c.rows_of.ensures.kept c.requires.cases

pub returns-in_err-rows-clause-lasts : goal.returns-in_err-rows-clause-lasts
returns-in_err-rows-clause-lasts g c = λ later more.
    serve c.self.inside.packages c.deref_mut.result.now c.rows_of.new.packages c.args.self.now c.args.interner.now.nodes later
    (with_items_is c.self.inside.packages c.rows_of.new.packages (c.rows_of.auto.packages ∙ c.deref_mut.ensures.len))
    (ap (map package_record) c.deref_mut.ensures.value ∙ c.self.view_is) more c.rows_of.ensures.kept c.requires.cases

pub returns-clause-serves : goal.returns-clause-serves
returns-clause-serves g c =
    serve c.self.inside.packages c.deref_mut.result.now c.rows_of.new.packages c.args.self.now c.args.interner.now.nodes c.args.interner.now.nodes
    (with_items_is c.self.inside.packages c.rows_of.new.packages (c.rows_of.auto.packages ∙ c.deref_mut.ensures.len))
    (ap (map package_record) c.deref_mut.ensures.value ∙ c.self.view_is) (extends_itself c.args.interner.now.nodes) c.rows_of.ensures.kept c.requires.cases

pub returns-clause-lasts : goal.returns-clause-lasts
returns-clause-lasts g c = λ later more.
    serve c.self.inside.packages c.deref_mut.result.now c.rows_of.new.packages c.args.self.now c.args.interner.now.nodes later
    (with_items_is c.self.inside.packages c.rows_of.new.packages (c.rows_of.auto.packages ∙ c.deref_mut.ensures.len))
    (ap (map package_record) c.deref_mut.ensures.value ∙ c.self.view_is) more c.rows_of.ensures.kept c.requires.cases
