use Rattle.std.proofs.Common.{◌∙◌, List, map, ap, subst}
use Rattle.std.proofs.lemmas.Result.{IfOk-weaker}
use Rattle.std.specs.List.{AllZip}
use Rattle.pep508_diagram.specs.Question.{Valuation}
use Rattle.pep508_evaluation.specs.Valuations.{valuation_of}
use Rattle.pep508_tree.specs.Meaning.{NodeRecord}
use Rattle.reqtable_table.specs.Answers.{LiesIn}
use Rattle.reqtable_table.specs.Kept.{KeptPackage}
use Rattle.reqtable_table.specs.KeptLines.{package_record}
use Rattle.reqtable_marker_cache.specs.Settings.{nodes_in}
use Rattle.reqtable_table.proofs.lent.places.Goals as goal

pub returns-clause-lie : goal.returns-clause-lie
returns-clause-lie c =
    let nodes = c.args.interner.now.nodes in
    let v = valuation_of c.args.environment.now c.args.extras.now in
    let was = map package_record c.deref.result.now in
    let old = nodes_in c.new-setting.result in
    IfOk-weaker c.places_of.result _ _
    (λ places h.
    let P : List KeptPackage → Type 0 = λ l. AllZip (LiesIn nodes v) l places.items in
    let Q : List NodeRecord → Type 0 = λ m. AllZip (LiesIn m v) was places.items in
    let R : Valuation → Type 0 = λ w. AllZip (LiesIn old w) was places.items in
    subst P (ap (map package_record) c.deref.ensures.value ∙ c.table.view_is)
    (subst Q c.new-setting.ensures.nodes (subst R c.new-setting.ensures.valuation h)))
    c.places_of.ensures
