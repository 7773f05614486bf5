use Rattle.std.proofs.Common.{◌≡◌, ◌∙◌, ℕ, List, [], Err, None, map, refl, sym, ap, subst}
use Rattle.std.specs.List.{list_any, AllByRecursion}
use Rattle.std.specs.Str.{bytes_eq}
use Rattle.std.proofs.lemmas.Result.{err_from_is_err_and}
use Rattle.pep508_tree.specs.Meaning.{IsTree}
use Rattle.pep508_tree.proofs.Conjoining.{extends_itself}
use Rattle.reqtable_cases.specs.Lines.{is_named, HasTooMany}
use Rattle.reqtable_compare.specs.Compared.{NoneTooMany}
use Rattle.reqtable_compare.specs.Differences.{listed}
use Rattle.reqtable_compare.specs.Refusals.{line_refusal}
use Rattle.reqtable_compare.specs.declared.sides.SameError.TheVariants as errors
use Rattle.reqtable_compare.proofs.Answering.{refused_is, none_refused, refusal_of}
use Rattle.reqtable_compare.proofs.Bounded.{by_bounds}
use Rattle.reqtable_compare.proofs.Comparable.{both_comparable}
use Rattle.reqtable_compare.proofs.Whole.{side_of}
use Rattle.reqtable_key.specs.Entries.{entry_seen, is_under, trees_under, AreOfPackages}
use Rattle.reqtable_key.proofs.Answered.{all_among, all_named, may_compare, table_refused}
use Rattle.reqtable_key.proofs.Assembled.{is_key}
use Rattle.reqtable_key.proofs.Made.{trees_made}
use Rattle.reqtable_key.proofs.list_key.key.Goals as goal

pub returns-in-Some-clause-key : goal.returns-in-Some-clause-key
returns-in-Some-clause-key c vars said h =
    let refused = c.in-Some.refused in
    by_bounds c.args.limit c.args.in_all [] said [] (Err (errors.Line refused.side refused.number refused.cause))
    (sym (refusal_of vars c.args.interner.now.nodes c.args.requirements.now [] said [] h tt)
    ∙ refused_is c.lines.result.now c.args.requirements.now [] [] c.in_ok-refused.field-0 refused c.lines.ensures refl
    c.in-Some.is c.in_ok-refused.ensures)

pub returns-in_err-table-clause-key : goal.returns-in_err-table-clause-key
returns-in_err-table-clause-key c vars said h =
    let nodes = c.args.interner.now.nodes in
    let lines = c.args.requirements.now in
    let names = map (λ name. name.now) c.in_ok-names.names.items in
    let none : line_refusal said [] ≡ None =
    sym (refusal_of vars nodes lines [] said [] h tt)
    ∙ none_refused c.lines.result.now lines [] [] c.in_ok-refused.field-0 c.lines.ensures refl c.in_default.not-Some
    c.in_ok-refused.ensures in
    let named : (q : List ℕ) → list_any (bytes_eq q) names ≡ is_named q said =
    all_named vars nodes lines c.lines-lines.result.now said names c.lines-lines.ensures h c.in_ok-names.ensures.are in
    let among = ap (λ ns. map (λ name. name.now) ns) c.deref.ensures.value in
    let p = err_from_is_err_and c.from_residual-in_err-table.result c.from_residual-in_err-table.ensures.1 in
    rw (p.1, p.2)
    (table_refused c.args.limit said none c.args.in_all c.side_table.new.interner.nodes
    (map (λ name. name.now) c.deref.result.now) _
    (all_among (map (λ name. name.now) c.deref.result.now) said (λ q. ap (list_any (bytes_eq q)) among ∙ named q))
    (c.in_err-table.ensures.made vars said h))

pub written-requires : goal.written-requires
written-requires c = λ q.
    let nodes = c.side_table.new.interner.nodes in
    subst (AllByRecursion (IsTree nodes)) (sym (c.in_ok-groups.ensures.trees q))
    (subst (λ es. AllByRecursion (IsTree nodes) (trees_under q (map entry_seen es))) (sym c.deref-3.ensures.value)
    (trees_made nodes (listed c.lines-lines.result.now c.in_ok-table.table) (map (λ name. name.now) c.deref-2.result.now)
    (map entry_seen c.in_ok-entries.entries.items) c.in_ok-table.ensures.cases c.in_ok-entries.ensures q))

pub returns-clause-key : goal.returns-clause-key
returns-clause-key c vars said h =
    let old = c.args.interner.now.nodes in
    let nodes = c.side_table.new.interner.nodes in
    let lines = c.args.requirements.now in
    let names = map (λ name. name.now) c.in_ok-names.names.items in
    let none : line_refusal said [] ≡ None =
    sym (refusal_of vars old lines [] said [] h tt)
    ∙ none_refused c.lines.result.now lines [] [] c.in_ok-refused.field-0 c.lines.ensures refl c.in_default.not-Some
    c.in_ok-refused.ensures in
    let named : (q : List ℕ) → list_any (bytes_eq q) names ≡ is_named q said =
    all_named vars old lines c.lines-lines.result.now said names c.lines-lines.ensures h c.in_ok-names.ensures.are in
    let lent = ap (λ ns. map (λ name. name.now) ns) c.deref.ensures.value in
    let lent' = ap (λ ns. map (λ name. name.now) ns) c.deref-2.ensures.value in
    let names' = map (λ name. name.now) c.deref.result.now in
    let named' : (q : List ℕ) → list_any (bytes_eq q) names' ≡ is_named q said =
    (λ q. ap (list_any (bytes_eq q)) lent ∙ named q) in
    let built = c.in_ok-table.ensures.made vars said h in
    let side = listed lines c.in_ok-table.table in
    let of = side_of vars old nodes nodes c.args.limit names' lines c.in_ok-table.table said h c.are_read.ensures.rising
    (both_comparable said [] none).0 built (extends_itself nodes) in
    let entries = map entry_seen c.in_ok-entries.entries.items in
    let gathered : AreOfPackages side names' entries =
    subst (λ ls. AreOfPackages (listed ls c.in_ok-table.table) names' entries) c.lines-lines.ensures
    (subst (λ ns. AreOfPackages (listed c.lines-lines.result.now c.in_ok-table.table) ns entries) (lent' ∙ sym lent)
    c.in_ok-entries.ensures) in
    let seen = ap (map entry_seen) c.deref-3.ensures.value in
    let few : NoneTooMany c.args.limit said =
    subst (λ l. (name : List ℕ) → HasTooMany c.args.limit l name → ⊥) (all_among names' said named') built.2 in (
      may_compare c.args.limit said none few,
      is_key nodes names' side said of named' entries gathered c.in_ok-groups.groups c.in_ok-key.key.items
          c.in_ok-key.ensures.key (λ q. c.in_ok-groups.ensures.trees q ∙ ap (trees_under q) seen)
          (λ q. c.in_ok-groups.ensures.heads q ∙ ap (list_any (is_under q)) seen),
    )
