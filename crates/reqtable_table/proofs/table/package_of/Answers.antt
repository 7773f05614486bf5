use Rattle.std.proofs.Common.{◌≡◌, ◌∙◌, ◌≤◌, ◌+◌, ◌*◌, List, map, length, refl, sym, ap, subst, arith}
use Rattle.std.proofs.lemmas.List.{length-map}
use Rattle.std.specs.List.{AllByRecursion, AllZip}
use Rattle.pep508_tree.specs.Tree.{Tree}
use Rattle.pep508_tree.specs.Meaning.{IsTree}
use Rattle.pep508_cases.specs.Cases.{AreCases, marks_of}
use Rattle.pep508_cases.specs.Seen.{case_seen, cases_seen}
use Rattle.reqtable_groups.specs.declared.given.Given.{Given}
use Rattle.reqtable_table.specs.Casing.{case_record, IsCaseOfGiven}
use Rattle.reqtable_table.specs.Building.{most_cases}
use Rattle.reqtable_table.specs.KeptLines.{package_record}
use Rattle.reqtable_table.proofs.Rooms.{most_at_most, fewer_conjunctions}
use Rattle.reqtable_table.proofs.Packages.{given_trees, has_its_cases, as_long}
use Rattle.reqtable_table.proofs.table.package_of.Goals as goal

abbrev markers : List Given → List Tree
markers lines = map (λ line. line.marker) lines

pub find-requires-clause-trees : goal.find-requires-clause-trees
find-requires-clause-trees c =
    let lines = c.args.group.lines.items in
    let trees : c.in_ok-trees.trees.items ≡ markers lines = c.in_ok-trees.ensures ∙ ap markers c.deref.ensures.value in
    subst (AllByRecursion (IsTree c.args.interner.now.nodes)) (sym trees)
    (given_trees c.args.interner.now.nodes lines c.requires.trees)

pub returns-clause-made : goal.returns-clause-made
returns-clause-made c =
    let lines = c.args.group.lines.items in
    let old = c.args.interner.now.nodes in
    let new = c.find.new.interner.nodes in
    let found = c.find.new.self.cases.items in
    let sets = cases_seen found in
    let cases = map case_record c.in_ok-cases.cases.items in
    let same : c.in_ok-trees.trees.items ≡ markers lines = c.in_ok-trees.ensures ∙ ap markers c.deref.ensures.value in
    let each : AllZip (IsCaseOfGiven lines) cases sets =
    subst (λ l. AllZip (IsCaseOfGiven l) cases sets) c.deref-2.ensures.value
    (subst (λ ss. AllZip (IsCaseOfGiven c.deref-2.result.now) cases (cases_seen ss)) c.cases.ensures c.in_ok-cases.ensures) in
    let long = as_long (IsCaseOfGiven lines) cases sets each in
    let few : length found ≤ most_cases c.args.limits.limit c.args.limits.left =
    subst (λ n. length found ≤ n) c.most.ensures c.in-Ok.ensures.few in
    let counted = length-map found case_seen in
    record {
      name = refl;
      lines = c.in_ok-lines.ensures;
      cases =
          has_its_cases old new lines (package_record (record { name = c.args.group.name; cases = c.in_ok-cases.cases; lines = c.in_ok-lines.lines })) sets c.in-Ok.ensures.keeps c.requires.trees c.in_ok-lines.ensures
          (subst (λ trees. AreCases (marks_of old trees) new sets) same c.in-Ok.ensures.cases) each;
      few = omega (arith, long, few, counted);
    }

pub returns-clause-counts : goal.returns-clause-counts
returns-clause-counts c =
    let lines = c.args.group.lines.items in
    let limits = c.args.limits in
    let old = c.args.interner.now.conjunctions in
    let new = c.find.new.interner.conjunctions in
    let long : length c.in_ok-trees.trees.items ≡ length lines =
    ap length (c.in_ok-trees.ensures ∙ ap markers c.deref.ensures.value) ∙ length-map lines (λ (line : Given). line.marker) in
    fewer_conjunctions (length lines) (most_cases limits.limit limits.left) limits.limit old new (most_at_most limits.limit limits.left)
    (subst (λ n. new ≤ old + 2 * (length lines * n)) c.most.ensures
    (subst (λ n. new ≤ old + 2 * (n * c.most.result)) long c.in-Ok.ensures.counts))
