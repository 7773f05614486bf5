use Rattle.std.proofs.Common.{◌≡◌, ◌∙◌, ◌≤◌, ◌+◌, ◌*◌, ◌++◌, ◌∷◌, [], map, length, refl, sym, ap, subst, append_assoc, rules}
use Rattle.std.proofs.lemmas.List.{map-append, length-map}
use Rattle.std.specs.List.{AllZip, AllByRecursion}
use Rattle.std.specs.Vec.Iter.{into_iter_items}
use Rattle.pep508_tree.proofs.Conjoining.{extends_on}
use Rattle.reqtable_groups.specs.Given.{lines_in}
use Rattle.reqtable_table.specs.Casing.{case_record}
use Rattle.reqtable_table.specs.KeptLines.{package_record}
use Rattle.reqtable_table.specs.Building.{AreOfTrees, IsPackageOf, IsRefusal, most_cases, IsLeft}
use Rattle.reqtable_table.specs.Cases.{table_cases}
use Rattle.reqtable_table.proofs.Packages.{zip_pushed}
use Rattle.reqtable_table.proofs.Firsts.{of_trees_on, packages_on, pushed_all, more_lines, at_most, so_far}
use Rattle.reqtable_table.proofs.Firsts.{first_refused, of_fewer}
use Rattle.reqtable_table.proofs.Rooms.{nothing_made, most_at_most, left_after, is_within, table_pushed}
use Rattle.reqtable_table.proofs.table.packages_of.Goals as goal

pub loop-group-init : goal.loop-group-init
loop-group-init c =
    record {
      keeps = search rules;
      counts = search rules;
      split = search rules;
      done = tt;
      left = search rules;
      made =
          subst (λ ps. AllZip (IsPackageOf c.args.limits.limit c.args.interner.now.nodes) [] (map package_record ps))
          (sym c.in_ok-packages.ensures.items) tt;
      last = c.new-last.ensures c.args.interner.now.nodes;
      limit = refl;
      is_left =
          subst (λ ps. IsLeft c.args.limits.left (table_cases (map package_record ps)) c.args.limits.left)
          (sym c.in_ok-packages.ensures.items) (nothing_made c.args.limits.left);
    }

pub package_of-requires-clause-trees : goal.package_of-requires-clause-trees
package_of-requires-clause-trees c =
    let start = c.args.interner.now.nodes in
    let now = c.loop-group.interner.nodes in
    let group = c.in-Some.group in
    let taken : into_iter_items c.loop-group.group-iterator ≡ group ∷ into_iter_items c.next.new.self = search rules in
    let left = subst (AllByRecursion (AreOfTrees start)) taken c.loop-group.invariant.left in
    of_trees_on start now group c.loop-group.invariant.keeps left.0

pub loop-group-preserved : goal.loop-group-preserved
loop-group-preserved c =
    let start = c.args.interner.now.nodes in
    let now = c.loop-group.interner.nodes in
    let new = c.package_of.new.interner.nodes in
    let done = c.loop-group.yielded in
    let group = c.in-Some.group in
    let rest = into_iter_items c.next.new.self in
    let limit = c.args.limits.limit in
    let before = c.loop-group.invariant in
    let own = c.loop-group.left.left in
    let kept = package_record c.in-Ok.package in
    let made : IsPackageOf (most_cases limit own) new group kept =
    subst (λ n. IsPackageOf (most_cases n own) new group kept) before.limit c.in-Ok.ensures.made in
    let count : length kept.cases ≡ length c.deref.result.now =
    length-map c.in-Ok.package.cases.items case_record ∙ ap length (sym c.deref.ensures.value) in
    let pushed = ap (map package_record) c.in_ok-push-in-Ok.ensures.items ∙ map-append package_record c.loop-group.packages.items _ in
    let old_table = map package_record c.loop-group.packages.items in
    let taken : into_iter_items c.loop-group.group-iterator ≡ group ∷ rest = search rules in
    let left : AllByRecursion (AreOfTrees start) (group ∷ rest) = subst (AllByRecursion (AreOfTrees start)) taken before.left in
    record {
      keeps = extends_on start now new before.keeps c.in-Ok.ensures.keeps;
      counts =
          at_most (length (lines_in done)) (length group.lines.items) (length (lines_in (done ++ group ∷ []))) limit
          c.args.interner.now.conjunctions c.loop-group.interner.conjunctions c.package_of.new.interner.conjunctions
          before.counts
          (subst (λ n. c.package_of.new.interner.conjunctions ≤ c.loop-group.interner.conjunctions + 2 * (length group.lines.items * n))
          before.limit c.in-Ok.ensures.counts)
          (more_lines done group);
      split = append_assoc done (group ∷ []) rest ∙ ap (λ l. done ++ l) (sym taken) ∙ before.split;
      done = pushed_all (AreOfTrees start) done group before.done left.0;
      left = left.1;
      made =
          zip_pushed (IsPackageOf limit new) done (done ++ group ∷ []) old_table (map package_record c.push.new.self.items) group
          kept refl pushed (packages_on limit now new done old_table c.in-Ok.ensures.keeps before.made)
          (of_fewer (most_cases limit own) limit new group kept (most_at_most limit own) made);
      last = c.in-Ok.ensures.last;
      limit = c.after-left.ensures.limit ∙ before.limit;
      is_left =
          subst (λ l. IsLeft c.args.limits.left (table_cases (map package_record c.push.new.self.items)) l)
          (sym c.after-left.ensures.left)
          (left_after limit c.args.limits.left (table_cases old_table)
          (table_cases (map package_record c.push.new.self.items)) (length c.deref.result.now) own
          (ap table_cases pushed ∙ table_pushed old_table kept ∙ ap (λ n. table_cases old_table + n) count)
          (subst (λ n. n ≤ most_cases limit own) count made.few) before.is_left);
    }

pub returns-in_err-push-in-Ok-clause-counts : goal.returns-in_err-push-in-Ok-clause-counts
returns-in_err-push-in-Ok-clause-counts c =
    let done = c.loop-group.yielded in
    let group = c.in-Some.group in
    let rest = into_iter_items c.next.new.self in
    let taken : into_iter_items c.loop-group.group-iterator ≡ group ∷ rest = search rules in
    let whole : (done ++ group ∷ []) ++ rest ≡ c.args.groups.items =
    append_assoc done (group ∷ []) rest ∙ ap (λ l. done ++ l) (sym taken) ∙ c.loop-group.invariant.split in
    so_far done group rest c.args.groups.items c.args.limits.limit c.args.interner.now.conjunctions c.loop-group.interner.conjunctions
    c.package_of.new.interner.conjunctions c.loop-group.invariant.counts
    (subst (λ n. c.package_of.new.interner.conjunctions ≤ c.loop-group.interner.conjunctions + 2 * (length group.lines.items * n))
    c.loop-group.invariant.limit c.in-Ok.ensures.counts) whole

pub returns-in-Err-clause-refused : goal.returns-in-Err-clause-refused
returns-in-Err-clause-refused c =
    let start = c.args.interner.now.nodes in
    let done = c.loop-group.yielded in
    let group = c.in-Some.group in
    let rest = into_iter_items c.next.new.self in
    let taken : into_iter_items c.loop-group.group-iterator ≡ group ∷ rest = search rules in
    let left : AllByRecursion (AreOfTrees start) (group ∷ rest) =
    subst (AllByRecursion (AreOfTrees start)) taken c.loop-group.invariant.left in
    first_refused c.args.limits.limit c.args.limits.left c.loop-group.interner.nodes c.package_of.new.interner.nodes done group rest
    c.args.groups.items (map package_record c.loop-group.packages.items) c.loop-group.left.left c.in-Err.error c.in-Err.ensures.keeps
    (of_trees_on start c.loop-group.interner.nodes group c.loop-group.invariant.keeps left.0)
    (sym (ap (λ l. done ++ l) (sym taken) ∙ c.loop-group.invariant.split)) c.loop-group.invariant.made c.loop-group.invariant.is_left
    (subst (λ n. IsRefusal n c.loop-group.left.left c.loop-group.interner.nodes group c.in-Err.error) c.loop-group.invariant.limit
    c.in-Err.ensures.refused)

pub returns-in-Err-clause-counts : goal.returns-in-Err-clause-counts
returns-in-Err-clause-counts c =
    let done = c.loop-group.yielded in
    let group = c.in-Some.group in
    let rest = into_iter_items c.next.new.self in
    let taken : into_iter_items c.loop-group.group-iterator ≡ group ∷ rest = search rules in
    let whole : (done ++ group ∷ []) ++ rest ≡ c.args.groups.items =
    append_assoc done (group ∷ []) rest ∙ ap (λ l. done ++ l) (sym taken) ∙ c.loop-group.invariant.split in
    so_far done group rest c.args.groups.items c.args.limits.limit c.args.interner.now.conjunctions c.loop-group.interner.conjunctions
    c.package_of.new.interner.conjunctions c.loop-group.invariant.counts
    (subst (λ n. c.package_of.new.interner.conjunctions ≤ c.loop-group.interner.conjunctions + 2 * (length group.lines.items * n))
    c.loop-group.invariant.limit c.in-Err.ensures.counts) whole

pub returns-clause-within : goal.returns-clause-within
returns-clause-within c =
    is_within c.args.limits.left (table_cases (map package_record c.loop-group.packages.items)) c.loop-group.left.left
    c.loop-group.invariant.is_left
