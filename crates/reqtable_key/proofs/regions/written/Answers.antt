use Rattle.std.proofs.Common.{◌≡◌, ◌∙◌, ◌∷◌, [], Some, map, sym, ap, subst, rules}
use Rattle.std.specs.List.{list_any, AllByRecursion}
use Rattle.std.specs.List.Sorted.{IsStrictlySortedBy}
use Rattle.std.specs.Map.Iter.{deref_pair}
use Rattle.std.specs.Option.{option_map_or}
use Rattle.std.specs.Ordering.{nat_cmp}
use Rattle.std.specs.Cmp.Lexicographic.{slice_cmp}
use Rattle.std.specs.Str.{bytes_eq}
use Rattle.std.proofs.lemmas.List.{map-append}
use Rattle.std.proofs.lemmas.Map.Iter.{btree_map_turn, iter_end}
use Rattle.pep508_tree.specs.Meaning.{IsTree}
use Rattle.pep508_tree.proofs.Conjoining.{extends_on}
use Rattle.reqtable_answer.specs.Groups.{group_of}
use Rattle.reqtable_answer.proofs.Packages.{by_name_total, names, names_rise, names_found}
use Rattle.reqtable_key.specs.Entries.{AreWritten, WritesRegions, trees_at}
use Rattle.reqtable_key.proofs.Writing.{one_written, all_written, trees_kept}
use Rattle.reqtable_key.proofs.regions.written.Goals as goal

pub push_region-requires : goal.push_region-requires
push_region-requires c =
    let head = c.in-Some.group.0.now.now in
    let start = c.into_iter-group-iterator.ensures.into_iter_gives ∙ c.iter-group-items.ensures.rest in
    let turn = btree_map_turn deref_pair c.loop-group.yielded c.into_iter-group-iterator.result c.loop-group.group-iterator
    c.next.new.self c.next.result c.in-Some.group c.loop-group.yielded_by c.in-Some.is c.next.ensures.steps by_name_total
    c.args.groups.now start c.iter-group-items.ensures.ordered in
    let got : group_of c.args.groups.now head ≡ Some c.in-Some.group.1.now = turn.1 in
    let at : trees_at c.args.groups.now head ≡ c.deref.result.now =
    ap (λ o. option_map_or (λ trees. trees.items) o []) got ∙ sym c.deref.ensures.value in
    trees_kept c.args.interner.now.nodes c.loop-group.interner.nodes c.deref.result.now c.loop-group.invariant.keeps
    (subst (AllByRecursion (IsTree c.args.interner.now.nodes)) at (c.requires head))

pub loop-group-preserved : goal.loop-group-preserved
loop-group-preserved c =
    let head = c.in-Some.group.0.now.now in
    let old = c.args.interner.now.nodes in
    let groups = c.args.groups.now in
    let start = c.into_iter-group-iterator.ensures.into_iter_gives ∙ c.iter-group-items.ensures.rest in
    let turn = btree_map_turn deref_pair c.loop-group.yielded c.into_iter-group-iterator.result c.loop-group.group-iterator
    c.next.new.self c.next.result c.in-Some.group c.loop-group.yielded_by c.in-Some.is c.next.ensures.steps by_name_total
    groups start c.iter-group-items.ensures.ordered in
    let got : group_of groups head ≡ Some c.in-Some.group.1.now = turn.1 in
    let at : trees_at groups head ≡ c.deref.result.now =
    ap (λ o. option_map_or (λ trees. trees.items) o []) got ∙ sym c.deref.ensures.value in
    subst (λ es. AreWritten old c.push_region.new.interner.nodes groups es c.push_region.new.key.items)
    (sym (map-append deref_pair c.loop-group.yielded (c.in-Some.group ∷ [])))
    (one_written old groups c.loop-group.interner.nodes c.push_region.new.interner.nodes
    (map deref_pair c.loop-group.yielded) (deref_pair c.in-Some.group) c.deref.result.now c.loop-group.key.items
    c.push_region.new.key.items c.loop-group.invariant
    (extends_on old c.loop-group.interner.nodes c.push_region.new.interner.nodes c.loop-group.invariant.keeps
    c.in_ok-push_region.ensures.keeps)
    c.in_ok-push_region.ensures.region at
    (subst (AllByRecursion (IsTree old)) at (c.requires head)))

pub returns-clause-key : goal.returns-clause-key
returns-clause-key c =
    let old = c.args.interner.now.nodes in
    let groups = c.args.groups.now in
    let entries = groups.entries in
    let yielded = map deref_pair c.loop-group.yielded in
    let whole : yielded ≡ entries = search (rules, iter_end) in
    subst (WritesRegions old groups) (sym c.in_ok-push.ensures.items)
    (all_written old groups c.loop-group.interner.nodes yielded c.loop-group.key.items
    (subst (λ es. IsStrictlySortedBy (slice_cmp nat_cmp) (names es)) (sym whole)
    (names_rise entries c.iter-group-items.ensures.ordered))
    (λ q. ap (λ es. list_any (bytes_eq q) (names es)) whole ∙ names_found q entries)
    c.loop-group.invariant)
