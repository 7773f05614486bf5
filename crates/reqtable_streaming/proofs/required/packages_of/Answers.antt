use Rattle.std.proofs.Common.{◌≡◌, ◌∙◌, ◌++◌, ◌∷◌, [], ℕ, List, Some, is_some, sym, ap, subst, map, filter, rules}
use Rattle.std.specs.List.{list_any, list_all, AllByRecursion}
use Rattle.std.specs.List.Sorted.{IsStrictlySortedBy}
use Rattle.std.specs.Option.{option_map_or}
use Rattle.std.specs.Ordering.{nat_cmp}
use Rattle.std.specs.Cmp.Lexicographic.{slice_cmp}
use Rattle.std.specs.Str.{bytes_eq}
use Rattle.std.specs.Map.Iter.{deref_pair}
use Rattle.std.proofs.lemmas.List.{map-append}
use Rattle.std.proofs.lemmas.Map.Iter.{btree_map_turn, iter_end}
use Rattle.std.proofs.Common.{Bor}
use Rattle.pep508_requirement_text.specs.FrontReading.{Front}
use Rattle.reqtable_answer.specs.Asks.{is_of}
use Rattle.reqtable_answer.specs.Groups.{group_of}
use Rattle.reqtable_answer.specs.declared.grouping.Group.{Group}
use Rattle.reqtable_answer.specs.Says.{asks_seen}
use Rattle.reqtable_answer.proofs.Packages.{by_name_total, names, names_rise, names_found}
use Rattle.reqtable_answer.proofs.ByPackage.{all_pass, group_some}
use Rattle.reqtable_streaming.specs.declared.required.Package.{Package}
use Rattle.reqtable_streaming.specs.Packages.{AreGroups, IsNew, IsSound, names_of}
use Rattle.reqtable_streaming.proofs.Lists.{all_more}
use Rattle.reqtable_streaming.proofs.required.packages_of.Goals as goal

pub package_of-requires : goal.package_of-requires
package_of-requires c =
    let all = c.requires.0 in
    let groups = c.args.groups.now in
    let name = c.in-Some.entry.0.now.now in
    let start = c.into_iter-entry-iterator.ensures.into_iter_gives ∙ c.iter-entry-items.ensures.rest in
    let turn = btree_map_turn deref_pair c.loop-entry.yielded c.into_iter-entry-iterator.result c.loop-entry.entry-iterator c.next.new.self c.next.result c.in-Some.entry c.loop-entry.yielded_by c.in-Some.is c.next.ensures.steps by_name_total groups start c.iter-entry-items.ensures.ordered in
    let got : group_of groups name ≡ Some c.in-Some.entry.1.now = turn.1 in
    let group : asks_seen c.in-Some.entry.1.now.asks.items ≡ filter (is_of name) all =
    sym (ap (λ o. option_map_or (λ g. asks_seen g.asks.items) o []) got) ∙ c.requires.1.asks name in
    group_some (is_of name) all c.in-Some.entry.1.now.asks.items c.deref.result.now c.deref.ensures.value group (sym (c.requires.1.packages name) ∙ ap is_some got)

pub loop-entry-preserved : goal.loop-entry-preserved
loop-entry-preserved c =
    let groups = c.args.groups.now in
    let name = c.in-Some.entry.0.now.now in
    let start = c.into_iter-entry-iterator.ensures.into_iter_gives ∙ c.iter-entry-items.ensures.rest in
    let turn = btree_map_turn deref_pair c.loop-entry.yielded c.into_iter-entry-iterator.result c.loop-entry.entry-iterator c.next.new.self c.next.result c.in-Some.entry c.loop-entry.yielded_by c.in-Some.is c.next.ensures.steps by_name_total groups start c.iter-entry-items.ensures.ordered in
    let got : group_of groups name ≡ Some c.in-Some.entry.1.now = turn.1 in
    let group : (all : List Front) → AreGroups all groups → asks_seen c.deref.result.now ≡ filter (is_of name) all =
    λ all are. ap asks_seen c.deref.ensures.value ∙ sym (ap (λ o. option_map_or (λ g. asks_seen g.asks.items) o []) got) ∙ are.asks name in
    let new : Package = c.in_ok-wanted.wanted in
    let named : (all : List Front) → AreGroups all groups → new.name.now ≡ name =
    λ all are. c.in_ok-wanted.ensures.name name (ap (list_all (is_of name)) (group all are) ∙ all_pass (is_of name) all) in
    let entry : Bor (Bor (List ℕ)) × Bor Group = c.in-Some.entry in
    record {
      names = λ all are.
          ap names_of c.in_ok-push.ensures.items ∙ map-append (λ p. p.name.now) c.loop-entry.packages.items (new ∷ [])
          ∙ ap (λ l. l ++ new.name.now ∷ []) (c.loop-entry.invariant.names all are) ∙ ap (λ n. names (map deref_pair c.loop-entry.yielded) ++ n ∷ []) (named all are)
          ∙ sym (map-append (λ e. e.0.now) (map deref_pair c.loop-entry.yielded) (deref_pair entry ∷ []))
          ∙ ap names (sym (map-append deref_pair c.loop-entry.yielded (entry ∷ [])));
      sound =
          let P : List Package → Type 0 = AllByRecursion IsSound in
          subst P (sym c.in_ok-push.ensures.items) (all_more IsSound c.loop-entry.packages.items new c.loop-entry.invariant.sound c.in_ok-wanted.ensures.sound);
      each = λ all are.
          let P : List Package → Type 0 = AllByRecursion (IsNew all) in
          subst P (sym c.in_ok-push.ensures.items)
          (all_more (IsNew all) c.loop-entry.packages.items new (c.loop-entry.invariant.each all are) (record {
            asks = ap asks_seen c.in_ok-wanted.ensures.asks ∙ group all are ∙ ap (λ n. filter (is_of n) all) (sym (named all are));
            best = c.in_ok-wanted.ensures.best;
          }));
    }

pub returns : goal.returns
returns c = λ all are.
    let entries = c.args.groups.now.entries in
    let whole : map deref_pair c.loop-entry.yielded ≡ entries = search (rules, iter_end) in
    let named : names_of c.loop-entry.packages.items ≡ names entries = c.loop-entry.invariant.names all are ∙ ap names whole in
    record {
      rising = subst (IsStrictlySortedBy (slice_cmp nat_cmp)) (sym named) (names_rise entries c.iter-entry-items.ensures.ordered);
      asked = λ q. ap (list_any (bytes_eq q)) named ∙ names_found q entries ∙ are.packages q;
      sound = c.loop-entry.invariant.sound;
      each = c.loop-entry.invariant.each all are;
    }
