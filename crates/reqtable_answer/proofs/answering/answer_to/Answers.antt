use Rattle.std.proofs.Common.{◌≡◌, ◌∙◌, ◌&&◌, ◌<◌, ◌++◌, ◌∷◌, [], ℕ, List, All, Some, sym, ap, subst, map}
use Rattle.std.proofs.Common.{filter, length, is_some, rules, Bor}
use Rattle.std.specs.List.{list_any, list_all, enumerate_from}
use Rattle.std.specs.List.Sorted.{IsStrictlySortedBy}
use Rattle.std.specs.Option.{option_map_or}
use Rattle.std.specs.Ordering.{nat_cmp}
use Rattle.std.specs.Cmp.Lexicographic.{slice_cmp}
use Rattle.std.specs.Str.{bytes_eq}
use Rattle.std.specs.Map.Iter.{deref_pair}
use Rattle.std.proofs.lemmas.List.{map-append}
use Rattle.std.proofs.lemmas.List.Elements.{All-filter}
use Rattle.std.proofs.lemmas.Map.Iter.{btree_map_turn, iter_end}
use Rattle.reqtable_answer.specs.Asks.{is_of, is_candidate}
use Rattle.reqtable_answer.specs.Answer.{IsRow}
use Rattle.reqtable_answer.specs.declared.grouping.Group.{Group}
use Rattle.reqtable_answer.specs.Groups.{group_of, numbered_seen}
use Rattle.reqtable_answer.specs.Rows.{row_seen, IsTakenBelow}
use Rattle.reqtable_answer.specs.Says.{asks_seen}
use Rattle.reqtable_answer.proofs.Packages.{by_name_total, names, names_rise, names_found}
use Rattle.reqtable_answer.proofs.ByPackage.{all_pass, places_below, group_some, row_is, more_names}
use Rattle.reqtable_answer.proofs.ByPackage.{more_rows, all_rows}
use Rattle.reqtable_answer.proofs.Alike.{same_answer}
use Rattle.reqtable_answer.proofs.Said.{said_alike}
use Rattle.reqtable_answer.proofs.answering.answer_to.Goals as goal

pub row_of-requires-clause-asked : goal.row_of-requires-clause-asked
row_of-requires-clause-asked g c =
    let name = c.in-Some.entry.0.now.now in
    let all = asks_seen c.args.asks.now in
    let start = c.into_iter-entry-iterator.ensures.into_iter_gives ∙ c.iter-entry-items.ensures.rest in
    let turn = btree_map_turn deref_pair c.loop-entry.yielded c.into_iter-entry-iterator.result c.loop-entry.entry-iterator c.next.new.self c.next.result c.in-Some.entry c.loop-entry.yielded_by c.in-Some.is c.next.ensures.steps by_name_total c.in_ok-groups.groups start c.iter-entry-items.ensures.ordered in
    let got : group_of c.in_ok-groups.groups name ≡ Some c.in-Some.entry.1.now = turn.1 in
    let group : asks_seen c.in-Some.entry.1.now.asks.items ≡ filter (is_of name) all =
    sym (ap (λ o. option_map_or (λ g. asks_seen g.asks.items) o []) got) ∙ c.in_ok-groups.ensures.asks name in
    group_some (is_of name) all c.in-Some.entry.1.now.asks.items c.deref.result.now c.deref.ensures.value group (sym (c.in_ok-groups.ensures.packages name) ∙ ap is_some got)

pub loop-entry-preserved : goal.loop-entry-preserved
loop-entry-preserved g c =
    let name = c.in-Some.entry.0.now.now in
    let all = asks_seen c.args.asks.now in
    let candidates = c.args.candidates.now in
    let count = length candidates in
    let start = c.into_iter-entry-iterator.ensures.into_iter_gives ∙ c.iter-entry-items.ensures.rest in
    let turn = btree_map_turn deref_pair c.loop-entry.yielded c.into_iter-entry-iterator.result c.loop-entry.entry-iterator c.next.new.self c.next.result c.in-Some.entry c.loop-entry.yielded_by c.in-Some.is c.next.ensures.steps by_name_total c.in_ok-groups.groups start c.iter-entry-items.ensures.ordered in
    let got : group_of c.in_ok-groups.groups name ≡ Some c.in-Some.entry.1.now = turn.1 in
    let group : asks_seen c.deref.result.now ≡ filter (is_of name) all =
    ap asks_seen c.deref.ensures.value ∙ sym (ap (λ o. option_map_or (λ g. asks_seen g.asks.items) o []) got) ∙ c.in_ok-groups.ensures.asks name in
    let listed : map numbered_seen c.deref-in-loop-entry.result.now ≡ filter (is_candidate name) (enumerate_from 0 candidates) =
    ap (map numbered_seen) c.deref-in-loop-entry.ensures.value ∙ sym (ap (λ o. option_map_or (λ g. map numbered_seen g.candidates.items) o []) got)
    ∙ c.in_ok-groups.ensures.candidates name ∙ ap (λ b. filter (λ x. b && is_candidate name x) (enumerate_from 0 c.items.result.now)) (ap is_some got)
    ∙ ap (λ l. filter (is_candidate name) (enumerate_from 0 l)) c.items.ensures in
    let row = row_seen c.in_ok-row.row in
    let rows = map row_seen c.loop-entry.rows.items in
    let new = map row_seen c.push.new.self.items in
    let named : row.name ≡ name = c.in_ok-row.ensures.name name (ap (list_all (is_of name)) group ∙ all_pass (is_of name) all) in
    let grown : new ≡ rows ++ row ∷ [] = ap (map row_seen) c.in_ok-push.ensures.items ∙ map-append row_seen c.loop-entry.rows.items (c.in_ok-row.row ∷ []) in
    let entry : Bor (Bor (List ℕ)) × Bor Group = c.in-Some.entry in
    record {
      names =
          more_names rows new row (λ e. e.0.now) (map deref_pair c.loop-entry.yielded) (deref_pair entry) grown c.loop-entry.invariant.names named
          ∙ ap names (sym (map-append deref_pair c.loop-entry.yielded (entry ∷ [])));
      rows = λ admits by.
          more_rows (IsRow admits all candidates) rows new row grown (c.loop-entry.invariant.rows admits by)
          (row_is admits all candidates (asks_seen c.deref.result.now) (map numbered_seen c.deref-in-loop-entry.result.now) row
          (group ∙ ap (λ m. filter (is_of m) all) (sym named)) (listed ∙ ap (λ m. filter (is_candidate m) (enumerate_from 0 candidates)) (sym named))
          (c.in_ok-row.ensures.row admits by));
      places =
          more_rows (λ r. IsTakenBelow count r.outcome) rows new row grown c.loop-entry.invariant.places
          (c.in_ok-row.ensures.below count
          (subst (All (λ x. x.0 < count)) (sym listed) (All-filter (is_candidate name) (λ x. x.0 < count) (enumerate_from 0 candidates) (places_below candidates))));
    }

pub returns-clause-answered : goal.returns-clause-answered
returns-clause-answered g c = λ admits said by say.
    let entries = c.in_ok-groups.groups.entries in
    let rows = map row_seen c.loop-entry.rows.items in
    let whole : map deref_pair c.loop-entry.yielded ≡ entries = search (rules, iter_end) in
    let named : map (λ row. row.name) rows ≡ names entries = c.loop-entry.invariant.names ∙ ap names whole in
    same_answer admits c.args.candidates.now (asks_seen c.args.asks.now) said (said_alike (asks_seen c.args.asks.now) said say) rows (record {
      rising = subst (IsStrictlySortedBy (slice_cmp nat_cmp)) (sym named) (names_rise entries c.iter-entry-items.ensures.ordered);
      asked = λ q. ap (list_any (bytes_eq q)) named ∙ names_found q entries ∙ c.in_ok-groups.ensures.packages q;
      each_row = c.loop-entry.invariant.rows admits by;
    })

pub returns-clause-places : goal.returns-clause-places
returns-clause-places g c = all_rows (λ row. IsTakenBelow (length c.args.candidates.now) row.outcome) c.loop-entry.rows.items c.loop-entry.invariant.places
