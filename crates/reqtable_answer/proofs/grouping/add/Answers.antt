use Rattle.std.proofs.Common.{◌≡◌, ◌∙◌, ◌∷◌, [], ℕ, List, Some, is_some, refl, sym, ap, map, rules}
use Rattle.std.specs.Option.{option_map_or}
use Rattle.std.specs.Map.{update}
use Rattle.std.specs.Str.{bytes_eq}
use Rattle.std.proofs.lemmas.List.{map-append}
use Rattle.std.proofs.lemmas.Map.Text.{btree_map_updates_str}
use Rattle.reqtable_answer.specs.declared.grouping.Group.{Group}
use Rattle.reqtable_answer.specs.Groups.{group_of, numbered_seen}
use Rattle.reqtable_answer.specs.Says.{asks_seen}
use Rattle.reqtable_answer.proofs.ByPackage.{kept_as, one_added}
use Rattle.reqtable_answer.proofs.grouping.add.Goals as goal

pub returns-in_ok-push-in-Some-clause-packages : goal.returns-in_ok-push-in-Some-clause-packages
returns-in_ok-push-in-Some-clause-packages c = λ q.
    let after : Group = record { asks = c.in-Some.group.now.asks; candidates = c.push.new.self } in
    let name = c.as_str.result.now in
    let old = c.args.groups.now in
    let new = c.get_mut.follows.lender after in
    let changed : (p : List ℕ) → group_of new p ≡ update bytes_eq (group_of old) name (Some after) p =
    btree_map_updates_str name old new (Some after) ((c.get_mut.follows.holds after).3 (search rules)) in
    kept_as old new name (Some c.in-Some.group.now) after (sym c.in-Some.ensures.value) changed is_some refl q (bytes_eq name q) refl

pub returns-in_ok-push-in-Some-clause-asks : goal.returns-in_ok-push-in-Some-clause-asks
returns-in_ok-push-in-Some-clause-asks c = λ q.
    let after : Group = record { asks = c.in-Some.group.now.asks; candidates = c.push.new.self } in
    let name = c.as_str.result.now in
    let old = c.args.groups.now in
    let new = c.get_mut.follows.lender after in
    let changed : (p : List ℕ) → group_of new p ≡ update bytes_eq (group_of old) name (Some after) p =
    btree_map_updates_str name old new (Some after) ((c.get_mut.follows.holds after).3 (search rules)) in
    kept_as old new name (Some c.in-Some.group.now) after (sym c.in-Some.ensures.value) changed
    (λ o. option_map_or (λ g. asks_seen g.asks.items) o []) refl q (bytes_eq name q) refl

pub returns-in_ok-push-in-Some-clause-candidates :
    goal.returns-in_ok-push-in-Some-clause-candidates
returns-in_ok-push-in-Some-clause-candidates c = λ q.
    let after : Group = record { asks = c.in-Some.group.now.asks; candidates = c.push.new.self } in
    let name = c.as_str.result.now in
    let old = c.args.groups.now in
    let new = c.get_mut.follows.lender after in
    let changed : (p : List ℕ) → group_of new p ≡ update bytes_eq (group_of old) name (Some after) p =
    btree_map_updates_str name old new (Some after) ((c.get_mut.follows.holds after).3 (search rules)) in
    one_added old new name (Some c.in-Some.group.now) after (sym c.in-Some.ensures.value) changed (numbered_seen c.args.numbered)
    (sym c.as_str.ensures.text) refl
    (ap (map numbered_seen) c.in_ok-push-in-Some.ensures.items ∙ map-append numbered_seen c.in-Some.group.now.candidates.items (c.args.numbered ∷ []))
    q (bytes_eq name q) refl
