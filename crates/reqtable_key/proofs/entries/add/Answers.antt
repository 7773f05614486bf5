use Rattle.std.proofs.Common.{◌≡◌, ◌∙◌, ◌||◌, ◌∷◌, ◌++◌, [], ℕ, List, Some, sym, ap, rules}
use Rattle.std.specs.Map.{update}
use Rattle.std.specs.Option.{option_map_or}
use Rattle.std.specs.Str.{bytes_eq}
use Rattle.std.proofs.lemmas.Map.Text.{btree_map_updates_str}
use Rattle.reqtable_answer.specs.Groups.{group_of, has_group}
use Rattle.reqtable_key.specs.Entries.{trees_at, trees_under}
use Rattle.reqtable_key.proofs.Adding.{trees_added, heads_added}
use Rattle.reqtable_key.proofs.entries.add.Goals as goal

pub returns-in_ok-push-in-Some-clause-trees : goal.returns-in_ok-push-in-Some-clause-trees
returns-in_ok-push-in-Some-clause-trees c = λ q.
    let head = c.as_slice.result.now in
    let tree = c.args.entry.now.tree in
    let old = c.args.groups.now in
    let after = c.push.new.self in
    let new = c.get_mut.follows.lender after in
    let changed : (p : List ℕ) → group_of new p ≡ update bytes_eq (group_of old) head (Some after) p =
    btree_map_updates_str head old new (Some after) ((c.get_mut.follows.holds after).3 (search rules)) in
    let is : after.items ≡ trees_at old head ++ tree ∷ [] =
    c.in_ok-push-in-Some.ensures.items
    ∙ ap (λ o. option_map_or (λ trees. trees.items) o [] ++ tree ∷ []) c.in-Some.ensures.value in
    trees_added old new head tree after changed is q
    ∙ ap (λ b. trees_at old q ++ trees_under q ((b, tree) ∷ [])) c.as_slice.ensures.value

pub returns-in_ok-push-in-Some-clause-heads : goal.returns-in_ok-push-in-Some-clause-heads
returns-in_ok-push-in-Some-clause-heads c = λ q.
    let head = c.as_slice.result.now in
    let tree = c.args.entry.now.tree in
    let old = c.args.groups.now in
    let after = c.push.new.self in
    let new = c.get_mut.follows.lender after in
    let changed : (p : List ℕ) → group_of new p ≡ update bytes_eq (group_of old) head (Some after) p =
    btree_map_updates_str head old new (Some after) ((c.get_mut.follows.holds after).3 (search rules)) in
    let is : after.items ≡ trees_at old head ++ tree ∷ [] =
    c.in_ok-push-in-Some.ensures.items
    ∙ ap (λ o. option_map_or (λ trees. trees.items) o [] ++ tree ∷ []) c.in-Some.ensures.value in
    heads_added old new head tree after changed is q
    ∙ ap (λ b. has_group old q || bytes_eq q b) c.as_slice.ensures.value

pub returns-in_ok-insert-in-None-clause-trees : goal.returns-in_ok-insert-in-None-clause-trees
returns-in_ok-insert-in-None-clause-trees c = λ q.
    let head = c.as_slice-in-None.result.now in
    let tree = c.args.entry.now.tree in
    let old = c.get_mut.follows.lender-at-none in
    let stays : old ≡ c.args.groups.now = c.get_mut.follows.holds-at-none in
    let after = c.push-in-None.new.self in
    let new = c.insert.new.self in
    let changed : (p : List ℕ) → group_of new p ≡ update bytes_eq (group_of old) head (Some after) p =
    btree_map_updates_str head old new (Some after) c.in_ok-insert-in-None.ensures.updates in
    let none : trees_at old head ≡ [] =
    ap (λ m. trees_at m head) stays
    ∙ ap (trees_at c.args.groups.now) (c.as_slice-in-None.ensures.value ∙ sym c.as_slice.ensures.value)
    ∙ ap (λ o. option_map_or (λ trees. trees.items) o []) (sym c.in-None.ensures.value) in
    let is : after.items ≡ trees_at old head ++ tree ∷ [] =
    c.in_ok-push-in-None.ensures.items ∙ ap (λ l. l ++ tree ∷ []) (c.new-trees.ensures.items ∙ sym none) in
    trees_added old new head tree after changed is q
    ∙ (λ i. trees_at (stays i) q ++ trees_under q ((c.as_slice-in-None.ensures.value i, tree) ∷ []))

pub returns-in_ok-insert-in-None-clause-heads : goal.returns-in_ok-insert-in-None-clause-heads
returns-in_ok-insert-in-None-clause-heads c = λ q.
    let head = c.as_slice-in-None.result.now in
    let tree = c.args.entry.now.tree in
    let old = c.get_mut.follows.lender-at-none in
    let stays : old ≡ c.args.groups.now = c.get_mut.follows.holds-at-none in
    let after = c.push-in-None.new.self in
    let new = c.insert.new.self in
    let changed : (p : List ℕ) → group_of new p ≡ update bytes_eq (group_of old) head (Some after) p =
    btree_map_updates_str head old new (Some after) c.in_ok-insert-in-None.ensures.updates in
    let none : trees_at old head ≡ [] =
    ap (λ m. trees_at m head) stays
    ∙ ap (trees_at c.args.groups.now) (c.as_slice-in-None.ensures.value ∙ sym c.as_slice.ensures.value)
    ∙ ap (λ o. option_map_or (λ trees. trees.items) o []) (sym c.in-None.ensures.value) in
    let is : after.items ≡ trees_at old head ++ tree ∷ [] =
    c.in_ok-push-in-None.ensures.items ∙ ap (λ l. l ++ tree ∷ []) (c.new-trees.ensures.items ∙ sym none) in
    heads_added old new head tree after changed is q
    ∙ (λ i. has_group (stays i) q || bytes_eq q (c.as_slice-in-None.ensures.value i))
