-- One more tree under its bytes.
use Rattle.std.proofs.Common.{◌≡◌, ◌∙◌, ◌||◌, ℕ, Bool, true, false, cond, List, [], ◌∷◌, ◌++◌, map, Option, Some}
use Rattle.std.proofs.Common.{refl, sym, ap, append-nil, is_some, Bor, Vec}
use Rattle.std.proofs.lemmas.Cmp.{nat_list_eq_equiv}
use Rattle.std.specs.BTreeMap.{BTreeMap}
use Rattle.std.specs.Map.{update}
use Rattle.std.specs.Option.{option_map_or}
use Rattle.std.specs.Str.{bytes_eq}
use Rattle.pep508_tree.specs.Tree.{Tree}
use Rattle.reqtable_answer.specs.Groups.{group_of, has_group}
use Rattle.reqtable_answer.proofs.Tests.{same_bytes}
use Rattle.reqtable_key.specs.Entries.{trees_at, trees_under}

or_false : (a : Bool) → (a || false) ≡ a
or_false true = refl
or_false false = refl

or_true : (a : Bool) → true ≡ (a || true)
or_true true = refl
or_true false = refl

module _ {Y : Type 0} (old new : BTreeMap (Bor (List ℕ)) (Vec Tree Y)) (head : List ℕ) (tree : Tree) (after : Vec Tree Y)
    (changed : (p : List ℕ) → group_of new p ≡ update bytes_eq (group_of old) head (Some after) p)
    (is : after.items ≡ trees_at old head ++ tree ∷ []) where
  abbrev trees_in : Option (Vec Tree Y) → List Tree
  trees_in o = option_map_or (λ trees. trees.items) o []

  one_under : (q : List ℕ) (b : Bool) → bytes_eq q head ≡ b →
      trees_under q ((head, tree) ∷ []) ≡ cond b (tree ∷ []) []
  one_under q true e = ap (λ b. map (λ (x : List ℕ × Tree). x.1) (cond b ((head, tree) ∷ []) [])) e
  one_under q false e = ap (λ b. map (λ (x : List ℕ × Tree). x.1) (cond b ((head, tree) ∷ []) [])) e

  trees_by : (q : List ℕ) (b : Bool) → bytes_eq head q ≡ b →
      trees_in (cond b (Some after) (group_of old q)) ≡ trees_at old q ++ trees_under q ((head, tree) ∷ [])
  trees_by q true e =
      let same : head ≡ q = same_bytes head q e in
      is
      ∙ (λ i. trees_at old (same i) ++ tree ∷ [])
      ∙ ap (λ l. trees_at old q ++ l) (sym (one_under q true (nat_list_eq_equiv.symm q head ∙ e)))
  trees_by q false e =
      sym (append-nil (trees_at old q))
      ∙ ap (λ l. trees_at old q ++ l) (sym (one_under q false (nat_list_eq_equiv.symm q head ∙ e)))

  pub trees_added : (q : List ℕ) → trees_at new q ≡ trees_at old q ++ trees_under q ((head, tree) ∷ [])
  trees_added q =
      ap trees_in (changed q)
      ∙ trees_by q (bytes_eq head q) refl

  heads_by : (q : List ℕ) (b : Bool) → bytes_eq head q ≡ b →
      is_some (cond b (Some after) (group_of old q)) ≡ (has_group old q || bytes_eq q head)
  heads_by q true e =
      or_true (has_group old q) ∙ ap (λ b. has_group old q || b) (sym (nat_list_eq_equiv.symm q head ∙ e))
  heads_by q false e =
      sym (or_false (has_group old q)) ∙ ap (λ b. has_group old q || b) (sym (nat_list_eq_equiv.symm q head ∙ e))

  pub heads_added : (q : List ℕ) → has_group new q ≡ (has_group old q || bytes_eq q head)
  heads_added q = ap is_some (changed q) ∙ heads_by q (bytes_eq head q) refl
