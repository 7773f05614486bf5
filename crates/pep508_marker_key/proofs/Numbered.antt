-- Numbers of trees: the last one counts.
use Rattle.std.proofs.Common.{◌≡◌, ℕ, suc, ◌+◌, Bool, cond, List, [], ◌∷◌, ◌++◌, Option, Some, None, length}
use Rattle.std.proofs.Common.{ap, ◌∙◌, sym, arith}
use Rattle.std.specs.Ordering.{is_eq}
use Rattle.std.specs.BTreeMap.{BTreeMap, get}
use Rattle.pep508_tree.specs.Tree.{Tree}
use Rattle.pep508_marker_key.specs.Numbering.{name_cmp, number_in, AreNumbers}

pub last_number : (n : ℕ) (found : Option ℕ) (trees : List Tree) (tree : Tree) (name : ℕ × Bool) →
    number_in n found (trees ++ tree ∷ []) name
    ≡ cond (is_eq (name_cmp (tree.place, tree.negated) name)) (Some (n + length trees))
    (number_in n found trees name)
last_number n found [] tree name =
    ap (λ k. cond (is_eq (name_cmp (tree.place, tree.negated) name)) (Some k) found) (omega arith)
last_number n found (other ∷ trees) tree name =
    let next = cond (is_eq (name_cmp (other.place, other.negated) name)) (Some n) found in
    let same : (n + 1) + length trees ≡ n + suc (length trees) = omega arith in
    last_number (n + 1) next trees tree name
    ∙ ap (λ k. cond (is_eq (name_cmp (tree.place, tree.negated) name)) (Some k)
    (number_in (n + 1) next trees name)) same

pub numbers_on : (trees new_trees : List Tree) (tree : Tree) (places new : BTreeMap (ℕ × Bool) ℕ) (number : ℕ) →
    number ≡ length trees → new_trees ≡ trees ++ tree ∷ [] → AreNumbers trees places →
    ((name : ℕ × Bool) → get name_cmp new name
    ≡ cond (is_eq (name_cmp (tree.place, tree.negated) name)) (Some number) (get name_cmp places name)) →
    AreNumbers new_trees new
numbers_on trees new_trees tree places new number long more are put name =
    let old = number_in 0 None trees name in
    let test = is_eq (name_cmp (tree.place, tree.negated) name) in
    let last : number ≡ 0 + length trees = omega (arith, long) in
    put name
    ∙ ap (cond test (Some number)) (are name)
    ∙ ap (λ k. cond test (Some k) old) last
    ∙ sym (ap (λ ts. number_in 0 None ts name) more ∙ last_number 0 None trees tree name)
