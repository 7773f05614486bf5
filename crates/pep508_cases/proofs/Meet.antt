-- Pairs of trees that hold together are those of the leaves of both diagrams.
use Rattle.std.proofs.Common.{◌≡◌, ◌∙◌, ℕ, zero, suc, ◌+◌, ◌<◌, ◌≤◌, ◌==◌, ◌||◌, ◌&&◌, Bool, true, false, List, [], ◌∷◌}
use Rattle.std.proofs.Common.{length, get_or, refl, ap, sym, subst, inl, inr, arith, true≢false}
use Rattle.std.proofs.lemmas.Bool.{cases_Bool}
use Rattle.std.proofs.lemmas.Bool.Decides.{nat_tests}
use Rattle.std.proofs.lemmas.List.Folds.{list_any_at}
use Rattle.std.specs.List.{list_any, AllByRecursion}
use Rattle.std.specs.List.Sorted.{IsStrictlySortedBy}
use Rattle.std.specs.Ordering.{is_eq}
use Rattle.pep508_tree.specs.Tree.{Tree}
use Rattle.pep508_diagram.specs.Question.{Valuation}
use Rattle.pep508_tree.specs.Meaning.{NodeRecord, holds}
use Rattle.pep508_cases.specs.Cases.{Marks, marks_of}
use Rattle.pep508_cases.specs.Sets.{places_from, places_of}
use Rattle.pep508_leaf_diagram.specs.declared.merge.Merged.{Merged}
use Rattle.pep508_leaf_diagram.specs.Pairing.{leaf_in}
use Rattle.pep508_leaf_diagram.specs.Walks.{AreMerged}
use Rattle.pep508_leaf_diagram.proofs.Leaves.{leaf_is_below, stands_made}
use Rattle.pep508_cases.specs.declared.set_diagram.Marked.{Marked}
use Rattle.pep508_cases.specs.Marked.{set_at, IsMarked, AreShort}
use Rattle.pep508_cases.specs.Pairs.{pair_cmp, is_listed, has_place, is_of_leaves, tree_or_never, AreMeeting}
use Rattle.pep508_cases.proofs.SetTrees.{never_holds}
use Rattle.pep508_cases.proofs.Marking.{short_at}
use Rattle.pep508_cases.proofs.Listing.{eq_pair}

-- ---- the members of a set

none_before : (at place : ℕ) (marks : Marks) → place < at → has_place (places_from at marks) place ≡ false
none_before at place [] less = refl
none_before at place (true ∷ marks) less =
    let other : (at == place) ≡ false = grind (arith, nat_tests, less) in
    ap (λ b. b || has_place (places_from (suc at) marks) place) other
    ∙ none_before (suc at) place marks (omega (arith, less))
none_before at place (false ∷ marks) less = none_before (suc at) place marks (omega (arith, less))

member_from : (at place : ℕ) (marks : Marks) →
    has_place (places_from at marks) (at + place) ≡ get_or marks place false
member_from at place [] = refl
member_from at zero (true ∷ marks) =
    let same : (at == at + 0) ≡ true = grind (arith, nat_tests) in
    ap (λ b. b || has_place (places_from (suc at) marks) (at + 0)) same
member_from at (suc place) (true ∷ marks) =
    let other : (at == at + suc place) ≡ false = grind (arith, nat_tests) in
    ap (λ b. b || has_place (places_from (suc at) marks) (at + suc place)) other
    ∙ ap (has_place (places_from (suc at) marks)) (omega arith) ∙ member_from (suc at) place marks
member_from at zero (false ∷ marks) = none_before (suc at) (at + 0) marks (omega arith)
member_from at (suc place) (false ∷ marks) =
    ap (has_place (places_from (suc at) marks)) (omega arith) ∙ member_from (suc at) place marks

mark_at : (nodes : List NodeRecord) (trees : List Tree) (v : Valuation) (place : ℕ) →
    get_or (marks_of nodes trees v) place false ≡ holds nodes (tree_or_never trees place) v
mark_at nodes [] v place = sym (never_holds nodes v)
mark_at nodes (tree ∷ trees) v zero = refl
mark_at nodes (tree ∷ trees) v (suc place) = mark_at nodes trees v place

-- a tree's place is in the set of those that hold where it does
member_holds : (nodes : List NodeRecord) (trees : List Tree) (v : Valuation) (set : Marks) (place : ℕ) →
    set ≡ marks_of nodes trees v → has_place (places_of set) place ≡ holds nodes (tree_or_never trees place) v
member_holds nodes trees v set place is =
    let here : place ≡ 0 + place = omega arith in
    (λ i. has_place (places_of (is i)) (here i)) ∙ member_from 0 place (marks_of nodes trees v)
    ∙ mark_at nodes trees v place

inside : (at place : ℕ) (marks : Marks) → has_place (places_from at marks) place ≡ true → place < at + length marks
inside at place [] is = absurd (true≢false (sym is))
inside at place (true ∷ marks) is = elim (cases_Bool (at == place)) [
  | inl e ↦ grind (arith, nat_tests, e)
  | inr e ↦
      let later = inside (suc at) place marks
      (sym (ap (λ b. b || has_place (places_from (suc at) marks) place) e) ∙ is) in
      omega (arith, later)
]
inside at place (false ∷ marks) is = let later = inside (suc at) place marks is in omega (arith, later)

-- ---- listed pairs

or_true : (b : Bool) → (b || true) ≡ true
or_true true = refl
or_true false = refl

halves : (a b : Bool) → (a && b) ≡ true → (a ≡ true) × (b ≡ true)
halves true b e = (refl, e)
halves false b e = absurd (true≢false (sym e))

same_number : (n : ℕ) → (n == n) ≡ true
same_number n = grind (arith, nat_tests)

pub eq_itself : (pair : ℕ × ℕ) → is_eq (pair_cmp pair pair) ≡ true
eq_itself pair = eq_pair pair pair ∙ (λ i. same_number pair.0 i && same_number pair.1 i)

each_listed : (P : ℕ × ℕ → Type 0) (pairs : List (ℕ × ℕ)) → ((pair : ℕ × ℕ) → is_listed pairs pair ≡ true → P pair) →
    AllByRecursion P pairs
each_listed P [] each = tt
each_listed P (x ∷ pairs) each = (
  each x (ap (λ b. b || is_listed pairs x) (eq_itself x)),
  each_listed P pairs (λ pair is. each pair (ap (λ b. is_eq (pair_cmp pair x) || b) is ∙ or_true (is_eq (pair_cmp pair x)))),
)

any_gives : {X : Type 0} (test : X → Bool) (Q : Type 0) (xs : List X) → list_any test xs ≡ true →
    ((x : X) → test x ≡ true → Q) → Q
any_gives test Q [] is gives = absurd (true≢false (sym is))
any_gives test Q (x ∷ xs) is gives = elim (cases_Bool (test x)) [
  | inl e ↦ gives x e
  | inr e ↦ any_gives test Q xs (sym (ap (λ b. b || list_any test xs) e) ∙ is) gives
]

none_at : {X : Type 0} (test : X → Bool) (xs : List X) (i : ℕ) (x : X) → i < length xs → list_any test xs ≡ false →
    test (get_or xs i x) ≡ false
none_at test xs i x less none = elim (cases_Bool (test (get_or xs i x))) [
  | inl e ↦ absurd (true≢false (sym (list_any_at test xs i x less e) ∙ none))
  | inr e ↦ e
]

-- ---- the pairs of the leaves

pub pairs_meet : (nodes : List NodeRecord) (left right : List Tree) (sets others : List Marks)
    (leaves pairs : List (ℕ × ℕ)) (at : Valuation → ℕ) → ((v : Valuation) → at v < length leaves) →
    ((v : Valuation) → set_at sets (get_or leaves (at v) (0, 0)).0 ≡ marks_of nodes left v) →
    ((v : Valuation) → set_at others (get_or leaves (at v) (0, 0)).1 ≡ marks_of nodes right v) →
    AllByRecursion (λ set. length set ≤ length left) sets → AllByRecursion (λ set. length set ≤ length right) others →
    IsStrictlySortedBy pair_cmp pairs →
    ((pair : ℕ × ℕ) → is_listed pairs pair ≡ list_any (is_of_leaves sets others pair) leaves) →
    AreMeeting nodes left right pairs
pairs_meet nodes left right sets others leaves pairs at below first second short short' rising listed = record {
  rising = rising;
  within = each_listed (λ pair. (pair.0 < length left) × (pair.1 < length right)) pairs (λ pair is.
      any_gives (is_of_leaves sets others pair) ((pair.0 < length left) × (pair.1 < length right)) leaves
      (sym (listed pair) ∙ is) (λ leaf here.
      let both = halves (has_place (places_of (set_at sets leaf.0)) pair.0)
      (has_place (places_of (set_at others leaf.1)) pair.1) here in
      let one = inside 0 pair.0 (set_at sets leaf.0) both.0 in
      let two = inside 0 pair.1 (set_at others leaf.1) both.1 in
      let few = short_at (length left) sets short leaf.0 in
      let few' = short_at (length right) others short' leaf.1 in
      (omega (arith, one, few), omega (arith, two, few'))));
  others = λ pair none v.
      let leaf = get_or leaves (at v) (0, 0) in
      let one = member_holds nodes left v (set_at sets leaf.0) pair.0 (first v) in
      let two = member_holds nodes right v (set_at others leaf.1) pair.1 (second v) in
      (λ i. sym one i && sym two i)
      ∙ none_at (is_of_leaves sets others pair) leaves (at v) (0, 0) (below v) (sym (listed pair) ∙ none);
}

-- ---- of two diagrams that are merged

pub merged_meet : (nodes : List NodeRecord) (left right : List Tree) (a b : Marked) (merged : Merged)
    (lent pairs : List (ℕ × ℕ)) → IsMarked nodes left a → IsMarked nodes right b →
    AreMerged nodes a.diagram b.diagram merged → lent ≡ merged.leaves.items → AreShort a → AreShort b →
    a.count ≡ length left → b.count ≡ length right → IsStrictlySortedBy pair_cmp pairs →
    ((pair : ℕ × ℕ) → is_listed pairs pair ≡ list_any (is_of_leaves a.sets.items b.sets.items pair) lent) →
    AreMeeting nodes left right pairs
merged_meet nodes left right a b merged lent pairs ours theirs are same short short' count count' rising listed =
    let d = merged.diagram in
    let leaves = merged.leaves.items in
    let at : Valuation → ℕ = λ v. leaf_in nodes d d.root v in
    pairs_meet nodes left right a.sets.items b.sets.items leaves pairs at
    (λ v.
    let below = leaf_is_below nodes d.leaves d.nodes.items are.graph v d.root
    (stands_made nodes d.leaves (length d.nodes.items) d.root are.root) in
    omega (arith, below, are.count))
    (λ v. ap (λ leaf. set_at a.sets.items leaf.0) (are.leaf v) ∙ ours.marks v)
    (λ v. ap (λ leaf. set_at b.sets.items leaf.1) (are.leaf v) ∙ theirs.marks v)
    (subst (λ n. AllByRecursion (λ set. length set ≤ n) a.sets.items) count short)
    (subst (λ n. AllByRecursion (λ set. length set ≤ n) b.sets.items) count' short') rising
    (λ pair. listed pair ∙ ap (list_any (is_of_leaves a.sets.items b.sets.items pair)) same)
