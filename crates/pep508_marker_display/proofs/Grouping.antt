-- Each tree once, as it is found from left to right.
use Rattle.std.proofs.Common.{◌≡◌, ℕ, ◌+◌, ◌<◌, length, drop, get_or, Bool, true, false, not, ◌||◌, cond}
use Rattle.std.proofs.Common.{List, [], ◌∷◌, ◌++◌, map, inl, inr, refl, sym, ap, ◌∙◌, append_assoc}
use Rattle.std.proofs.Common.{true≢false}
use Rattle.std.proofs.lemmas.Bool.{cases_Bool}
use Rattle.std.proofs.lemmas.List.{drop_more}
use Rattle.std.specs.List.{filter, list_any}
use Rattle.std.proofs.lemmas.List.Folds.{list_any-append}
use Rattle.pep508_diagram.specs.declared.branch.Branch.{Branch}
use Rattle.pep508_marker_text_laws.specs.Groups.{firsts, standing}
use Rattle.pep508_tree.specs.Tree.{Tree}
use Rattle.pep508_tree.proofs.Same.{same_trees}
use Rattle.pep508_marker_display.specs.Trees.{same_tree, with_tree}

pub same_is_one : (a b : Tree) → same_tree a b ≡ true → a ≡ b
same_is_one a b e = (same_trees a b).0 e

pub one_is_same : (a b : Tree) → a ≡ b → same_tree a b ≡ true
one_is_same a b e = (same_trees a b).1 e

-- the test of a tree that is none of the trees
abbrev pub is_fresh : List Tree → Tree → Bool
is_fresh trees tree = not (list_any (λ other. same_tree other tree) trees)

-- what is still found behind trees that were
abbrev pub fresh : List Tree → List Tree → List Tree
fresh trees later = filter (is_fresh trees) (firsts same_tree later)

filter_same : {A : Type 0} (p q : A → Bool) → ((x : A) → p x ≡ q x) → (xs : List A) → filter p xs ≡ filter q xs
filter_same p q same xs = λ i. filter (λ x. same x i) xs

-- a test behind one that it implies
filter_implied : {A : Type 0} (p q : A → Bool) → ((x : A) → p x ≡ true → q x ≡ true) → (xs : List A) →
    filter p (filter q xs) ≡ filter p xs
filter_implied p q implied [] = refl
filter_implied p q implied (x ∷ xs) = elim (cases_Bool (q x)) [
  | inl holds ↦ rw holds (ap (λ rest. cond (p x) (x ∷ rest) rest) (filter_implied p q implied xs))
  | inr fails ↦ elim (cases_Bool (p x)) [
    | inl both ↦ absurd (true≢false (sym (implied x both) ∙ fails))
    | inr neither ↦ rw (fails, neither) (filter_implied p q implied xs)
  ]
]

filter_both : {A : Type 0} (p q r : A → Bool) → ((x : A) → r x ≡ cond (q x) (p x) false) → (xs : List A) →
    filter p (filter q xs) ≡ filter r xs
filter_both p q r is [] = refl
filter_both p q r is (x ∷ xs) = elim (cases_Bool (q x)) [
  | inl holds ↦
      let same : r x ≡ p x = is x ∙ ap (λ b. cond b (p x) false) holds in
      rw (holds, same) (ap (λ rest. cond (p x) (x ∷ rest) rest) (filter_both p q r is xs))
  | inr fails ↦
      let same : r x ≡ false = is x ∙ ap (λ b. cond b (p x) false) fails in
      rw (fails, same) (filter_both p q r is xs)
]

-- what is found behind a tree that is none of those found before
abbrev others : List Tree → Tree → List Tree → List Tree
others trees tree later = filter (is_fresh trees) (filter (λ x. not (same_tree tree x)) (firsts same_tree later))

-- a tree that was found already
found_before : (trees : List Tree) (tree : Tree) (later : List Tree) →
    list_any (λ other. same_tree other tree) trees ≡ true → fresh trees (tree ∷ later) ≡ fresh trees later
found_before trees tree later e =
    ap (λ b. cond b (tree ∷ others trees tree later) (others trees tree later)) (ap not e)
    ∙ filter_implied (is_fresh trees) (λ x. not (same_tree tree x)) apart (firsts same_tree later)
  where
    apart : (x : Tree) → is_fresh trees x ≡ true → not (same_tree tree x) ≡ true
    apart x h = elim (cases_Bool (same_tree tree x)) [
      | inl one ↦
          let found : list_any (λ other. same_tree other x) trees ≡ true =
          ap (λ t. list_any (λ other. same_tree other t) trees) (sym (same_is_one tree x one)) ∙ e in
          absurd (true≢false (sym h ∙ ap not found))
      | inr differs ↦ ap not differs
    ]

found_again : (trees : List Tree) (tree : Tree) (later : List Tree) →
    list_any (λ other. same_tree other tree) trees ≡ true →
    trees ++ fresh trees (tree ∷ later) ≡ trees ++ fresh trees later
found_again trees tree later e = ap (λ rest. trees ++ rest) (found_before trees tree later e)

-- one that was not
found_now : (trees : List Tree) (tree : Tree) (later : List Tree) →
    list_any (λ other. same_tree other tree) trees ≡ false →
    trees ++ fresh trees (tree ∷ later) ≡ (trees ++ tree ∷ []) ++ fresh (trees ++ tree ∷ []) later
found_now trees tree later e =
    ap (λ b. trees ++ cond b (tree ∷ others trees tree later) (others trees tree later)) (ap not e)
    ∙ ap (λ rest. trees ++ tree ∷ rest)
    (filter_both (is_fresh trees) (λ x. not (same_tree tree x)) (is_fresh (trees ++ tree ∷ [])) both (firsts same_tree later))
    ∙ sym (append_assoc trees (tree ∷ []) (fresh (trees ++ tree ∷ []) later))
  where
    either : (a b : Bool) → not (a || (b || false)) ≡ cond (not b) (not a) false
    either true true = refl
    either true false = refl
    either false true = refl
    either false false = refl

    both : (x : Tree) → is_fresh (trees ++ tree ∷ []) x ≡ cond (not (same_tree tree x)) (is_fresh trees x) false
    both x =
        ap not (list_any-append (λ other. same_tree other x) trees (tree ∷ []))
        ∙ either (list_any (λ other. same_tree other x) trees) (same_tree tree x)

-- the first of all
pub found_first : {T : Type 0} (first : Tree) (later : List (Branch T Tree)) →
    (first ∷ []) ++ fresh (first ∷ []) (map (λ branch. branch.child) later)
    ≡ firsts same_tree (standing first later)
found_first first later =
    ap (λ rest. first ∷ rest)
    (filter_same (is_fresh (first ∷ [])) (λ x. not (same_tree first x)) (λ x. ap not (or_false (same_tree first x)))
    (firsts same_tree (map (λ branch. branch.child) later)))
  where
    or_false : (b : Bool) → (b || false) ≡ b
    or_false true = refl
    or_false false = refl

-- one more branch
pub found_at : {T : Type 0} (trees now : List Tree) (later : List (Branch T Tree)) (i : ℕ) (branch : Branch T Tree)
    (whole : List Tree) → i < length later → branch ≡ get_or later i branch →
    trees ++ fresh trees (map (λ branch. branch.child) (drop i later)) ≡ whole →
    now ≡ with_tree trees branch.child →
    now ++ fresh now (map (λ branch. branch.child) (drop (i + 1) later)) ≡ whole
found_at trees now later i branch whole inside at before is =
    let rest = map (λ branch. branch.child) (drop (i + 1) later) in
    let next : drop i later ≡ branch ∷ drop (i + 1) later =
    drop_more later i branch inside ∙ ap (λ b. b ∷ drop (i + 1) later) (sym at) in
    let found : trees ++ fresh trees (branch.child ∷ rest) ≡ whole =
    ap (λ bs. trees ++ fresh trees (map (λ branch. branch.child) bs)) (sym next) ∙ before in
    ap (λ ts. ts ++ fresh ts rest) is ∙ elim (cases_Bool (list_any (λ other. same_tree other branch.child) trees)) [
      | inl e ↦
          ap (λ b. cond b trees (trees ++ branch.child ∷ []) ++ fresh (cond b trees (trees ++ branch.child ∷ [])) rest) e
          ∙ sym (found_again trees branch.child rest e) ∙ found
      | inr e ↦
          ap (λ b. cond b trees (trees ++ branch.child ∷ []) ++ fresh (cond b trees (trees ++ branch.child ∷ [])) rest) e
          ∙ sym (found_now trees branch.child rest e) ∙ found
    ]
