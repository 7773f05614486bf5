-- One node after another, the highest places first.
use Rattle.std.proofs.Common.{◌≡◌, ℕ, ◌+◌, ◌<◌, ◌||◌, suc, Bool, true, false, List, [], ◌∷◌, ◌++◌, map, refl}
use Rattle.std.proofs.Common.{ap, sym, subst, ◌∙◌, arith, Ordering, nat_cmp}
use Rattle.std.specs.declared.cmp.Ordering.TheVariants.{Less, Equal, Greater}
use Rattle.std.specs.Prelude.{IfSome}
use Rattle.std.specs.Cmp.{ranks}
use Rattle.std.specs.Ordering.{MatchOrdering}
use Rattle.std.specs.List.{AllByRecursion, All, list_any}
use Rattle.std.proofs.lemmas.List.Folds.{list_any-append}
use Rattle.pep508_diagram.specs.declared.branch.Branch.{Branch}
use Rattle.pep508_diagram.specs.Branches.{AllBranches}
use Rattle.pep508_diagram.specs.Question.{Question}
use Rattle.pep508_tree.specs.declared.root.TreeNode.{TreeNode}
use Rattle.pep508_tree.specs.declared.root.TreeNode.TheVariants as lent
use Rattle.pep508_tree.specs.Tree.{Tree, negation}
use Rattle.pep508_tree.specs.Meaning.{NodeRecord, Versions, Texts, diagram_of, IsTree}
use Rattle.pep508_tree.specs.Nodes.{AllChildren, AreSound, signed, turned_branch}
use Rattle.pep508_tree.specs.Roots.{root_of, shown, IfConstant, IsConstant, IsRoot}
use Rattle.pep508_questions.specs.declared.questions.Asked.{Asked}
use Rattle.pep508_questions.specs.Asks.{asked_by, has_quote, is_of_deprecated_key, is_other_bound}
use Rattle.pep508_questions.specs.Looked.{nothing, either, asked_among, lent_questions, lent_children, IsLeft}
use Rattle.pep508_questions.specs.Looked.{tree_asks, asked_left, with_trees, Looked}
use Rattle.pep508_questions.proofs.Asking.{lent_asks}
use Rattle.pep508_questions.proofs.Putting.{with_all, asks_with}
use Rattle.pep508_questions.proofs.Tests.{or_false, or_assoc, or_swap}

pub asked_same : (a b : Asked) → a.single_quote ≡ b.single_quote → a.deprecated_key ≡ b.deprecated_key →
    a.other_bound ≡ b.other_bound → a ≡ b
asked_same a b quote key bound = λ i. record {
  single_quote = quote i;
  deprecated_key = key i;
  other_bound = bound i;
}

-- ---- what stands in a node

module _ (P : Tree → Type 0) where
  of_branches : {T : Type 0} (first : Tree) (later : List (Branch T Tree)) → AllBranches P first later →
      AllByRecursion P (first ∷ map (λ branch. branch.child) later)
  of_branches first [] all = (all, tt)
  of_branches first (branch ∷ later) all = (all.0, of_branches branch.child later all.1)

  module _ (back : (c : Tree) → P (negation c) → P c) where
    unsigned : {T : Type 0} (first : Tree) (later : List (Branch T Tree)) →
        AllBranches P (negation first) (map turned_branch later) → AllBranches P first later
    unsigned first [] all = back first all
    unsigned first (branch ∷ later) all = (back first all.0, unsigned branch.child later all.1)

    versions_all : (turns : Bool) (key : _) (first : Tree) (later : List (Branch _ Tree)) →
        AllChildren P (signed turns (Versions key first later)) → AllBranches P first later
    versions_all true key first later all = unsigned first later all
    versions_all false key first later all = all

    texts_all : (turns : Bool) (key : _) (first : Tree) (later : List (Branch _ Tree)) →
        AllChildren P (signed turns (Texts key first later)) → AllBranches P first later
    texts_all true key first later all = unsigned first later all
    texts_all false key first later all = all

    lent_all : (node : TreeNode) → IfSome (shown node) (AllChildren P) → AllByRecursion P (lent_children node)
    lent_all (lent.Constant truth) all = tt
    lent_all (lent.Versions key children) all =
        of_branches children.first children.later.now
        (versions_all children.negated key children.first children.later.now all)
    lent_all (lent.Texts key children) all =
        of_branches children.first children.later.now
        (texts_all children.negated key children.first children.later.now all)
    lent_all (lent.Flagged flag set unset) all = (all.0, (all.1, tt))

made_of : (nodes : List NodeRecord) (tree : Tree) (node : TreeNode) →
    IfSome (shown node) (IsRoot nodes tree) →
    IfSome (shown node) (AllChildren (IsTree nodes))
made_of nodes tree (lent.Constant truth) root = tt
made_of nodes tree (lent.Versions key children) root = root.made
made_of nodes tree (lent.Texts key children) root = root.made
made_of nodes tree (lent.Flagged flag set unset) root = root.made

falls_of : (nodes : List NodeRecord) (tree : Tree) (node : TreeNode) →
    IfSome (shown node) (IsRoot nodes tree) →
    IfSome (shown node) (AllChildren (λ child. child.place < tree.place))
falls_of nodes tree (lent.Constant truth) root = tt
falls_of nodes tree (lent.Versions key children) root = root.falls
falls_of nodes tree (lent.Texts key children) root = root.falls
falls_of nodes tree (lent.Flagged flag set unset) root = root.falls

all_to : {C : Type 0} {P Q : C → Type 0} → ((x : C) → P x → Q x) → (xs : List C) → AllByRecursion P xs →
    AllByRecursion Q xs
all_to f [] all = tt
all_to f (x ∷ xs) all = (f x all.0, all_to f xs all.1)

-- ---- a node is looked at

module _ (nodes : List NodeRecord) (sound : AreSound nodes) (tree : Tree) (made : IsTree nodes tree)
    (node : TreeNode) (is : shown node ≡ root_of nodes tree)
    (constant : IfConstant node (IsConstant nodes tree))
    (root : IfSome (shown node) (IsRoot nodes tree)) where
  children_made : AllByRecursion (IsTree nodes) (lent_children node)
  children_made = lent_all (IsTree nodes) (λ c h. h) node (made_of nodes tree node root)

  children_fall : AllByRecursion (λ c. c.place < tree.place) (lent_children node)
  children_fall = lent_all (λ c. c.place < tree.place) (λ c h. h) node (falls_of nodes tree node root)

  one_asked : (test : Question → Bool) (old : List (ℕ × Tree)) → AllByRecursion (IsLeft nodes) old →
      (tree_asks nodes test tree || list_any (λ entry. tree_asks nodes test entry.1) old)
      ≡ (list_any test (lent_questions node)
      || list_any (λ entry. tree_asks nodes test entry.1) (with_trees old (lent_children node)))
  one_asked test old all =
      let rest = list_any (λ (entry : ℕ × Tree). tree_asks nodes test entry.1) old in
      let own = list_any test (lent_questions node) in
      let below = list_any (tree_asks nodes test) (lent_children node) in
      ap (λ b. b || rest) (lent_asks test nodes sound tree made node is constant)
      ∙ sym (or_assoc own below rest)
      ∙ ap (λ b. own || b) (sym (asks_with nodes test old (lent_children node) children_made all))

  pub looked : (old new : List (ℕ × Tree)) (asked : Asked) → new ≡ with_trees old (lent_children node) →
      asked ≡ asked_among (lent_questions node) → Looked nodes tree old new asked
  looked old new asked put own =
      subst (λ es. Looked nodes tree old es asked) (sym put)
      (subst (Looked nodes tree old (with_trees old (lent_children node))) (sym own) (record {
        left = λ all.
            with_all (IsLeft nodes) old (lent_children node)
            (all_to (λ c h. (h, refl)) (lent_children node) children_made) all;
        below = λ all.
            with_all (λ entry. entry.0 < tree.place) old (lent_children node) children_fall all;
        asked_is = λ all.
            asked_same _ _ (one_asked has_quote old all) (one_asked is_of_deprecated_key old all)
            (one_asked is_other_bound old all);
      }))

-- ---- the walk

-- what is left to look at of a tree: with what was asked so far it asks what the tree does
pub record AreLeft (nodes : List NodeRecord) (tree : Tree) (entries : List (ℕ × Tree)) (asked : Asked)
    : Type 0 where
  pub left : AllByRecursion (IsLeft nodes) entries
  pub asked_is : asked_by (diagram_of nodes tree) ≡ either asked (asked_left nodes entries)

pub below_by_index : (bound : ℕ) (es : List (ℕ × Tree)) →
    All (λ k. nat_cmp k bound ≡ Less) (map (λ e. e.0) es) → AllByRecursion (λ e. e.0 < bound) es
below_by_index bound [] all = tt
below_by_index bound (e ∷ es) all = (
  less_by (nat_cmp e.0 bound) (ranks e.0 bound) (all 0 0 (omega arith)),
  below_by_index bound es (λ k d inside. all (suc k) d (omega (arith, inside))),
)
  where
    less_by : (o : Ordering) → MatchOrdering o (e.0 < bound) (e.0 ≡ bound) (bound < e.0) → o ≡ Less →
        e.0 < bound
    less_by Less rank is = rank
    less_by Equal rank is = absurd (cc)
    less_by Greater rank is = absurd (cc)

-- one more than the highest place
abbrev pub top : List (ℕ × Tree) → ℕ
top [] = 0
top (e ∷ []) = e.0 + 1
top (e ∷ f ∷ es) = top (f ∷ es)

top_last : (es : List (ℕ × Tree)) (e : ℕ × Tree) → top (es ++ e ∷ []) ≡ e.0 + 1
top_last [] e = refl
top_last (f ∷ []) e = refl
top_last (f ∷ g ∷ es) e = top_last (g ∷ es) e

top_below : (es : List (ℕ × Tree)) (bound : ℕ) → AllByRecursion (λ e. e.0 < bound) es → top es < bound + 1
top_below [] bound all = omega arith
top_below (e ∷ []) bound all = let here = all.0 in omega arith
top_below (e ∷ f ∷ es) bound all = top_below (f ∷ es) bound all.1

before_last : (P : ℕ × Tree → Type 0) (es : List (ℕ × Tree)) (e : ℕ × Tree) →
    AllByRecursion P (es ++ e ∷ []) → AllByRecursion P es × P e
before_last P [] e all = (tt, all.0)
before_last P (f ∷ es) e all = let later = before_last P es e all.1 in ((all.0, later.0), later.1)

either_on : (a b c : Asked) → either a (either b c) ≡ either (either a b) c
either_on a b c =
    asked_same _ _ (or_assoc a.single_quote b.single_quote c.single_quote)
    (or_assoc a.deprecated_key b.deprecated_key c.deprecated_key)
    (or_assoc a.other_bound b.other_bound c.other_bound)

pub first_left : (nodes : List NodeRecord) (tree : Tree) → IsTree nodes tree →
    AreLeft nodes tree ((tree.place, tree) ∷ []) nothing
first_left nodes tree made = record {
  left = ((made, refl), tt);
  asked_is = asked_same _ _ (alone has_quote) (alone is_of_deprecated_key) (alone is_other_bound);
}
  where
    alone : (test : Question → Bool) → tree_asks nodes test tree ≡ (tree_asks nodes test tree || false)
    alone test = sym (or_false (tree_asks nodes test tree))

module _ (nodes : List NodeRecord) (tree : Tree) (whole left : List (ℕ × Tree)) (e : ℕ × Tree)
    (last : whole ≡ left ++ e ∷ []) (asked : Asked) (are : AreLeft nodes tree whole asked) where
  made_parts : AllByRecursion (IsLeft nodes) left × IsLeft nodes e
  made_parts = before_last (IsLeft nodes) left e (subst (AllByRecursion (IsLeft nodes)) last are.left)

  pub last_made : IsTree nodes e.1
  last_made = made_parts.1.0

  last_asks : (test : Question → Bool) → list_any (λ entry. tree_asks nodes test entry.1) (left ++ e ∷ [])
      ≡ (tree_asks nodes test e.1 || list_any (λ entry. tree_asks nodes test entry.1) left)
  last_asks test =
      let asks = λ (entry : ℕ × Tree). tree_asks nodes test entry.1 in
      list_any-append asks left (e ∷ [])
      ∙ or_swap (list_any asks left) (asks e) false
      ∙ ap (λ b. asks e || b) (or_false (list_any asks left))

  last_asked : asked_left nodes whole ≡ either (asked_by (diagram_of nodes e.1)) (asked_left nodes left)
  last_asked =
      ap (asked_left nodes) last
      ∙ asked_same _ _ (last_asks has_quote) (last_asks is_of_deprecated_key) (last_asks is_other_bound)

  pub left_on : (new : List (ℕ × Tree)) (own : Asked) → Looked nodes e.1 left new own →
      AreLeft nodes tree new (either asked own)
  left_on new own looked = record {
    left = looked.left made_parts.0;
    asked_is = are.asked_is
        ∙ ap (either asked) (last_asked ∙ looked.asked_is made_parts.0)
        ∙ either_on asked own (asked_left nodes new);
  }

  pub left_falls : AllByRecursion (λ entry. entry.0 < e.0) left → (new : List (ℕ × Tree)) (own : Asked) →
      Looked nodes e.1 left new own → top new < top whole
  left_falls below new own looked =
      let place = made_parts.1.1 in
      let under : AllByRecursion (λ (entry : ℕ × Tree). entry.0 < e.1.place) left =
      subst (λ (k : ℕ). AllByRecursion (λ (entry : ℕ × Tree). entry.0 < k) left) place below in
      let less = top_below new e.1.place (looked.below under) in
      let end = top_last left e in
      let is = ap top last in
      omega (arith, less, end, is, place)

pub all_left : (nodes : List NodeRecord) (tree : Tree) (left : List (ℕ × Tree)) (asked : Asked) →
    left ≡ [] → AreLeft nodes tree left asked → asked ≡ asked_by (diagram_of nodes tree)
all_left nodes tree left asked none are =
    sym (are.asked_is ∙ ap (λ es. either asked (asked_left nodes es)) none
    ∙ asked_same _ _ (or_false asked.single_quote) (or_false asked.deprecated_key)
    (or_false asked.other_bound))
