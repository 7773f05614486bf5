-- Trees that are put among those that are left to look at.
use Rattle.std.proofs.Common.{◌≡◌, ℕ, ◌<◌, ◌||◌, Bool, List, [], ◌∷◌, refl, ap, subst, ◌∙◌, Ordering, nat_cmp}
use Rattle.std.specs.declared.cmp.Ordering.TheVariants.{Less, Equal, Greater}
use Rattle.std.specs.List.{AllByRecursion, list_any}
use Rattle.std.specs.Cmp.{ranks}
use Rattle.std.specs.Ordering.{MatchOrdering, match_ordering}
use Rattle.std.specs.BTreeMap.{insert_entry}
use Rattle.pep508_diagram.specs.Question.{Question}
use Rattle.pep508_tree.specs.Tree.{Tree}
use Rattle.pep508_tree.specs.Meaning.{NodeRecord, IsTree}
use Rattle.pep508_questions.specs.Looked.{IsLeft, tree_asks, with_trees}
use Rattle.pep508_questions.proofs.Asking.{same_place}
use Rattle.pep508_questions.proofs.Tests.{or_swap, or_twice, or_turned}

abbrev put : List (ℕ × Tree) → Tree → List (ℕ × Tree)
put entries tree = insert_entry nat_cmp entries tree.place tree

module _ (P : ℕ × Tree → Type 0) where
  put_by : (t : Tree) (e : ℕ × Tree) (es : List (ℕ × Tree)) (o : Ordering) →
      MatchOrdering o (t.place < e.0) (t.place ≡ e.0) (e.0 < t.place) → P (t.place, t) → P e →
      AllByRecursion P es → AllByRecursion P (put es t) →
      AllByRecursion P (match_ordering o ((t.place, t) ∷ e ∷ es) ((e.0, t) ∷ es) (e ∷ put es t))
  put_by t e es Less rank one here all later = (one, (here, all))
  put_by t e es Equal rank one here all later = (subst (λ k. P (k, t)) rank one, all)
  put_by t e es Greater rank one here all later = (here, later)

  put_all : (es : List (ℕ × Tree)) (t : Tree) → P (t.place, t) → AllByRecursion P es →
      AllByRecursion P (put es t)
  put_all [] t one all = (one, tt)
  put_all (e ∷ es) t one all =
      put_by t e es (nat_cmp t.place e.0) (ranks t.place e.0) one all.0 all.1 (put_all es t one all.1)

  pub with_all : (es : List (ℕ × Tree)) (ts : List Tree) → AllByRecursion (λ t. P (t.place, t)) ts →
      AllByRecursion P es → AllByRecursion P (with_trees es ts)
  with_all es [] each all = all
  with_all es (t ∷ ts) each all = with_all (put es t) ts each.1 (put_all es t each.0 all)

module _ (nodes : List NodeRecord) (test : Question → Bool) where
  abbrev asks : ℕ × Tree → Bool
  asks entry = tree_asks nodes test entry.1

  asks_by : (t : Tree) (e : ℕ × Tree) (es : List (ℕ × Tree)) (o : Ordering) →
      MatchOrdering o (t.place < e.0) (t.place ≡ e.0) (e.0 < t.place) → IsLeft nodes e →
      list_any asks (put es t) ≡ (tree_asks nodes test t || list_any asks es) →
      list_any asks (match_ordering o ((t.place, t) ∷ e ∷ es) ((e.0, t) ∷ es) (e ∷ put es t))
      ≡ (tree_asks nodes test t || (asks e || list_any asks es))
  asks_by t e es Less rank left later = refl
  asks_by t e es Equal rank left later =
      or_twice (tree_asks nodes test t) (list_any asks es)
      ∙ ap (λ b. tree_asks nodes test t || (b || list_any asks es))
      (same_place test nodes t e.1 (rank ∙ left.1))
  asks_by t e es Greater rank left later =
      ap (λ b. asks e || b) later ∙ or_swap (asks e) (tree_asks nodes test t) (list_any asks es)

  asks_put : (es : List (ℕ × Tree)) (t : Tree) → AllByRecursion (IsLeft nodes) es →
      list_any asks (put es t) ≡ (tree_asks nodes test t || list_any asks es)
  asks_put [] t all = refl
  asks_put (e ∷ es) t all =
      asks_by t e es (nat_cmp t.place e.0) (ranks t.place e.0) all.0 (asks_put es t all.1)

  -- what is left asks then what it asked, and what the trees do
  pub asks_with : (es : List (ℕ × Tree)) (ts : List Tree) → AllByRecursion (IsTree nodes) ts →
      AllByRecursion (IsLeft nodes) es →
      list_any asks (with_trees es ts) ≡ (list_any (tree_asks nodes test) ts || list_any asks es)
  asks_with es [] each all = refl
  asks_with es (t ∷ ts) each all =
      asks_with (put es t) ts each.1 (put_all (IsLeft nodes) es t (each.0, refl) all)
      ∙ ap (λ b. list_any (tree_asks nodes test) ts || b) (asks_put es t all)
      ∙ or_turned (list_any (tree_asks nodes test) ts) (tree_asks nodes test t) (list_any asks es)
