-- The walk: what is written, with what is left to write, is the key.
use Rattle.std.proofs.Common.{◌≡◌, ℕ, ◌+◌, ◌*◌, ◌<◌, List, [], ◌∷◌, ◌++◌, map, reverse, length, refl, sym, ap}
use Rattle.std.proofs.Common.{subst, ◌∙◌, arith, append_assoc}
use Rattle.std.specs.List.{AllByRecursion}
use Rattle.std.proofs.lemmas.List.{append-nil, map-append, reverse-append, length-append}
use Rattle.pep508_tree.specs.Tree.{Tree}
use Rattle.pep508_tree.specs.Meaning.{NodeRecord, diagram_of, IsTree}
use Rattle.pep508_marker_key.specs.declared.key_walk.Step.{Step}
use Rattle.pep508_marker_key.specs.declared.key_walk.Step.TheVariants as step
use Rattle.pep508_marker_key.specs.Key.{diagram_key}
use Rattle.pep508_marker_key.specs.Left.{item_of, items_of, IsStep, IsMade, bytes_left, items_bytes}

-- the steps are what is left to write of a tree's key, where these trees are numbered
pub record AreLeft (nodes : List NodeRecord) (tree : Tree) (key : List ℕ) (steps : List Step)
    (numbered : List Tree) : Type 0 where
  pub made : AllByRecursion (IsStep nodes) steps
  pub numbered_made : AllByRecursion (IsTree nodes) numbered
  pub key_is : key ++ bytes_left nodes numbered (items_of nodes steps) ≡ diagram_key (diagram_of nodes tree)

-- how much is left
abbrev pub amount : List NodeRecord → List Step → List Tree → ℕ
amount nodes steps numbered =
    3 * length (bytes_left nodes numbered (items_of nodes steps)) + length steps

module _ (nodes : List NodeRecord) (tree : Tree) where
  all_left : IsTree nodes tree → AreLeft nodes tree [] (step.Enter tree ∷ []) []
  unfolding diagram_key items_bytes
  all_left made = record {
    made = (made, tt);
    numbered_made = tt;
    key_is = append-nil _;
  }

  pub first_left : (key : List ℕ) (steps : List Step) (numbered : List Tree) → IsTree nodes tree → key ≡ [] →
      steps ≡ step.Enter tree ∷ [] → numbered ≡ [] → AreLeft nodes tree key steps numbered
  first_left key steps numbered made no_key one none =
      subst (λ k. AreLeft nodes tree k steps numbered) (sym no_key)
      (subst (λ ss. AreLeft nodes tree [] ss numbered) (sym one)
      (subst (AreLeft nodes tree [] (step.Enter tree ∷ [])) (sym none) (all_left made)))

  pub none_left : (key : List ℕ) (steps : List Step) (numbered : List Tree) →
      length steps ≡ 0 → AreLeft nodes tree key steps numbered → key ≡ diagram_key (diagram_of nodes tree)
  unfolding items_bytes
  none_left key steps numbered none are =
      sym (append-nil key)
      ∙ ap (λ ss. key ++ bytes_left nodes numbered (items_of nodes ss)) (sym (no_steps steps none))
      ∙ are.key_is
    where
      no_steps : (ss : List Step) → length ss ≡ 0 → ss ≡ []
      no_steps [] e = refl
      no_steps (s ∷ ss) e = absurd (omega arith)

  before_last : {X : Type 0} (P : X → Type 0) (xs : List X) (x : X) → AllByRecursion P (xs ++ x ∷ []) →
      AllByRecursion P xs × P x
  before_last P [] x all = (tt, all.0)
  before_last P (y ∷ ys) x all = let later = before_last P ys x all.1 in ((all.0, later.0), later.1)

  all_append : {X : Type 0} (P : X → Type 0) (xs ys : List X) → AllByRecursion P xs → AllByRecursion P ys →
      AllByRecursion P (xs ++ ys)
  all_append P [] ys all more = more
  all_append P (x ∷ xs) ys all more = (all.0, all_append P xs ys all.1 more)

  items_last : (steps : List Step) (next : Step) →
      items_of nodes (steps ++ next ∷ []) ≡ item_of nodes next ∷ items_of nodes steps
  items_last steps next = ap (map (item_of nodes)) (reverse-append steps (next ∷ []))

  items_more : (steps more : List Step) →
      items_of nodes (steps ++ more) ≡ items_of nodes more ++ items_of nodes steps
  items_more steps more =
      ap (map (item_of nodes)) (reverse-append steps more)
      ∙ map-append (item_of nodes) (reverse more) (reverse steps)

  module _ (key new_key : List ℕ) (whole steps new_steps : List Step) (next : Step)
      (last : whole ≡ steps ++ next ∷ []) (numbered new_numbered : List Tree)
      (are : AreLeft nodes tree key whole numbered) where
    parts : AllByRecursion (IsStep nodes) steps × IsStep nodes next
    parts = before_last (IsStep nodes) steps next (subst (AllByRecursion (IsStep nodes)) last are.made)

    pub next_made : IsStep nodes next
    next_made = parts.1

    module _ (is : IsMade nodes next key new_key steps new_steps numbered new_numbered) where
      left_on : bytes_left nodes numbered (items_of nodes whole)
          ≡ is.bytes ++ bytes_left nodes new_numbered (items_of nodes new_steps)
      left_on =
          ap (bytes_left nodes numbered) (ap (items_of nodes) last ∙ items_last steps next)
          ∙ is.same are.numbered_made (items_of nodes steps)
          ∙ ap (λ items. is.bytes ++ bytes_left nodes new_numbered items)
          (sym (ap (items_of nodes) is.steps_are ∙ items_more steps is.more))

      pub still_left : AreLeft nodes tree new_key new_steps new_numbered
      still_left = record {
        made = subst (AllByRecursion (IsStep nodes)) (sym is.steps_are)
            (all_append (IsStep nodes) steps is.more parts.0 is.made);
        numbered_made = is.numbered_made are.numbered_made;
        key_is =
            ap (λ k. k ++ bytes_left nodes new_numbered (items_of nodes new_steps)) is.key_is
            ∙ append_assoc key is.bytes (bytes_left nodes new_numbered (items_of nodes new_steps))
            ∙ ap (λ bytes. key ++ bytes) (sym left_on)
            ∙ are.key_is;
      }

      pub less_left : amount nodes new_steps new_numbered < amount nodes whole numbered
      less_left =
          let bytes = length-append is.bytes (bytes_left nodes new_numbered (items_of nodes new_steps)) in
          let old = ap length left_on in
          let steps_now = ap length is.steps_are in
          let added = length-append steps is.more in
          let before = ap length last in
          let one = length-append steps (next ∷ []) in
          let falls = is.falls in
          omega arith
