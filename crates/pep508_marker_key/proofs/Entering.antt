-- Trees that are entered: constants, trees that were written before, and others.
use Rattle.std.proofs.Common.{◌≡◌, ℕ, ◌+◌, Bool, true, false, cond, List, [], ◌∷◌, ◌++◌, map}
use Rattle.std.proofs.Common.{refl, sym, ap, subst, ◌∙◌, arith, Option, Some, None, append_assoc}
use Rattle.std.specs.List.{AllByRecursion}
use Rattle.std.specs.Ordering.{is_eq}
use Rattle.std.proofs.lemmas.List.{append-nil, map-append}
use Rattle.version_ranges.specs.Turns.{flips}
use Rattle.pep440_key.specs.Key.{number_bytes}
use Rattle.pep508_diagram.specs.Diagram.{IsAlike}
use Rattle.pep508_diagram.specs.Question.{marker}
use Rattle.pep508_diagram.proofs.Alike.{alike_itself}
use Rattle.pep508_diagram.proofs.Places.{equal_from}
use Rattle.pep508_diagram.proofs.Questions.{asks}
use Rattle.pep508_tree.specs.Tree.{Tree}
use Rattle.pep508_tree.specs.Meaning.{NodeRecord, Versions, Texts, Flagged, node_diagram, diagram_of, IsTree}
use Rattle.pep508_tree.specs.Nodes.{AreSound, first_child}
use Rattle.pep508_tree.specs.Roots.{root_of}
use Rattle.pep508_tree.proofs.NodeChildren.{first_of_children}
use Rattle.pep508_tree.proofs.OneNode.{tied_trees}
use Rattle.pep508_tree.proofs.Storing.{trees_same}
use Rattle.pep508_tree.proofs.OneTree.{one_tree}
use Rattle.pep508_marker_key.specs.declared.key_walk.Step.{Step}
use Rattle.pep508_marker_key.specs.declared.key_walk.Step.TheVariants as step
use Rattle.pep508_marker_key.specs.Walk.{leaf_byte, is_alike, number_among, number_of}
use Rattle.pep508_marker_key.specs.Key.{question_bytes}
use Rattle.pep508_marker_key.specs.Numbering.{name_cmp, number_in}
use Rattle.pep508_marker_key.specs.Left.{Begun, GoneOn, Closed, node_from, branch_diagram}
use Rattle.pep508_marker_key.specs.Left.{first_of, IsAsked, IsMade}
use Rattle.pep508_marker_key.specs.Left.{bytes_left, items_bytes}
use Rattle.pep508_marker_key.proofs.Alike.{tested, tests}
use Rattle.pep508_marker_key.proofs.Items.{leaf_bytes, again_bytes, begun_bytes, closed_bytes}
use Rattle.pep508_marker_key.proofs.Rooted.{root_diagram, root_known, constant_diagram, Asks, node_asks}

-- ---- diagrams that are one

same_truth : (a b : Bool) → (a ≡ true → b ≡ true) → (b ≡ true → a ≡ true) → a ≡ b
same_truth true b to from = sym (to refl)
same_truth false true to from = from refl
same_truth false false to from = refl

named_itself : (t : Tree) → is_eq (name_cmp (t.place, t.negated) (t.place, t.negated)) ≡ true
named_itself t = ap is_eq (tied_trees t t refl)

named_same : (a b : Tree) → is_eq (name_cmp (a.place, a.negated) (b.place, b.negated)) ≡ true → a ≡ b
named_same a b e = trees_same a b (equal_from (name_cmp (a.place, a.negated) (b.place, b.negated)) e)

module _ (nodes : List NodeRecord) (sound : AreSound nodes) where
  one_by_name : (a b : Tree) → IsTree nodes a → IsTree nodes b →
      is_alike marker (diagram_of nodes a) (diagram_of nodes b)
      ≡ is_eq (name_cmp (a.place, a.negated) (b.place, b.negated))
  one_by_name a b made other =
      same_truth _ _
      (λ e. let same : a ≡ b = one_tree nodes sound a b made other
      (tested marker (diagram_of nodes a) (diagram_of nodes b) e) in
      subst (λ t. is_eq (name_cmp (a.place, a.negated) (t.place, t.negated)) ≡ true) same (named_itself a))
      (λ e. tests marker (diagram_of nodes a) (diagram_of nodes b)
      (subst (λ t. IsAlike marker (diagram_of nodes a) (diagram_of nodes t)) (named_same a b e)
      (alike_itself asks (diagram_of nodes a))))

  number_is : (n : ℕ) (found : Option ℕ) (trees : List Tree) (t : Tree) → IsTree nodes t →
      AllByRecursion (IsTree nodes) trees →
      number_among marker n found (map (diagram_of nodes) trees) (diagram_of nodes t)
      ≡ number_in n found trees (t.place, t.negated)
  number_is n found [] t made all = refl
  number_is n found (tree ∷ trees) t made all =
      ap (λ b. number_among marker (n + 1) (cond b (Some n) found) (map (diagram_of nodes) trees)
      (diagram_of nodes t)) (one_by_name tree t all.0 made)
      ∙ number_is (n + 1) (cond (is_eq (name_cmp (tree.place, tree.negated) (t.place, t.negated))) (Some n) found)
      trees t made all.1

  module _ (tree : Tree) (made : IsTree nodes tree) (key new_key : List ℕ) (steps new_steps : List Step)
      (numbered : List Tree) where
    pub constant_made : root_of nodes tree ≡ None → (byte : ℕ) → byte ≡ leaf_byte (flips tree.negated true) →
        new_key ≡ key ++ byte ∷ [] → new_steps ≡ steps →
        IsMade nodes (step.Enter tree) key new_key steps new_steps numbered numbered
    constant_made none byte is wrote same =
        let diagram = constant_diagram nodes sound tree made none in
        record {
          bytes = byte ∷ [];
          more = [];
          key_is = wrote;
          steps_are = same ∙ sym (append-nil steps);
          made = tt;
          numbered_made = λ all. all;
          same = λ all items.
              ap (λ d. bytes_left nodes numbered (Begun d ∷ items)) diagram
              ∙ leaf_bytes marker question_bytes (flips tree.negated true) (map (diagram_of nodes) numbered) items
              ∙ ap (λ b. (b ∷ []) ++ bytes_left nodes numbered items) (sym is);
          falls = omega arith;
        }

    asked_first : (n : NodeRecord) → root_of nodes tree ≡ Some n → Asks (diagram_of nodes tree)
    asked_first n root =
        let own = node_asks (diagram_of nodes) n (root_known nodes sound tree made n root).wide in
        record {
          question = own.question;
          low = own.low;
          high = own.high;
          is = root_diagram nodes sound tree made n root ∙ own.is;
        }

    pub again_made : (n : NodeRecord) → root_of nodes tree ≡ Some n → (number : ℕ) →
        number_in 0 None numbered (tree.place, tree.negated) ≡ Some number →
        new_key ≡ (key ++ 3 ∷ []) ++ number_bytes number → new_steps ≡ steps →
        IsMade nodes (step.Enter tree) key new_key steps new_steps numbered numbered
    again_made n root number found wrote same =
        let own = asked_first n root in
        record {
          bytes = 3 ∷ number_bytes number;
          more = [];
          key_is = wrote ∙ append_assoc key (3 ∷ []) (number_bytes number);
          steps_are = same ∙ sym (append-nil steps);
          made = tt;
          numbered_made = λ all. all;
          same = λ all items.
              ap (λ d. bytes_left nodes numbered (Begun d ∷ items)) own.is
              ∙ again_bytes marker question_bytes own.question own.low own.high number
              (map (diagram_of nodes) numbered) items
              (ap (number_of marker (map (diagram_of nodes) numbered)) (sym own.is)
              ∙ number_is 0 None numbered tree made all ∙ found);
          falls = omega arith;
        }

    whole : (n : NodeRecord) → node_diagram (diagram_of nodes) (node_from n (first_child n) 0)
        ≡ node_diagram (diagram_of nodes) n
    whole (Versions kind first later) = refl
    whole (Texts kind first later) = refl
    whole (Flagged flag set unset) = refl

    pub begun_made : (n : NodeRecord) → root_of nodes tree ≡ Some n →
        number_in 0 None numbered (tree.place, tree.negated) ≡ None → (pushed : List Step) →
        pushed ≡ steps ++ step.Close tree ∷ [] →
        IsAsked nodes tree (first_child n) 0 key new_key pushed new_steps →
        IsMade nodes (step.Enter tree) key new_key steps new_steps numbered numbered
    begun_made n root new pushed closing asked =
        let own = asked_first n root in
        let at = diagram_of nodes tree in
        let children = (root_known nodes sound tree made n root).made in
        let line : at ≡ branch_diagram nodes (root_of nodes tree) (first_child n) 0 =
        root_diagram nodes sound tree made n root ∙ sym (whole n)
        ∙ ap (λ r. branch_diagram nodes r (first_child n) 0) (sym root) in
        record {
          bytes = 2 ∷ asked.bytes;
          more = step.Close tree ∷ asked.high ∷ step.Enter (first_child n) ∷ [];
          key_is = asked.key_is;
          steps_are = asked.steps_are
              ∙ ap (λ xs. xs ++ asked.high ∷ step.Enter (first_child n) ∷ []) closing
              ∙ append_assoc steps (step.Close tree ∷ []) (asked.high ∷ step.Enter (first_child n) ∷ []);
          made = (made, (asked.made, (first_of_children (IsTree nodes) n children, tt)));
          numbered_made = λ all. all;
          same = λ all items.
              ap (λ d. bytes_left nodes numbered (Begun d ∷ items)) own.is
              ∙ begun_bytes marker question_bytes own.question own.low own.high
              (map (diagram_of nodes) numbered) items
              (ap (number_of marker (map (diagram_of nodes) numbered)) (sym own.is)
              ∙ number_is 0 None numbered tree made all ∙ new)
              ∙ ap (λ d. bytes_left nodes numbered (GoneOn d ∷ Closed d ∷ items)) (sym own.is)
              ∙ ap (λ d. bytes_left nodes numbered (GoneOn d ∷ Closed at ∷ items)) line
              ∙ asked.same numbered (Closed at ∷ items);
          falls = omega arith;
        }

-- ---- other steps

module _ (nodes : List NodeRecord) (key new_key : List ℕ) (steps new_steps : List Step) where
  pub asked_made : (tree low : Tree) (index : ℕ) (numbered : List Tree) → IsTree nodes low →
      IsAsked nodes tree low index key new_key steps new_steps →
      IsMade nodes (step.Branch tree low index) key new_key steps new_steps numbered numbered
  asked_made tree low index numbered made asked = record {
    bytes = 2 ∷ asked.bytes;
    more = asked.high ∷ step.Enter low ∷ [];
    key_is = asked.key_is;
    steps_are = asked.steps_are;
    made = (asked.made, (made, tt));
    numbered_made = λ all. all;
    same = λ all items. asked.same numbered items;
    falls = omega arith;
  }

  pub closed_made : (tree : Tree) (numbered new : List Tree) → IsTree nodes tree →
      new ≡ numbered ++ tree ∷ [] → new_key ≡ key → new_steps ≡ steps →
      IsMade nodes (step.Close tree) key new_key steps new_steps numbered new
  closed_made tree numbered new made more same_key same_steps = record {
    bytes = [];
    more = [];
    key_is = same_key ∙ sym (append-nil key);
    steps_are = same_steps ∙ sym (append-nil steps);
    made = tt;
    numbered_made = λ all. subst (AllByRecursion (IsTree nodes)) (sym more) (all_more numbered all);
    same = λ all items.
        closed_bytes marker question_bytes (diagram_of nodes tree) (map (diagram_of nodes) numbered) items
        ∙ ap (λ ds. items_bytes marker question_bytes ds items)
        (sym (ap (map (diagram_of nodes)) more ∙ map-append (diagram_of nodes) numbered (tree ∷ [])));
    falls = omega arith;
  }
    where
      all_more : (trees : List Tree) → AllByRecursion (IsTree nodes) trees →
          AllByRecursion (IsTree nodes) (trees ++ tree ∷ [])
      all_more [] all = (made, tt)
      all_more (t ∷ trees) all = (all.0, all_more trees all.1)

-- ---- the root of a tree by its first child

pub rooted : (root : Option NodeRecord) (first : Tree) → Some first ≡ first_of root →
    (n : NodeRecord) × (root ≡ Some n) × (first_child n ≡ first)
rooted None first e = absurd (cc)
rooted (Some n) first e = (n, refl, cc)

pub unrooted : (root : Option NodeRecord) → None ≡ first_of root → root ≡ None
unrooted None e = refl
unrooted (Some n) e = absurd (cc)

pub first_made : (nodes : List NodeRecord) → AreSound nodes → (tree first : Tree) → IsTree nodes tree →
    Some first ≡ first_of (root_of nodes tree) → IsTree nodes first
first_made nodes sound tree first made e =
    let root = rooted (root_of nodes tree) first e in
    subst (IsTree nodes) root.2
    (first_of_children (IsTree nodes) root.0 (root_known nodes sound tree made root.0 root.1).made)
