-- The questions of a node, one after another.
use Rattle.std.proofs.Common.{◌≡◌, ℕ, zero, suc, ◌+◌, ◌<◌, Bool, true, false, cond, List, [], ◌∷◌, ◌++◌, map}
use Rattle.std.proofs.Common.{length, drop, get_or, refl, sym, ap, subst, ◌∙◌, arith, Less, Some}
use Rattle.std.specs.Ordering.{is_eq}
use Rattle.std.proofs.Math.Seq.{drop-cons}
use Rattle.std.proofs.lemmas.List.{drop-map, length-map, length-drop}
use Rattle.std.proofs.lemmas.Cmp.{tied_itself}
use Rattle.std.specs.Cmp.Lexicographic.{nat_list_cmp_total}
use Rattle.version_ranges.specs.declared.boundary.Boundary.{Boundary}
use Rattle.pep440_text.specs.Record.{VersionRecord}
use Rattle.pep508_marker.specs.declared.keys.MarkerValueString.{MarkerValueString}
use Rattle.pep508_diagram.specs.declared.branch.Branch.{Branch}
use Rattle.pep508_diagram.specs.declared.variable.VersionVariable.{VersionVariable}
use Rattle.pep508_diagram.specs.declared.variable.Flag.{Flag}
use Rattle.pep508_diagram.specs.Diagram.{Diagram, Leaf, Test}
use Rattle.pep508_diagram.specs.Branches.{AllBranches}
use Rattle.pep508_diagram.specs.Chains.{chain}
use Rattle.pep508_diagram.specs.Children.{RootBehind}
use Rattle.pep508_diagram.specs.Question.{Question, VersionBelow, TextBelow, IsSet, marker, place_of}
use Rattle.pep508_diagram.specs.Question.{shares_variable, version_rank, text_rank, flag_place}
use Rattle.pep508_diagram.specs.Text.{text_cmp}
use Rattle.pep508_tree.specs.Tree.{Tree}
use Rattle.pep508_tree.specs.Meaning.{NodeRecord, Versions, Texts, Flagged, node_diagram, diagram_of, IsTree}
use Rattle.pep508_tree.specs.Nodes.{AllChildren, Above, AreSound, node_place, signed, turned}
use Rattle.pep508_tree.specs.Roots.{root_of, IsRoot}
use Rattle.pep508_tree.proofs.NodeChildren.{both_children, first_of_branches}
use Rattle.pep508_tree.proofs.OneTree.{root_behind}
use Rattle.pep508_marker_key.specs.declared.key_walk.Step.{Step}
use Rattle.pep508_marker_key.specs.declared.key_walk.Step.TheVariants as step
use Rattle.pep508_marker_key.specs.Key.{question_bytes}
use Rattle.pep508_marker_key.specs.Left.{Begun, GoneOn, node_from, questions_in, branch_diagram, item_of}
use Rattle.pep508_marker_key.specs.Left.{sides, HasQuestion, IsStep, IsAsked, bytes_left}
use Rattle.pep508_marker_key.proofs.Items.{after, asked_bytes}

-- ---- branches whose children bear a sign

abbrev pub signed_branch : {T : Type 0} → Bool → Branch T Tree → Branch T Tree
signed_branch turns branch = record branch { child = turned turns branch.child }

unsigned : {T : Type 0} (later : List (Branch T Tree)) → map (signed_branch false) later ≡ later
unsigned [] = refl
unsigned (branch ∷ later) = ap (λ rest. branch ∷ rest) (unsigned later)

module _ (at : Tree → Diagram Question) where
  pub versions_from : (turns : Bool) (key : VersionVariable) (first : Tree)
      (later : List (Branch VersionRecord Tree)) (low : Tree) (index : ℕ) →
      node_diagram at (node_from (signed turns (Versions key first later)) low index)
      ≡ chain (VersionBelow key) at low (drop index (map (signed_branch turns) later))
  versions_from true key first later low index = refl
  versions_from false key first later low index =
      ap (λ rest. chain (VersionBelow key) at low (drop index rest)) (sym (unsigned later))

  pub texts_from : (turns : Bool) (key : MarkerValueString) (first : Tree)
      (later : List (Branch (List ℕ) Tree)) (low : Tree) (index : ℕ) →
      node_diagram at (node_from (signed turns (Texts key first later)) low index)
      ≡ chain (TextBelow key) at low (drop index (map (signed_branch turns) later))
  texts_from true key first later low index = refl
  texts_from false key first later low index =
      ap (λ rest. chain (TextBelow key) at low (drop index rest)) (sym (unsigned later))

module _ (P : Tree → Type 0) where
  pub versions_all : (turns : Bool) (key : VersionVariable) (first : Tree)
      (later : List (Branch VersionRecord Tree)) → AllChildren P (signed turns (Versions key first later)) →
      AllBranches P (turned turns first) (map (signed_branch turns) later)
  versions_all true key first later all = all
  versions_all false key first later all = subst (AllBranches P first) (sym (unsigned later)) all

  pub texts_all : (turns : Bool) (key : MarkerValueString) (first : Tree)
      (later : List (Branch (List ℕ) Tree)) → AllChildren P (signed turns (Texts key first later)) →
      AllBranches P (turned turns first) (map (signed_branch turns) later)
  texts_all true key first later all = all
  texts_all false key first later all = subst (AllBranches P first) (sym (unsigned later)) all

  -- what holds of all branches holds of the one that is next
  each_dropped : {T : Type 0} (first : Tree) (later : List (Branch T Tree)) (k : ℕ) (b : Branch T Tree)
      (rest : List (Branch T Tree)) → AllBranches P first later → drop k later ≡ b ∷ rest → P b.child
  each_dropped first [] zero b rest all e = absurd (cc)
  each_dropped first [] (suc k) b rest all e = absurd (cc)
  each_dropped first (x ∷ xs) zero b rest all e =
      let same : x ≡ b = cc in
      subst (λ y. P y.child) same (first_of_branches P x.child xs all.1)
  each_dropped first (x ∷ xs) (suc k) b rest all e = each_dropped x.child xs k b rest all.1 e

-- ---- questions of one variable, and of later ones

-- a diagram of later variables begins a node
begins : (place : List ℕ) (q : Question) (d : Diagram Question) → place_of q ≡ place → RootBehind place d →
    after marker question_bytes q d ≡ Begun d
unfolding shares_variable
begins place q (Leaf b) is behind = refl
begins place q (Test r low high) is behind =
    let less : text_cmp (place_of q) (place_of r) ≡ Less = ap (λ p. text_cmp p (place_of r)) is ∙ behind in
    ap (λ o. cond (is_eq o) (GoneOn (Test r low high)) (Begun (Test r low high))) less

goes : (q r : Question) (low high : Diagram Question) → place_of q ≡ place_of r →
    after marker question_bytes q (Test r low high) ≡ GoneOn (Test r low high)
unfolding shares_variable
goes q r low high is =
    ap (λ o. cond (is_eq o) (GoneOn (Test r low high)) (Begun (Test r low high)))
    (ap (λ p. text_cmp p (place_of r)) is ∙ tied_itself nat_list_cmp_total (place_of r))

-- the step for what stands above a boundary
abbrev pub high_step : {T : Type 0} → Tree → ℕ → Bool → Branch T Tree → List (Branch T Tree) → Step
high_step tree index turns branch [] = step.Enter (turned turns branch.child)
high_step tree index turns branch (other ∷ others) =
    step.Branch tree (turned turns branch.child) (index + 1)

sides_are : {T : Type 0} (tree low : Tree) (index : ℕ) (turns : Bool) (branch : Branch T Tree)
    (rest : List (Branch T Tree)) →
    sides tree low index turns (branch ∷ rest) ≡ high_step tree index turns branch rest ∷ step.Enter low ∷ []
sides_are tree low index turns branch [] = refl
sides_are tree low index turns branch (other ∷ others) = refl

module _ (nodes : List NodeRecord) (sound : AreSound nodes) (tree : Tree) (made : IsTree nodes tree)
    {T : Type 0} (ask : Boundary T → Question) (place : List ℕ)
    (place_is : (b : Boundary T) → place_of (ask b) ≡ place) (turns : Bool) (later : List (Branch T Tree))
    (from : (low : Tree) (index : ℕ) → branch_diagram nodes (root_of nodes tree) low index
    ≡ chain ask (diagram_of nodes) low (drop index (map (signed_branch turns) later)))
    (first : Tree)
    (children : AllBranches (λ c. IsTree nodes c × Above nodes place c) first
    (map (signed_branch turns) later))
    (questions : (k : ℕ) → k < length later → HasQuestion (root_of nodes tree) k) where
  abbrev sign : Branch T Tree → Branch T Tree
  sign = signed_branch turns

  signed_rest : (index : ℕ) (rest : List (Branch T Tree)) → drop index later ≡ rest →
      drop index (map sign later) ≡ map sign rest
  signed_rest index rest e = drop-map sign index later ∙ ap (map sign) e

  high_item : (index : ℕ) (branch : Branch T Tree) (rest : List (Branch T Tree)) →
      IsTree nodes (turned turns branch.child) → Above nodes place (turned turns branch.child) →
      drop (index + 1) later ≡ rest →
      after marker question_bytes (ask branch.boundary)
      (chain ask (diagram_of nodes) (turned turns branch.child) (map sign rest))
      ≡ item_of nodes (high_step tree index turns branch rest)
  high_item index branch [] child above e =
      begins place (ask branch.boundary) (diagram_of nodes (turned turns branch.child))
      (place_is branch.boundary)
      (root_behind nodes sound place (turned turns branch.child) child above)
  high_item index branch (other ∷ others) child above e =
      let high = turned turns branch.child in
      goes (ask branch.boundary) (ask other.boundary) (diagram_of nodes high)
      (chain ask (diagram_of nodes) (turned turns other.child) (map sign others))
      (place_is branch.boundary ∙ sym (place_is other.boundary))
      ∙ ap GoneOn
      (ap (chain ask (diagram_of nodes) high) (sym (signed_rest (index + 1) (other ∷ others) e))
      ∙ sym (from high (index + 1)))

  high_made : (index : ℕ) (branch : Branch T Tree) (rest : List (Branch T Tree)) →
      IsTree nodes (turned turns branch.child) → drop (index + 1) later ≡ rest →
      IsStep nodes (high_step tree index turns branch rest)
  high_made index branch [] child e = child
  high_made index branch (other ∷ others) child e =
      let long = length-drop (index + 1) later in
      let more = ap length e in
      (made, child, questions (index + 1) (omega (arith, long, more)))

  pub sides_asked : (low : Tree) (index : ℕ) (branch : Branch T Tree) (key new_key : List ℕ)
      (steps new_steps : List Step) → index < length later → branch ≡ get_or later index branch →
      new_key ≡ key ++ 2 ∷ question_bytes (ask branch.boundary) →
      new_steps ≡ steps ++ sides tree low index turns (drop index later) →
      IsAsked nodes tree low index key new_key steps new_steps
  sides_asked low index branch key new_key steps new_steps inside is wrote pushed =
      let rest = drop (index + 1) later in
      let next : suc index ≡ index + 1 = omega arith in
      let here : drop index later ≡ branch ∷ rest =
      drop-cons later index branch inside ∙ ap (λ b. b ∷ drop (suc index) later) (sym is)
      ∙ ap (λ k. branch ∷ drop k later) next in
      let child : IsTree nodes (turned turns branch.child) × Above nodes place (turned turns branch.child) =
      each_dropped (λ c. IsTree nodes c × Above nodes place c) first (map sign later) index
      (sign branch) (map sign rest) children (signed_rest index (branch ∷ rest) here) in
      let high = high_step tree index turns branch rest in
      record {
        bytes = question_bytes (ask branch.boundary);
        high = high;
        key_is = wrote;
        steps_are = pushed ∙ ap (λ xs. steps ++ sides tree low index turns xs) here
            ∙ ap (λ xs. steps ++ xs) (sides_are tree low index turns branch rest);
        made = high_made index branch rest child.0 refl;
        same = λ numbered items.
            ap (λ d. bytes_left nodes numbered (GoneOn d ∷ items))
            (from low index
            ∙ ap (chain ask (diagram_of nodes) low) (signed_rest index (branch ∷ rest) here))
            ∙ asked_bytes marker question_bytes (ask branch.boundary) (diagram_of nodes low)
            (chain ask (diagram_of nodes) (turned turns branch.child) (map sign rest))
            (map (diagram_of nodes) numbered) items
            ∙ ap (λ item. (2 ∷ question_bytes (ask branch.boundary))
            ++ bytes_left nodes numbered (Begun (diagram_of nodes low) ∷ item ∷ items))
            (high_item index branch rest child.0 child.1 refl);
      }

-- ---- a node that is read

module _ (nodes : List NodeRecord) (tree : Tree) where
  count_versions : (turns : Bool) (key : VersionVariable) (first : Tree)
      (later : List (Branch VersionRecord Tree)) → questions_in (signed turns (Versions key first later)) ≡ length later
  count_versions true key first later = length-map later _
  count_versions false key first later = refl

  count_texts : (turns : Bool) (key : MarkerValueString) (first : Tree)
      (later : List (Branch (List ℕ) Tree)) → questions_in (signed turns (Texts key first later)) ≡ length later
  count_texts true key first later = length-map later _
  count_texts false key first later = refl

  has_question : (n : NodeRecord) → Some n ≡ root_of nodes tree → (k : ℕ) → k < questions_in n →
      HasQuestion (root_of nodes tree) k
  has_question n is k less = subst (λ root. HasQuestion root k) is less

  within : (n : NodeRecord) → Some n ≡ root_of nodes tree → (k : ℕ) → HasQuestion (root_of nodes tree) k →
      k < questions_in n
  within n is k has = subst (λ root. HasQuestion root k) (sym is) has

  known_children : (place : List ℕ) (n : NodeRecord) → node_place n ≡ place → IsRoot nodes tree n →
      AllChildren (λ c. IsTree nodes c × Above nodes place c) n
  known_children place n is root =
      subst (λ p. AllChildren (λ c. IsTree nodes c × Above nodes p c) n) is
      (both_children (IsTree nodes) (Above nodes (node_place n)) n root.made root.above)

  versions_place : (turns : Bool) (key : VersionVariable) (first : Tree)
      (later : List (Branch VersionRecord Tree)) →
      node_place (signed turns (Versions key first later)) ≡ version_rank key ∷ []
  versions_place true key first later = refl
  versions_place false key first later = refl

  texts_place : (turns : Bool) (key : MarkerValueString) (first : Tree)
      (later : List (Branch (List ℕ) Tree)) →
      node_place (signed turns (Texts key first later)) ≡ text_rank key ∷ []
  texts_place true key first later = refl
  texts_place false key first later = refl

  module _ (sound : AreSound nodes) (made : IsTree nodes tree) (low : Tree) (index : ℕ)
      (old_key new_key : List ℕ) (steps new_steps : List Step) where
    pub versions_asked : (turns : Bool) (key : VersionVariable) (first : Tree)
        (later : List (Branch VersionRecord Tree)) →
        Some (signed turns (Versions key first later)) ≡ root_of nodes tree →
        IsRoot nodes tree (signed turns (Versions key first later)) → HasQuestion (root_of nodes tree) index →
        (branch : Branch VersionRecord Tree) → branch ≡ get_or later index branch →
        new_key ≡ old_key ++ 2 ∷ question_bytes (VersionBelow key (get_or later index branch).boundary) →
        new_steps ≡ steps ++ sides tree low index turns (drop index later) →
        IsAsked nodes tree low index old_key new_key steps new_steps
    versions_asked turns key first later is root inside branch here wrote pushed =
        let n = signed turns (Versions key first later) in
        let place = version_rank key ∷ [] in
        let count = count_versions turns key first later in
        let less : index < length later = omega (arith, count, within n is index inside) in
        sides_asked nodes sound tree made (VersionBelow key) place (λ b. refl) turns later
        (λ below k. ap (λ root. branch_diagram nodes root below k) (sym is)
        ∙ versions_from (diagram_of nodes) turns key first later below k)
        (turned turns first)
        (versions_all (λ c. IsTree nodes c × Above nodes place c) turns key first later
        (known_children place n (versions_place turns key first later) root))
        (λ k less. has_question n is k (omega (arith, count)))
        low index branch old_key new_key steps new_steps less here
        (wrote ∙ ap (λ b. old_key ++ 2 ∷ question_bytes (VersionBelow key b.boundary)) (sym here)) pushed

    pub texts_asked : (turns : Bool) (key : MarkerValueString) (first : Tree)
        (later : List (Branch (List ℕ) Tree)) →
        Some (signed turns (Texts key first later)) ≡ root_of nodes tree →
        IsRoot nodes tree (signed turns (Texts key first later)) → HasQuestion (root_of nodes tree) index →
        (branch : Branch (List ℕ) Tree) → branch ≡ get_or later index branch →
        new_key ≡ old_key ++ 2 ∷ question_bytes (TextBelow key (get_or later index branch).boundary) →
        new_steps ≡ steps ++ sides tree low index turns (drop index later) →
        IsAsked nodes tree low index old_key new_key steps new_steps
    texts_asked turns key first later is root inside branch here wrote pushed =
        let n = signed turns (Texts key first later) in
        let place = text_rank key ∷ [] in
        let count = count_texts turns key first later in
        let less : index < length later = omega (arith, count, within n is index inside) in
        sides_asked nodes sound tree made (TextBelow key) place (λ b. refl) turns later
        (λ below k. ap (λ root. branch_diagram nodes root below k) (sym is)
        ∙ texts_from (diagram_of nodes) turns key first later below k)
        (turned turns first)
        (texts_all (λ c. IsTree nodes c × Above nodes place c) turns key first later
        (known_children place n (texts_place turns key first later) root))
        (λ k less. has_question n is k (omega (arith, count)))
        low index branch old_key new_key steps new_steps less here
        (wrote ∙ ap (λ b. old_key ++ 2 ∷ question_bytes (TextBelow key b.boundary)) (sym here)) pushed

    pub flag_asked : (flag : Flag) (set unset : Tree) → Some (Flagged flag set unset) ≡ root_of nodes tree →
        IsRoot nodes tree (Flagged flag set unset) →
        new_key ≡ old_key ++ 2 ∷ question_bytes (IsSet flag) →
        new_steps ≡ steps ++ step.Enter unset ∷ step.Enter low ∷ [] →
        IsAsked nodes tree low index old_key new_key steps new_steps
    flag_asked flag set unset is root wrote pushed =
        let n = Flagged flag set unset in
        let children = known_children (flag_place flag) n refl root in
        record {
          bytes = question_bytes (IsSet flag);
          high = step.Enter unset;
          key_is = wrote;
          steps_are = pushed;
          made = children.1.0;
          same = λ numbered items.
              ap (λ root. bytes_left nodes numbered (GoneOn (branch_diagram nodes root low index) ∷ items))
              (sym is)
              ∙ asked_bytes marker question_bytes (IsSet flag) (diagram_of nodes low) (diagram_of nodes unset)
              (map (diagram_of nodes) numbered) items
              ∙ ap (λ item. (2 ∷ question_bytes (IsSet flag))
              ++ bytes_left nodes numbered (Begun (diagram_of nodes low) ∷ item ∷ items))
              (begins (flag_place flag) (IsSet flag) (diagram_of nodes unset) refl
              (root_behind nodes sound (flag_place flag) unset children.1.0 children.1.1));
        }
