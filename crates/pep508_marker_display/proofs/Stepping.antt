-- The steps of a node lead to the clauses of its diagram.
use Rattle.std.proofs.Common.{◌≡◌, ℕ, ◌==◌, ◌&&◌, Bool, true, false, not, List, [], ◌∷◌, ◌++◌, map, Option}
use Rattle.std.proofs.Common.{Some, None, inl, inr, refl, sym, ap, ap₂, subst, ◌<◌, ◌∙◌, append-nil}
use Rattle.std.proofs.Common.{true≢false}
use Rattle.std.proofs.lemmas.Bool.{cases_Bool}
use Rattle.std.proofs.lemmas.Grind.{flat_map-append}
use Rattle.std.proofs.lemmas.List.Folds.{flat_map-map}
use Rattle.std.proofs.lemmas.List.{map-append}
use Rattle.std.specs.List.{AllByRecursion, filter, flat_map}
use Rattle.std.specs.Prelude.{IfSome}
use mathlib.Core.Bool.{beq}
use Rattle.pep440_text.specs.Record.{VersionRecord}
use Rattle.pep508_marker.specs.declared.keys.MarkerValueString.{MarkerValueString}
use Rattle.pep508_diagram.specs.declared.branch.Branch.{Branch}
use Rattle.pep508_diagram.specs.declared.variable.VersionVariable.{VersionVariable}
use Rattle.pep508_diagram.specs.Branches.{AllBranches}
use Rattle.pep508_diagram.specs.Diagram.{Diagram}
use Rattle.pep508_diagram.specs.Question.{Question}
use Rattle.pep508_marker_text_laws.specs.Clauses.{Part, followed_by, same_part, group_clauses, grouped_clauses}
use Rattle.pep508_marker_text_laws.specs.Clauses.{clauses_of}
use Rattle.pep508_marker_text_laws.specs.Groups.{firsts, standing, points_where}
use Rattle.pep508_marker_text_laws.specs.SameDiagrams.{same_diagram}
use Rattle.pep508_marker_text_laws.specs.Saying.{Clause, Saying, set_clauses}
use Rattle.pep508_marker_text_laws.specs.Simplified.{has_some}
use Rattle.pep508_marker_text_laws.specs.Terms.{version_saying, text_saying, set_term, unset_term}
use Rattle.pep508_marker_text_laws.proofs.SameDiagrams.{same_are_one, same_itself}
use Rattle.pep508_marker_text_laws.proofs.Walks.{walk_diagram}
use Rattle.pep508_marker_text_laws.proofs.Where.{standing_all, firsts_all}
use Rattle.pep508_tree.specs.Tree.{Tree, always, never, negation}
use Rattle.pep508_tree.specs.Meaning.{NodeRecord, Versions, Texts, Flagged, diagram_of, node_diagram, IsTree}
use Rattle.pep508_tree.specs.Nodes.{AreSound, AllChildren, HasBoundary, signed, turned_branch}
use Rattle.pep508_tree.specs.Roots.{IsRoot, root_of}
use Rattle.pep508_tree.proofs.Diagrams.{diagram_top}
use Rattle.pep508_tree.proofs.NodeChildren.{both_children}
use Rattle.pep508_tree.proofs.OneTree.{one_tree, tree_is}
use Rattle.pep508_evaluation.proofs.CanHold.{known_root, known_constant}
use Rattle.pep508_evaluation.proofs.Warning.{AllBehind}
use Rattle.pep508_evaluation.proofs.Rooted.{root_diagram, root_children_behind}
use Rattle.pep508_marker_display.specs.Steps.{StepRecord, turned_step, group_steps, branch_steps, node_steps}
use Rattle.pep508_marker_display.specs.Steps.{root_steps, clauses_by, behind}
use Rattle.pep508_marker_display.specs.Trees.{same_tree}
use Rattle.pep508_marker_display.proofs.Chained.{part_of, version_clauses, text_clauses}
use Rattle.pep508_marker_display.proofs.Grouping.{same_is_one, one_is_same}
use Rattle.pep508_marker_display.proofs.Natural.{shown_branch, standing_shown, firsts_shown, points_shown}

-- ---- signs

same_negation : (a b : Tree) → same_tree (negation a) (negation b) ≡ same_tree a b
same_negation a b = ap (λ n. (a.place == b.place) && n) (both a.negated b.negated)
  where
    both : (x y : Bool) → beq (not x) (not y) ≡ beq x y
    both true true = refl
    both true false = refl
    both false true = refl
    both false false = refl

pub map_map : {A B C : Type 0} (f : B → C) (g : A → B) (xs : List A) → map f (map g xs) ≡ map (λ x. f (g x)) xs
map_map f g [] = refl
map_map f g (x ∷ xs) = ap (λ ys. f (g x) ∷ ys) (map_map f g xs)

map_flat_map : {A B C : Type 0} (f : B → C) (g : A → List B) (xs : List A) →
    map f (flat_map g xs) ≡ flat_map (λ x. map f (g x)) xs
map_flat_map f g [] = refl
map_flat_map f g (x ∷ xs) = map-append f (g x) (flat_map g xs) ∙ ap (λ ys. map f (g x) ++ ys) (map_flat_map f g xs)

map_none : {A : Type 0} (f : A → A) → ((x : A) → f x ≡ x) → (xs : List A) → map f xs ≡ xs
map_none f is [] = refl
map_none f is (x ∷ xs) = λ i. is x i ∷ map_none f is xs i

all_unit : {A : Type 0} (xs : List A) → AllByRecursion (λ x. Unit {0}) xs
all_unit [] = tt
all_unit (x ∷ xs) = (tt, all_unit xs)

branches_unit : {T A : Type 0} (first : A) (later : List (Branch T A)) → AllBranches (λ x. Unit {0}) first later
branches_unit first [] = tt
branches_unit first (b ∷ later) = (tt, branches_unit b.child later)

module _ {T : Type 0} (say : Saying T) (first : Tree) (later : List (Branch T Tree)) where
  negated_group : (tree : Tree) →
      map (turned_step true) (group_steps say first later tree)
      ≡ group_steps say (negation first) (map turned_branch later) (negation tree)
  negated_group tree =
      map_map (turned_step true) (λ clause. record { clause = clause; tree = tree })
      (set_clauses say (points_where (same_tree tree) first later))
      ∙ ap (λ points. map (λ clause. record { clause = clause; tree = negation tree }) (set_clauses say points))
      (sym (points_shown negation same_tree same_tree (λ x. Unit {0}) (λ x y p q. same_negation x y) tree tt first later
      (branches_unit first later)))

  -- steps to trees are those of a node with negated children
  pub negated_steps : map (turned_step true) (branch_steps say first later)
      ≡ branch_steps say (negation first) (map turned_branch later)
  negated_steps =
      map_flat_map (turned_step true) (group_steps say first later) (firsts same_tree (standing first later))
      ∙ (λ i. flat_map (λ tree. negated_group tree i) (firsts same_tree (standing first later)))
      ∙ sym (flat_map-map (group_steps say (negation first) (map turned_branch later)) negation
      (firsts same_tree (standing first later)))
      ∙ ap (flat_map (group_steps say (negation first) (map turned_branch later)))
      (sym (firsts_shown negation same_tree same_tree (λ x. Unit {0}) (λ x y p q. same_negation x y)
      (standing first later) (all_unit (standing first later)))
      ∙ ap (firsts same_tree) (sym (standing_shown negation first later)))

  pub plain_steps : map (turned_step false) (branch_steps say first later) ≡ branch_steps say first later
  plain_steps = map_none (turned_step false) (λ step. refl) (branch_steps say first later)

signed_versions : (turns : Bool) (key : VersionVariable) (first : Tree) (later : List (Branch VersionRecord Tree)) →
    map (turned_step turns) (branch_steps (version_saying key) first later)
    ≡ node_steps (signed turns (Versions key first later))
signed_versions true key first later = negated_steps (version_saying key) first later
signed_versions false key first later = plain_steps (version_saying key) first later

signed_texts : (turns : Bool) (key : MarkerValueString) (first : Tree) (later : List (Branch (List ℕ) Tree)) →
    map (turned_step turns) (branch_steps (text_saying key) first later)
    ≡ node_steps (signed turns (Texts key first later))
signed_texts true key first later = negated_steps (text_saying key) first later
signed_texts false key first later = plain_steps (text_saying key) first later

pub shown_versions : (turns : Bool) (key : VersionVariable) (first : Tree) (later : List (Branch VersionRecord Tree))
    (root : Option NodeRecord) → Some (signed turns (Versions key first later)) ≡ root →
    map (turned_step turns) (branch_steps (version_saying key) first later) ≡ root_steps root
shown_versions turns key first later root is = signed_versions turns key first later ∙ ap root_steps is

pub shown_texts : (turns : Bool) (key : MarkerValueString) (first : Tree) (later : List (Branch (List ℕ) Tree))
    (root : Option NodeRecord) → Some (signed turns (Texts key first later)) ≡ root →
    map (turned_step turns) (branch_steps (text_saying key) first later) ≡ root_steps root
shown_texts turns key first later root is = signed_texts turns key first later ∙ ap root_steps is

-- ---- the clauses that steps lead to

module _ (at : Tree → List Clause) where
  one_tree_steps : (tree : Tree) (ones : List Clause) →
      clauses_by at (map (λ clause. record { clause = clause; tree = tree }) ones) ≡ followed_by (at tree) ones
  one_tree_steps tree ones =
      flat_map-map (λ step. map (λ clause. step.clause ++ clause) (at step.tree))
      (λ clause. record { clause = clause; tree = tree }) ones

  steps_of_all : (steps : Tree → List StepRecord) (trees : List Tree) →
      clauses_by at (flat_map steps trees) ≡ flat_map (λ tree. clauses_by at (steps tree)) trees
  steps_of_all steps [] = refl
  steps_of_all steps (tree ∷ trees) =
      flat_map-append (λ step. map (λ clause. step.clause ++ clause) (at step.tree)) (steps tree) (flat_map steps trees)
      ∙ ap (λ rest. clauses_by at (steps tree) ++ rest) (steps_of_all steps trees)

flat_map_where : {A B : Type 0} (P : A → Type 0) (f g : A → List B) → ((x : A) → P x → f x ≡ g x) → (xs : List A) →
    AllByRecursion P xs → flat_map f xs ≡ flat_map g xs
flat_map_where P f g same [] ps = refl
flat_map_where P f g same (x ∷ xs) ps = λ i. same x ps.0 i ++ flat_map_where P f g same xs ps.1 i

module _ (nodes : List NodeRecord) (sound : AreSound nodes) where
  abbrev at : Tree → Diagram Question
  at = diagram_of nodes

  abbrev pub clauses_at : Tree → List Clause
  clauses_at tree = clauses_of (diagram_of nodes tree)

  abbrev shown : Tree → Part
  shown tree = part_of (diagram_of nodes tree)

  -- trees are one exactly where their diagrams are
  alike : (a b : Tree) → IsTree nodes a → IsTree nodes b → same_part (shown a) (shown b) ≡ same_tree a b
  alike a b made other_made =
      ap₂ same_diagram (walk_diagram (at a)) (walk_diagram (at b))
      ∙ elim (cases_Bool (same_tree a b)) [
        | inl same ↦
            ap (λ t. same_diagram (at a) (at t)) (sym (same_is_one a b same)) ∙ same_itself (at a) ∙ sym same
        | inr differ ↦ elim (cases_Bool (same_diagram (at a) (at b))) [
          | inl one ↦
              absurd (true≢false
              (sym (one_is_same a b (one_tree nodes sound a b made other_made (same_are_one (at a) (at b) one))) ∙ differ))
          | inr apart ↦ apart ∙ sym differ
        ]
      ]

  module _ {T : Type 0} (say : Saying T) (first : Tree) (later : List (Branch T Tree))
      (made : AllBranches (IsTree nodes) first later) where
    group_leads : (tree : Tree) → IsTree nodes tree →
        clauses_by clauses_at (group_steps say first later tree)
        ≡ group_clauses say (shown first) (map (shown_branch shown) later) (shown tree)
    group_leads tree is =
        one_tree_steps clauses_at tree (set_clauses say (points_where (same_tree tree) first later))
        ∙ ap (λ points. followed_by (clauses_at tree) (set_clauses say points))
        (sym (points_shown shown same_tree same_part (IsTree nodes) alike tree is first later made))

    pub branches_lead : clauses_by clauses_at (branch_steps say first later)
        ≡ grouped_clauses say (shown first) (map (shown_branch shown) later)
    branches_lead =
        let trees = firsts same_tree (standing first later) in
        let all = standing_all (IsTree nodes) first later made in
        steps_of_all clauses_at (group_steps say first later) trees
        ∙ flat_map_where (IsTree nodes) (λ tree. clauses_by clauses_at (group_steps say first later tree))
        (λ tree. group_clauses say (shown first) (map (shown_branch shown) later) (shown tree)) group_leads trees
        (firsts_all (IsTree nodes) same_tree (standing first later) all)
        ∙ sym (flat_map-map (group_clauses say (shown first) (map (shown_branch shown) later)) shown trees)
        ∙ ap (flat_map (group_clauses say (shown first) (map (shown_branch shown) later)))
        (sym (firsts_shown shown same_tree same_part (IsTree nodes) alike (standing first later) all)
        ∙ ap (firsts same_part) (sym (standing_shown shown first later)))

  pub node_leads : (n : NodeRecord) → HasBoundary n → AllChildren (IsTree nodes) n →
      AllBehind at n → clauses_by clauses_at (node_steps n) ≡ clauses_of (node_diagram at n)
  node_leads (Versions key first later) wide made behind =
      branches_lead (version_saying key) first later made ∙ sym (version_clauses at key first later wide behind)
  node_leads (Texts key first later) wide made behind =
      branches_lead (text_saying key) first later made ∙ sym (text_clauses at key first later wide behind)
  node_leads (Flagged flag set unset) wide made behind =
      ap (λ rest. map (λ clause. set_term flag ∷ clause) (clauses_at set) ++ rest)
      (append-nil (map (λ clause. unset_term flag ∷ clause) (clauses_at unset)))

  module _ (tree : Tree) (made : IsTree nodes tree) where
    pub root_leads : (n : NodeRecord) → root_of nodes tree ≡ Some n → IsRoot nodes tree n →
        clauses_by clauses_at (node_steps n) ≡ clauses_at tree
    root_leads n e root =
        node_leads n root.wide root.made (root_children_behind nodes sound tree made n root)
        ∙ ap clauses_of (sym (root_diagram nodes sound tree made n e))

-- ---- the trees of steps

module _ (P : Tree → Type 0) where
  abbrev pub AllLead : List StepRecord → Type 0
  AllLead = AllByRecursion (λ step. P step.tree)

  lead_append : (xs ys : List StepRecord) → AllLead xs → AllLead ys → AllLead (xs ++ ys)
  lead_append [] ys h k = k
  lead_append (x ∷ xs) ys h k = (h.0, lead_append xs ys h.1 k)

  lead_one : (tree : Tree) → P tree → (ones : List Clause) →
      AllLead (map (λ clause. record { clause = clause; tree = tree }) ones)
  lead_one tree p [] = tt
  lead_one tree p (one ∷ ones) = (p, lead_one tree p ones)

  lead_all : (steps : Tree → List StepRecord) → ((tree : Tree) → P tree → AllLead (steps tree)) → (trees : List Tree) →
      AllByRecursion P trees → AllLead (flat_map steps trees)
  lead_all steps each [] ps = tt
  lead_all steps each (tree ∷ trees) ps =
      lead_append (steps tree) (flat_map steps trees) (each tree ps.0) (lead_all steps each trees ps.1)

  branches_all : {T : Type 0} (say : Saying T) (first : Tree) (later : List (Branch T Tree)) →
      AllBranches P first later → AllLead (branch_steps say first later)
  branches_all say first later ps =
      lead_all (group_steps say first later)
      (λ tree p. lead_one tree p (set_clauses say (points_where (same_tree tree) first later)))
      (firsts same_tree (standing first later))
      (firsts_all P same_tree (standing first later) (standing_all P first later ps))

  pub node_all : (n : NodeRecord) → AllChildren P n → AllLead (node_steps n)
  node_all (Versions key first later) ps = branches_all (version_saying key) first later ps
  node_all (Texts key first later) ps = branches_all (text_saying key) first later ps
  node_all (Flagged flag set unset) ps = (ps.0, (ps.1, tt))

-- ---- the steps of a tree

module _ (nodes : List NodeRecord) (sound : AreSound nodes) (tree : Tree) (made : IsTree nodes tree)
    (steps : List StepRecord) (is : steps ≡ root_steps (root_of nodes tree)) where
  -- they lead to trees that were made earlier
  pub steps_fall : AllLead (λ t. IsTree nodes t × (t.place < tree.place)) steps
  steps_fall =
      subst (AllLead (λ t. IsTree nodes t × (t.place < tree.place))) (sym is)
      (at_root (root_of nodes tree) (known_root nodes sound tree made))
    where
      at_root : (root : Option NodeRecord) → IfSome root (IsRoot nodes tree) →
          AllLead (λ t. IsTree nodes t × (t.place < tree.place)) (root_steps root)
      at_root None known = tt
      at_root (Some n) known =
          node_all (λ t. IsTree nodes t × (t.place < tree.place)) n
          (both_children (IsTree nodes) (λ t. t.place < tree.place) n known.made known.falls)

  -- and to the clauses of the tree, where it doesn't always hold
  pub steps_lead : (tree ≡ always → ⊥) → clauses_by (clauses_at nodes sound) steps ≡ clauses_of (diagram_of nodes tree)
  steps_lead other =
      ap (clauses_by (clauses_at nodes sound)) is
      ∙ at_root (root_of nodes tree) refl (known_root nodes sound tree made)
    where
      never_clauses : (negated : Bool) → tree.negated ≡ negated → tree.place ≡ 0 →
          [] ≡ clauses_of (diagram_of nodes tree)
      never_clauses true sign place =
          sym (ap clauses_of (ap (diagram_of nodes) (tree_is tree never place sign) ∙ diagram_top nodes never refl))
      never_clauses false sign place = absurd (other (tree_is tree always place sign))

      at_root : (root : Option NodeRecord) → root_of nodes tree ≡ root → IfSome root (IsRoot nodes tree) →
          clauses_by (clauses_at nodes sound) (root_steps root) ≡ clauses_of (diagram_of nodes tree)
      at_root None e known = never_clauses tree.negated refl (known_constant nodes sound tree made e).place_is
      at_root (Some n) e known = root_leads nodes sound tree made n e known

-- the one clause of what always holds
pub always_clauses : (nodes : List NodeRecord) (tree : Tree) → tree ≡ always → (path : Clause) →
    filter has_some (path ∷ []) ≡ behind path (clauses_of (diagram_of nodes tree))
always_clauses nodes tree is path =
    ap (λ one. filter has_some (one ∷ [])) (sym (append-nil path))
    ∙ sym (ap (λ d. behind path (clauses_of d)) (ap (diagram_of nodes) is ∙ diagram_top nodes always refl))
