-- What stands in a node whose children bear a tree's sign, and that the tree holds where it does.
use Rattle.std.proofs.Common.{◌≡◌, ℕ, zero, suc, ◌+◌, ◌-◌, ◌<◌, ◌≤◌, arith, length, get_or, Option, Some}
use Rattle.std.proofs.Common.{None, Bool, true, false, cond, List, [], ◌∷◌, map, refl, sym, ap, subst, ◌∙◌}
use Rattle.std.specs.Prelude.{option_map}
use Rattle.std.specs.List.{slice_get}
use Rattle.std.proofs.lemmas.List.{length-map}
use Rattle.std.proofs.lemmas.Option.{slice_get-map, slice_get-get_or, slice_get_past}
use Rattle.version_ranges.specs.Boundaries.{boundary_cmp}
use Rattle.version_ranges.specs.Point.{At}
use Rattle.version_ranges.specs.Turns.{Rising}
use Rattle.pep440_text.specs.Record.{VersionRecord}
use Rattle.pep440_version.specs.Order.{version_cmp}
use Rattle.pep508_marker.specs.declared.keys.MarkerValueString.{MarkerValueString}
use Rattle.pep508_environment.specs.Environment.{EnvironmentRecord}
use Rattle.pep508_environment.specs.EnvironmentValues.{text_in}
use Rattle.pep508_diagram.specs.declared.branch.Branch.{Branch}
use Rattle.pep508_diagram.specs.declared.variable.VersionVariable.{VersionVariable}
use Rattle.pep508_diagram.specs.declared.variable.Flag.{Flag}
use Rattle.pep508_diagram.specs.Text.{text_cmp}
use Rattle.pep508_diagram.specs.Branches.{RisingBranches, branch_at}
use Rattle.pep508_diagram.specs.Question.{Valuation}
use Rattle.pep508_tree.specs.Tree.{Tree, negation}
use Rattle.pep508_tree.specs.Meaning.{NodeRecord, Versions, Texts, Flagged, holds, IsTree}
use Rattle.pep508_tree.specs.Nodes.{IsRising, chosen, signed, turned, turned_branch}
use Rattle.pep508_tree.specs.Joining.{children}
use Rattle.pep508_tree.proofs.Meanings.{chosen_all}
use Rattle.pep508_tree.proofs.Storing.{signed_chosen}
use Rattle.pep508_tree.specs.Roots.{root_of, IsRoot}
use Rattle.pep508_evaluation.specs.Steps.{GoesDown, children_of}
use Rattle.pep508_evaluation.specs.Valuations.{variable_in, is_set, valuation_of}

-- ---- a sign on all children

-- the boundaries stay
turned_boundaries : {T : Type 0} (later : List (Branch T Tree)) →
    map (λ branch. branch.boundary) (map turned_branch later) ≡ map (λ branch. branch.boundary) later
turned_boundaries [] = refl
turned_boundaries (branch ∷ later) = ap (λ bs. branch.boundary ∷ bs) (turned_boundaries later)

pub versions_rising : (turns : Bool) (key : VersionVariable) (first : Tree)
    (later : List (Branch VersionRecord Tree)) → IsRising (signed turns (Versions key first later)) →
    RisingBranches version_cmp later
versions_rising true key first later rising =
    subst (Rising (boundary_cmp version_cmp)) (turned_boundaries later) rising
versions_rising false key first later rising = rising

pub texts_rising : (turns : Bool) (key : MarkerValueString) (first : Tree)
    (later : List (Branch (List ℕ) Tree)) → IsRising (signed turns (Texts key first later)) →
    RisingBranches text_cmp later
texts_rising true key first later rising =
    subst (Rising (boundary_cmp text_cmp)) (turned_boundaries later) rising
texts_rising false key first later rising = rising

-- ---- children by their places

pub later_child : {T : Type 0} (first : Tree) (later : List (Branch T Tree)) (i : ℕ) → 0 < i →
    slice_get (first ∷ map (λ branch. branch.child) later) i
    ≡ option_map (λ branch. branch.child) (slice_get later (i - 1))
later_child first later zero some = absurd (omega arith)
later_child first later (suc k) some =
    let same : suc k - 1 ≡ k = omega arith in
    slice_get-map (λ branch. branch.child) later k
    ∙ ap (λ j. option_map (λ branch. branch.child) (slice_get later j)) (sym same)

turned_children : {T : Type 0} (later : List (Branch T Tree)) →
    map (λ branch. branch.child) (map turned_branch later)
    ≡ map (turned true) (map (λ branch. branch.child) later)
turned_children [] = refl
turned_children (branch ∷ later) = ap (λ cs. negation branch.child ∷ cs) (turned_children later)

same_children : (cs : List Tree) → cs ≡ map (turned false) cs
same_children [] = refl
same_children (c ∷ cs) = ap (λ ds. c ∷ ds) (same_children cs)

version_children : (turns : Bool) (key : VersionVariable) (first : Tree)
    (later : List (Branch VersionRecord Tree)) →
    children (signed turns (Versions key first later))
    ≡ map (turned turns) (first ∷ map (λ branch. branch.child) later)
version_children true key first later = ap (λ cs. negation first ∷ cs) (turned_children later)
version_children false key first later = same_children (first ∷ map (λ branch. branch.child) later)

text_children : (turns : Bool) (key : MarkerValueString) (first : Tree)
    (later : List (Branch (List ℕ) Tree)) →
    children (signed turns (Texts key first later))
    ≡ map (turned turns) (first ∷ map (λ branch. branch.child) later)
text_children true key first later = ap (λ cs. negation first ∷ cs) (turned_children later)
text_children false key first later = same_children (first ∷ map (λ branch. branch.child) later)

-- a child of a tree's root by its place, and how many there are
module _ (turns : Bool) (first : Tree) (root : Option NodeRecord) where
  pub version_child_at : (key : VersionVariable) (later : List (Branch VersionRecord Tree)) (i : ℕ)
      (found : Option Tree) → Some (signed turns (Versions key first later)) ≡ root →
      found ≡ option_map (turned turns) (slice_get (first ∷ map (λ branch. branch.child) later) i) →
      found ≡ slice_get (children_of root) i
  version_child_at key later i found at e =
      e ∙ sym (slice_get-map (turned turns) (first ∷ map (λ branch. branch.child) later) i)
      ∙ sym (ap (λ cs. slice_get cs i) (version_children turns key first later))
      ∙ ap (λ o. slice_get (children_of o) i) at

  pub text_child_at : (key : MarkerValueString) (later : List (Branch (List ℕ) Tree)) (i : ℕ)
      (found : Option Tree) → Some (signed turns (Texts key first later)) ≡ root →
      found ≡ option_map (turned turns) (slice_get (first ∷ map (λ branch. branch.child) later) i) →
      found ≡ slice_get (children_of root) i
  text_child_at key later i found at e =
      e ∙ sym (slice_get-map (turned turns) (first ∷ map (λ branch. branch.child) later) i)
      ∙ sym (ap (λ cs. slice_get cs i) (text_children turns key first later))
      ∙ ap (λ o. slice_get (children_of o) i) at

  pub version_child_count : (key : VersionVariable) (later : List (Branch VersionRecord Tree)) →
      Some (signed turns (Versions key first later)) ≡ root →
      length later + 1 ≡ length (children_of root)
  version_child_count key later at =
      omega (
        arith,
        length-map later (λ branch. branch.child),
        length-map (first ∷ map (λ branch. branch.child) later) (turned turns),
        ap length (version_children turns key first later),
        ap (λ o. length (children_of o)) at,
      )

  pub text_child_count : (key : MarkerValueString) (later : List (Branch (List ℕ) Tree)) →
      Some (signed turns (Texts key first later)) ≡ root →
      length later + 1 ≡ length (children_of root)
  text_child_count key later at =
      omega (
        arith,
        length-map later (λ branch. branch.child),
        length-map (first ∷ map (λ branch. branch.child) later) (turned turns),
        ap length (text_children turns key first later),
        ap (λ o. length (children_of o)) at,
      )

-- what is found by an index is what stands there
pub found_at : {T : Type 0} (first : Tree) (later : List (Branch T Tree)) (i : ℕ) (branch : Branch T Tree) →
    0 < i → i - 1 < length later → branch ≡ get_or later (i - 1) branch →
    slice_get (first ∷ map (λ branch. branch.child) later) i ≡ Some branch.child
found_at first later i branch some inside is =
    later_child first later i some
    ∙ ap (option_map (λ branch. branch.child))
    (slice_get-get_or later (i - 1) branch inside ∙ ap Some (sym is))

pub nothing_at : {T : Type 0} (first : Tree) (later : List (Branch T Tree)) (i : ℕ) →
    0 < i → length later ≤ i - 1 →
    slice_get (first ∷ map (λ branch. branch.child) later) i ≡ None
nothing_at first later i some outside =
    later_child first later i some
    ∙ ap (option_map (λ branch. branch.child)) (slice_get_past later (i - 1) outside)

-- ---- the child that stands at a valuation

pub goes_to : (nodes : List NodeRecord) (tree : Tree) (n : NodeRecord) (v : Valuation) (c : Tree) →
    root_of nodes tree ≡ Some n → IsRoot nodes tree n → c ≡ chosen n v → GoesDown nodes tree v c
goes_to nodes tree n v c at known e = record {
  root = n;
  root_is = at;
  known = known;
  chosen_is = e;
  made = subst (IsTree nodes) (sym e) (chosen_all (IsTree nodes) n v known.made);
  falls = subst (λ (x : Tree). x.place < tree.place) (sym e)
      (chosen_all (λ (x : Tree). x.place < tree.place) n v known.falls);
  same = known.holds_is v ∙ ap (λ x. holds nodes x v) (sym e);
}

module _ (nodes : List NodeRecord) (tree : Tree) (environment : EnvironmentRecord) (extras : List (List ℕ)) where
  pub goes_by_versions : (turns : Bool) (key : VersionVariable) (first : Tree)
      (later : List (Branch VersionRecord Tree)) (c : Tree) →
      root_of nodes tree ≡ Some (signed turns (Versions key first later)) →
      IsRoot nodes tree (signed turns (Versions key first later)) →
      c ≡ turned turns (branch_at version_cmp first later (At (variable_in environment key))) →
      GoesDown nodes tree (valuation_of environment extras) c
  goes_by_versions turns key first later c at known e =
      let v = valuation_of environment extras in
      let n : NodeRecord = Versions key first later in
      goes_to nodes tree (signed turns n) v c at known (e ∙ sym (signed_chosen turns n v))

  pub goes_by_texts : (turns : Bool) (key : MarkerValueString) (first : Tree)
      (later : List (Branch (List ℕ) Tree)) (c : Tree) →
      root_of nodes tree ≡ Some (signed turns (Texts key first later)) →
      IsRoot nodes tree (signed turns (Texts key first later)) →
      c ≡ turned turns (branch_at text_cmp first later (At (text_in environment key))) →
      GoesDown nodes tree (valuation_of environment extras) c
  goes_by_texts turns key first later c at known e =
      let v = valuation_of environment extras in
      let n : NodeRecord = Texts key first later in
      goes_to nodes tree (signed turns n) v c at known (e ∙ sym (signed_chosen turns n v))

  pub goes_by_flag : (flag : Flag) (set unset : Tree) (c : Tree) →
      root_of nodes tree ≡ Some (Flagged flag set unset) → IsRoot nodes tree (Flagged flag set unset) →
      c ≡ cond (is_set environment extras flag) set unset →
      GoesDown nodes tree (valuation_of environment extras) c
  goes_by_flag flag set unset c at known e =
      goes_to nodes tree (Flagged flag set unset) (valuation_of environment extras) c at known e

-- By which child a node of each kind goes on.
pub ruleset choice_rules = (goes_by_versions, goes_by_texts, goes_by_flag)
