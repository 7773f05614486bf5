-- What the nodes of trees that ask for one key alone say.
use Rattle.std.proofs.Common.{◌≡◌, ◌+◌, ◌<◌, ℕ, length, take, get_or, Bool, true, false, not, ◌&&◌, List, []}
use Rattle.std.proofs.Common.{◌∷◌, ◌++◌, map, refl, ap, ap₂, sym, subst, ◌∙◌, arith, Ordering}
use Rattle.std.proofs.lemmas.List.{take_more}
use Rattle.std.specs.List.{AllByRecursion}
use Rattle.version_ranges.specs.Boundaries.{boundary_cmp}
use Rattle.version_ranges.specs.Point.{Point}
use Rattle.version_ranges.specs.Turns.{Rising, flips}
use Rattle.pep440_text.specs.Record.{VersionRecord}
use Rattle.pep440_version.specs.Order.{version_cmp}
use Rattle.pep508_marker.specs.declared.keys.MarkerValueString.{MarkerValueString}
use Rattle.pep508_diagram.specs.declared.branch.Branch.{Branch}
use Rattle.pep508_diagram.specs.declared.variable.VersionVariable.{VersionVariable}
use Rattle.pep508_diagram.specs.Text.{text_cmp}
use Rattle.pep508_diagram.specs.Branches.{RisingBranches, NeighboursDiffer, AllBranches, branch_at}
use Rattle.pep508_diagram.specs.Question.{Valuation, truth, text_rank}
use Rattle.pep508_diagram.proofs.Branching.{all_children, branch_at_child}
use Rattle.pep508_diagram.proofs.Places.{text_keys_same}
use Rattle.pep508_tree.specs.Tree.{Tree, always, negation}
use Rattle.pep508_tree.specs.Meaning.{NodeRecord, Versions, Texts, holds, IsTree, Extends}
use Rattle.pep508_tree.specs.Nodes.{signed, turned, turned_branch, IsRising, ChildrenDiffer}
use Rattle.pep508_tree.specs.Roots.{IsRoot}
use Rattle.pep508_tree.specs.Conjunctions.{Meet}
use Rattle.pep508_tree.proofs.Conjoining.{tree_kept, meet_push}
use Rattle.pep508_tree.proofs.Disjoint.{always_holds}
use Rattle.pep508_tree.proofs.Diagrams.{diagram_top, holds_kept}
use Rattle.pep508_tree.proofs.Meanings.{holds_turned}
use Rattle.pep508_tree.proofs.Storing.{same_boundaries, signed_chosen}
use Rattle.pep508_conjunctions.specs.declared.meet.Truths.{Truths}
use Rattle.pep508_conjunctions.specs.declared.borrowed_nodes.Source.{Source}
use Rattle.pep508_conjunctions.specs.Meets.{truth_in, truth_at, all_true, source_truth, source_later, AreSame}
use Rattle.pep508_conjunctions.specs.Meets.{IsLeaf}
use Rattle.pep508_conjunctions.specs.Sources.{IsSource, AreMeet, all_hold}
use Rattle.pep508_conjunctions.proofs.Meets.{truths_at, truths_differ, all_front, all_back, halves_true}
use Rattle.pep508_conjunctions.proofs.Meets.{and_true}

constant_truth : (nodes : List NodeRecord) (t : Tree) → t.place ≡ 0 → (v : Valuation) → holds nodes t v ≡ not t.negated
constant_truth nodes t here v = ap (λ d. truth d v) (diagram_top nodes t here) ∙ flipped t.negated
  where
    flipped : (b : Bool) → flips b true ≡ not b
    flipped true = refl
    flipped false = refl

module _ {T : Type 0} (cmp : T → T → Ordering) where
  unsigned_rises : (later : List (Branch T Tree)) → RisingBranches cmp (map turned_branch later)
      → RisingBranches cmp later
  unsigned_rises later rises = subst (Rising (boundary_cmp cmp)) (same_boundaries later) rises

unsigned_differ : {T : Type 0} (first : Tree) (later : List (Branch T Tree))
    → NeighboursDiffer (negation first) (map turned_branch later) → NeighboursDiffer first later
unsigned_differ first [] differ = tt
unsigned_differ first (b ∷ later) differ = (
  λ e. differ.0 (ap negation e),
  unsigned_differ b.child later differ.1,
)

version_rises : (negated : Bool) (key : _) (first : Tree) (later : List (Branch VersionRecord Tree))
    → IsRising (signed negated (Versions key first later)) → RisingBranches version_cmp later
version_rises true key first later rises = unsigned_rises version_cmp later rises
version_rises false key first later rises = rises

version_differ : (negated : Bool) (key : _) (first : Tree) (later : List (Branch VersionRecord Tree))
    → ChildrenDiffer (signed negated (Versions key first later)) → NeighboursDiffer first later
version_differ true key first later differ = unsigned_differ first later differ
version_differ false key first later differ = differ

text_rises : (negated : Bool) (key : _) (first : Tree) (later : List (Branch (List ℕ) Tree))
    → IsRising (signed negated (Texts key first later)) → RisingBranches text_cmp later
text_rises true key first later rises = unsigned_rises text_cmp later rises
text_rises false key first later rises = rises

text_differ : (negated : Bool) (key : _) (first : Tree) (later : List (Branch (List ℕ) Tree))
    → ChildrenDiffer (signed negated (Texts key first later)) → NeighboursDiffer first later
text_differ true key first later differ = unsigned_differ first later differ
text_differ false key first later differ = differ

-- the truth of a tree whose children are constants, from what stands in its node
module _ {T : Type 0} (cmp : T → T → Ordering) (source : Source T) (first : Tree)
    (first_is : source.first ≡ truth_in source.negated first)
    (constants : AllBranches (λ child. child.place ≡ 0) first source.later.now) where
  stands : (nodes : List NodeRecord) (p : Point T) (v : Valuation)
      → holds nodes (turned source.negated (branch_at cmp first source.later.now p)) v ≡ source_truth cmp source p
  stands nodes p v =
      let later = source.later.now in
      let child = branch_at cmp first later p in
      let constant = all_children (λ c. c.place ≡ 0) first later child constants (branch_at_child cmp first later p) in
      holds_turned nodes source.negated child v
      ∙ ap (flips source.negated) (constant_truth nodes child constant v)
      ∙ sym (truths_at cmp source.negated first later p)
      ∙ ap (λ f. branch_at cmp f (source_later source) p) (sym first_is)

  leaf_of : RisingBranches cmp source.later.now → NeighboursDiffer first source.later.now → IsLeaf cmp source
  leaf_of rises differ = record {
    rises = rises;
    differ = subst (λ f. NeighboursDiffer f (source_later source)) (sym first_is)
        (truths_differ cmp source.negated first source.later.now constants differ);
  }

pub version_is_source : (nodes : List NodeRecord) (key own : VersionVariable) → own ≡ key → (negated : Bool)
    (tree asked : Tree) → asked ≡ turned negated tree → (source : Source VersionRecord) (first : Tree)
    → source.first ≡ truth_in source.negated first
    → AllBranches (λ child. child.place ≡ 0) first source.later.now
    → IsRoot nodes asked (signed source.negated (Versions own first source.later.now))
    → IsSource version_cmp (λ v. v.version key) nodes negated tree source
version_is_source nodes key own same negated tree asked turns source first first_is constants root =
    let later = source.later.now in
    record {
      leaf = leaf_of version_cmp source first first_is constants
          (version_rises source.negated own first later root.rises)
          (version_differ source.negated own first later root.differ);
      truth_is = λ v.
          sym (holds_turned nodes negated tree v) ∙ ap (λ t. holds nodes t v) (sym turns)
          ∙ root.holds_is v
          ∙ ap (λ t. holds nodes t v) (signed_chosen source.negated (Versions own first later) v)
          ∙ stands version_cmp source first first_is constants nodes (v.version own) v
          ∙ ap (λ k. source_truth version_cmp source (v.version k)) same;
    }

pub text_is_source : (nodes : List NodeRecord) (key own : MarkerValueString) → text_rank own ≡ text_rank key
    → (negated : Bool) (tree asked : Tree) → asked ≡ turned negated tree → (source : Source (List ℕ)) (first : Tree)
    → source.first ≡ truth_in source.negated first
    → AllBranches (λ child. child.place ≡ 0) first source.later.now
    → IsRoot nodes asked (signed source.negated (Texts own first source.later.now))
    → IsSource text_cmp (λ v. v.text key) nodes negated tree source
text_is_source nodes key own ranks negated tree asked turns source first first_is constants root =
    let later = source.later.now in
    let same : own ≡ key = text_keys_same own key (omega (arith, ranks)) in
    record {
      leaf = leaf_of text_cmp source first first_is constants
          (text_rises source.negated own first later root.rises)
          (text_differ source.negated own first later root.differ);
      truth_is = λ v.
          sym (holds_turned nodes negated tree v) ∙ ap (λ t. holds nodes t v) (sym turns)
          ∙ root.holds_is v
          ∙ ap (λ t. holds nodes t v) (signed_chosen source.negated (Texts own first later) v)
          ∙ stands text_cmp source first first_is constants nodes (v.text own) v
          ∙ ap (λ k. source_truth text_cmp source (v.text k)) same;
    }

-- ---- lists of sources

module _ {T : Type 0} (cmp : T → T → Ordering) (at : Valuation → Point T) (nodes : List NodeRecord) (negated : Bool) where
  pub all_leaves : (trees : List Tree) (sources : List (Source T)) → Meet (IsSource cmp at nodes negated) trees sources
      → AllByRecursion (IsLeaf cmp) sources
  all_leaves [] [] m = tt
  all_leaves [] (s ∷ sources) m = absurd m
  all_leaves (t ∷ trees) [] m = tt
  all_leaves (t ∷ trees) (s ∷ sources) m = (m.0.leaf, all_leaves trees sources m.1)

  all_truths : (trees : List Tree) (sources : List (Source T)) → Meet (IsSource cmp at nodes negated) trees sources
      → (v : Valuation) → all_true (map (λ s. source_truth cmp s (at v)) sources) ≡ all_hold nodes negated trees v
  all_truths [] [] m v = refl
  all_truths [] (s ∷ sources) m v = absurd m
  all_truths (t ∷ trees) [] m v = absurd m
  all_truths (t ∷ trees) (s ∷ sources) m v =
      ap₂ (λ x y. x && y) (sym (m.0.truth_is v)) (all_truths trees sources m.1 v)

  pub are_meet : (trees : List Tree) (sources own : List (Source T)) → own ≡ sources
      → Meet (IsSource cmp at nodes negated) trees sources → (truths copy : Truths T)
      → ((p : Point T) → truth_at cmp truths p ≡ all_true (map (λ s. source_truth cmp s p) own))
      → RisingBranches cmp truths.later.items → NeighboursDiffer truths.first truths.later.items
      → AreSame copy truths → AreMeet cmp at nodes negated trees copy
  are_meet trees sources own own_is m truths copy points rises differ same = record {
    rises = subst (RisingBranches cmp) (sym same.later) rises;
    differ = rw (same.first, same.later) differ;
    truth_is = λ v.
        ap₂ (λ x y. branch_at cmp x y (at v)) same.first same.later
        ∙ points (at v)
        ∙ ap (λ xs. all_true (map (λ s. source_truth cmp s (at v)) xs)) own_is
        ∙ all_truths trees sources m v;
  }

pub sources_more : {T : Type 0} (R : Tree → Source T → Type 0) (trees : List Tree) (i : ℕ) (tree : Tree)
    (sources more : List (Source T)) (source : Source T) → Meet R (take i trees) sources → R tree source
    → i < length trees → tree ≡ get_or trees i tree → more ≡ sources ++ source ∷ [] → Meet R (take (i + 1) trees) more
sources_more R trees i tree sources more source m r inside is pushed =
    let longer : take (i + 1) trees ≡ take i trees ++ tree ∷ [] =
    take_more trees i tree inside ∙ ap (λ t. take i trees ++ t ∷ []) (sym is) in
    subst (λ ts. Meet R ts more) (sym longer)
    (subst (Meet R (take i trees ++ tree ∷ [])) (sym pushed) (meet_push R (take i trees) sources tree source m r))

-- ---- lists of trees

pub all_kept : (old new : List NodeRecord) → Extends old new → (trees : List Tree) → AllByRecursion (IsTree old) trees
    → AllByRecursion (IsTree new) trees
all_kept old new more [] h = tt
all_kept old new more (t ∷ ts) h = (tree_kept old new more t h.0, all_kept old new more ts h.1)

pub all_hold_kept : (old new : List NodeRecord) → Extends old new → (negated : Bool) (trees : List Tree)
    → AllByRecursion (IsTree old) trees → (v : Valuation) → all_hold new negated trees v ≡ all_hold old negated trees v
all_hold_kept old new more negated [] h v = refl
all_hold_kept old new more negated (t ∷ ts) h v =
    ap₂ (λ x y. flips negated x && y) (holds_kept old new more t h.0 v) (all_hold_kept old new more negated ts h.1 v)

-- all of a list, by the conjunction of those of both halves
pub halves_hold : (nodes now later new : List NodeRecord) → Extends nodes now → Extends now later → (negated : Bool)
    (front back trees : List Tree) → front ++ back ≡ trees → AllByRecursion (IsTree nodes) trees
    → (first second tree : Tree) → IsTree now first → (v : Valuation)
    → holds now first v ≡ all_hold nodes negated front v → holds later second v ≡ all_hold now negated back v
    → holds new tree v ≡ (holds later first v && holds later second v)
    → holds new tree v ≡ all_hold nodes negated trees v
halves_hold nodes now later new more again negated front back trees whole made first second tree first_made v a b both =
    let back_made = all_back (IsTree nodes) front back (subst (AllByRecursion (IsTree nodes)) (sym whole) made) in
    both
    ∙ ap₂ (λ x y. x && y) (holds_kept now later again first first_made v ∙ a)
    (b ∙ all_hold_kept nodes now more negated back back_made v)
    ∙ halves_true (λ t. flips negated (holds nodes t v)) front back trees whole

pub front_made : (nodes : List NodeRecord) (front back trees : List Tree) → front ++ back ≡ trees
    → AllByRecursion (IsTree nodes) trees → AllByRecursion (IsTree nodes) front
front_made nodes front back trees e h =
    all_front (IsTree nodes) front back (subst (AllByRecursion (IsTree nodes)) (sym e) h)

pub back_made : (nodes now : List NodeRecord) → Extends nodes now → (front back trees : List Tree)
    → front ++ back ≡ trees → AllByRecursion (IsTree nodes) trees → AllByRecursion (IsTree now) back
back_made nodes now more front back trees e h =
    all_kept nodes now more back
    (all_back (IsTree nodes) front back (subst (AllByRecursion (IsTree nodes)) (sym e) h))

pub none_holds : (nodes : List NodeRecord) (negated : Bool) (trees : List Tree) → length trees ≡ 0 → (v : Valuation)
    → holds nodes always v ≡ all_hold nodes negated trees v
none_holds nodes negated [] none v = always_holds nodes v
none_holds nodes negated (t ∷ trees) none v = absurd (omega (arith, none))

pub one_holds : (nodes : List NodeRecord) (negated : Bool) (trees : List Tree) (tree : Tree) → trees ≡ tree ∷ []
    → (v : Valuation) → holds nodes (turned negated tree) v ≡ all_hold nodes negated trees v
one_holds nodes negated trees tree only v =
    holds_turned nodes negated tree v ∙ sym (and_true (flips negated (holds nodes tree v)))
    ∙ ap (λ ts. all_hold nodes negated ts v) (sym only)
