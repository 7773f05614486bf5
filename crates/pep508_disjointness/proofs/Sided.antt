-- What stands in a node and in a side, and the nodes of their pairs.
use Rattle.std.proofs.Common.{◌≡◌, ◌∙◌, inl, inr, ℕ, Bool, true, false, cond, List, [], ◌∷◌, map, refl, ap}
use Rattle.std.proofs.Common.{Equal}
use Rattle.pep440_text.specs.Record.{VersionRecord}
use Rattle.pep440_version.specs.Order.{version_cmp}
use Rattle.pep508_marker.specs.declared.keys.MarkerValueString.{MarkerValueString}
use Rattle.pep508_diagram.specs.declared.branch.Branch.{Branch}
use Rattle.pep508_diagram.specs.declared.variable.VersionVariable.{VersionVariable}
use Rattle.pep508_diagram.specs.declared.variable.Flag.{Flag}
use Rattle.pep508_diagram.specs.Text.{text_cmp}
use Rattle.pep508_diagram.specs.Branches.{RisingBranches}
use Rattle.pep508_diagram.specs.Pairing.{AreChildPairs}
use Rattle.pep508_tree.specs.Tree.{Tree}
use Rattle.pep508_tree.specs.Meaning.{NodeRecord, Versions, Texts, Flagged}
use Rattle.pep508_tree.specs.Nodes.{IsRising, counterpart, node_place, signed, first_child, second_child}
use Rattle.pep508_tree.specs.Nodes.{version_branches, text_branches}
use Rattle.pep508_tree.specs.Roots.{IsRoot}
use Rattle.pep508_tree.proofs.Pairs.{versions_paired, texts_paired, counterpart_same}
use Rattle.pep508_disjointness.specs.declared.child_pairs.Side.{Side}
use Rattle.pep508_disjointness.specs.Sides.{with_side, AreSidePairs}
use Rattle.pep508_disjointness.specs.Pairs.{turned_pair}

module _ (nodes : List NodeRecord) (tree : Tree) (side : Side) (negated : Bool)
    (pairs turned : List (Tree × Tree)) (same : turned ≡ map (turned_pair negated side.negated) pairs) where
  pub versions_pairs : (key : VersionVariable) (first : Tree) (later : List (Branch VersionRecord Tree)) →
      IsRoot nodes tree (signed negated (Versions key first later)) →
      AreChildPairs version_cmp first later side.first side.versions.now pairs →
      AreSidePairs nodes tree side turned
  versions_pairs key first later root are = record {
    negated = negated;
    node = Versions key first later;
    root = root;
    plain = Versions key (first, side.first) are.branches;
    pairs_are = same ∙ ap (map (turned_pair negated side.negated)) are.pairs_are;
    paired = versions_paired (Versions key first later) key first later side.first side.versions.now
        side.texts.now
        side.second are.branches refl are.points are.rises are.children;
  }

  pub texts_pairs : (key : MarkerValueString) (first : Tree) (later : List (Branch (List ℕ) Tree)) →
      IsRoot nodes tree (signed negated (Texts key first later)) →
      AreChildPairs text_cmp first later side.first side.texts.now pairs →
      AreSidePairs nodes tree side turned
  texts_pairs key first later root are = record {
    negated = negated;
    node = Texts key first later;
    root = root;
    plain = Texts key (first, side.first) are.branches;
    pairs_are = same ∙ ap (map (turned_pair negated side.negated)) are.pairs_are;
    paired = texts_paired (Texts key first later) key first later side.first side.versions.now side.texts.now
        side.second are.branches refl are.points are.rises are.children;
  }

  either : (b : Bool) (set unset : Tree) →
      ◌≡◌ {A = Tree × Tree} (cond b (set, side.first) (unset, side.second))
      (cond b set unset, cond b side.first side.second)
  either true set unset = refl
  either false set unset = refl

  pub flag_pairs : (flag : Flag) (set unset : Tree) →
      IsRoot nodes tree (signed negated (Flagged flag set unset)) →
      pairs ≡ (set, side.first) ∷ (unset, side.second) ∷ [] → AreSidePairs nodes tree side turned
  flag_pairs flag set unset root are = record {
    negated = negated;
    node = Flagged flag set unset;
    root = root;
    plain = Flagged flag (set, side.first) (unset, side.second);
    pairs_are = same ∙ ap (map (turned_pair negated side.negated)) are;
    paired = record {
      place_is = refl;
      rises = tt;
      chosen_is = λ v. either (v.flag flag) set unset;
      children = ((inl refl, inl refl), (inr refl, inr refl));
    };
  }

-- a side of a tree that does not ask for the variable
pub tree_beside : (n : NodeRecord) (u : Tree) (side : Side) → side.first ≡ u → side.versions.now ≡ [] →
    side.texts.now ≡ [] → side.second ≡ u → with_side n side ≡ counterpart n u [] [] u
tree_beside n u side first versions texts second =
    λ i. counterpart n (first i) (versions i) (texts i) (second i)

-- a side of a node of the variable
pub node_beside : (n m : NodeRecord) (side : Side) → side.first ≡ first_child m →
    side.versions.now ≡ version_branches m → side.texts.now ≡ text_branches m →
    side.second ≡ second_child m → text_cmp (node_place n) (node_place m) ≡ Equal → with_side n side ≡ m
node_beside n m side first versions texts second same =
    (λ i. counterpart n (first i) (versions i) (texts i) (second i)) ∙ counterpart_same n m same

pub versions_rise : (n : NodeRecord) → IsRising n → RisingBranches version_cmp (version_branches n)
versions_rise (Versions key first later) rises = rises
versions_rise (Texts key first later) rises = tt
versions_rise (Flagged flag set unset) rises = tt

pub texts_rise : (n : NodeRecord) → IsRising n → RisingBranches text_cmp (text_branches n)
texts_rise (Versions key first later) rises = tt
texts_rise (Texts key first later) rises = rises
texts_rise (Flagged flag set unset) rises = tt
