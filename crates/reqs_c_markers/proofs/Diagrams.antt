-- Diagrams of trees.
use Rattle.std.proofs.Common.{◌≡◌, ◌↔◌, Bool, true, false, not, IsTrue, List, ap, refl, sym}
use Rattle.pep508_diagram.specs.Diagram.{Diagram, Leaf, Test}
use Rattle.pep508_diagram.specs.Question.{Question, Valuation, truth}
use Rattle.pep508_tree.specs.Tree.{Tree, never}
use Rattle.pep508_tree.specs.Meaning.{NodeRecord, IsTree, diagram_of}
use Rattle.pep508_tree.specs.Nodes.{AreSound}
use Rattle.pep508_tree.proofs.OneTree.{canonical_trees, never_true}
use Rattle.pep508_tree.proofs.Shortened.{short_trees}
use Rattle.pep508_marker_text_laws.proofs.Spelled.{one_spelling}
use Rattle.reqs_c_markers.specs.NormalTexts.{IsNormalDiagram, never_holds}

not_never : (b : Bool) → not b ≡ true → b ≡ false
not_never false h = refl
not_never true h = absurd (cc)

-- a diagram that never holds is false
never_fails : (d : Diagram Question) (v : Valuation) → never_holds d ≡ true → truth d v ≡ false
never_fails (Leaf b) v h = not_never b h
never_fails (Test q low high) v h = absurd (cc)

module _ (nodes : List NodeRecord) (sound : AreSound nodes) (tree : Tree) (made : IsTree nodes tree) where
  pub normal : IsNormalDiagram (diagram_of nodes tree)
  normal = record {
    canonical = canonical_trees nodes sound tree made;
    short = short_trees nodes sound tree made;
  }

  never_named : tree ≡ never → never_holds (diagram_of nodes tree) ≡ true
  never_named e =
      ap never_holds
      (one_spelling (diagram_of nodes tree) (Leaf false) normal.canonical tt normal.short tt
      ((never_true nodes sound tree made).0 e))

  sometimes_by : (b : Bool) → never_holds (diagram_of nodes tree) ≡ b → (tree ≡ never → ⊥) → b ≡ false
  sometimes_by false e other = refl
  sometimes_by true e other =
      absurd (other ((never_true nodes sound tree made).1 (λ v. never_fails (diagram_of nodes tree) v e)))

  differ : false ≡ true → ⊥
  differ e = absurd (cc)

  -- what `is_false` answers is whether the diagram never holds
  pub never_by_name : (b : Bool) → (IsTrue b) ↔ (tree ≡ never) → b ≡ never_holds (diagram_of nodes tree)
  never_by_name true h = sym (never_named (h.0 refl))
  never_by_name false h = sym (sometimes_by (never_holds (diagram_of nodes tree)) refl (λ e. differ (h.1 e)))
