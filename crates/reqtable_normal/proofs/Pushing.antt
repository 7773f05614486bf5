-- The text of one line more.
use Rattle.std.proofs.Common.{◌≡◌, ◌↔◌, ◌∙◌, ℕ, Bool, true, false, not, cond, IsTrue, List, [], ◌∷◌, ◌++◌}
use Rattle.std.proofs.Common.{append-nil, refl, ap, sym}
use Rattle.std.specs.List.{flat_map}
use Rattle.pep508_diagram.specs.Diagram.{Leaf}
use Rattle.pep508_tree.specs.Meaning.{NodeRecord, IsTree, diagram_of}
use Rattle.pep508_tree.specs.Nodes.{AreSound}
use Rattle.pep508_tree.specs.Tree.{Tree, never}
use Rattle.pep508_tree.proofs.OneTree.{canonical_trees, never_true}
use Rattle.pep508_tree.proofs.Shortened.{short_trees}
use Rattle.pep508_marker_text_laws.proofs.Spelled.{one_spelling}
use Rattle.reqtable_normal.specs.Normalized.{NormalLine, never_holds, line_text, lines_text}
use Rattle.reqtable_normal.proofs.ReadAgain.{never_fails}

module _ (nodes : List NodeRecord) (sound : AreSound nodes) (tree : Tree) (made : IsTree nodes tree) where
  never_named : tree ≡ never → never_holds (diagram_of nodes tree) ≡ true
  never_named e =
      ap never_holds
      (one_spelling (diagram_of nodes tree) (Leaf false) (canonical_trees nodes sound tree made) tt
      (short_trees nodes sound tree made) tt ((never_true nodes sound tree made).0 e))

  sometimes_by : (b : Bool) → never_holds (diagram_of nodes tree) ≡ b → (tree ≡ never → ⊥) → b ≡ false
  sometimes_by false e other = refl
  sometimes_by true e other =
      absurd (other ((never_true nodes sound tree made).1 (λ v. never_fails (diagram_of nodes tree) v e)))

  differ : false ≡ true → ⊥
  differ e = absurd (cc)

  told_by : (b : Bool) → (IsTrue b) ↔ (tree ≡ never) → b ≡ never_holds (diagram_of nodes tree)
  told_by true h = sym (never_named (h.0 refl))
  told_by false h = sym (sometimes_by (never_holds (diagram_of nodes tree)) refl (λ e. differ (h.1 e)))

-- what `is_false` answers
pub told : (nodes : List NodeRecord) (tree : Tree) (answer : Bool) → AreSound nodes → IsTree nodes tree →
    (IsTrue answer) ↔ (tree ≡ never) → answer ≡ never_holds (diagram_of nodes tree)
told nodes tree answer sound made h = told_by nodes sound tree made answer h

pub pushed : (line : NormalLine) (old new : List ℕ) → never_holds line.diagram ≡ false →
    new ≡ old ++ line_text line → new ≡ old ++ lines_text (line ∷ [])
pushed line old new once e =
    e ∙ ap (λ t. old ++ t) (sym (append-nil (line_text line)))
    ∙ ap (λ b. old ++ flat_map line_text (cond (not b) (line ∷ []) [])) (sym once)

pub skipped : (line : NormalLine) (old new : List ℕ) → never_holds line.diagram ≡ true → new ≡ old →
    new ≡ old ++ lines_text (line ∷ [])
skipped line old new never e =
    e ∙ sym (append-nil old) ∙ ap (λ b. old ++ flat_map line_text (cond (not b) (line ∷ []) [])) (sym never)
