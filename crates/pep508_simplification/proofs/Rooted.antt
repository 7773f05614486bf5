-- Nodes that are copied with a tree's sign.
use Rattle.std.proofs.Common.{◌≡◌, ◌∙◌, ℕ, Bool, true, false, List, [], ◌∷◌, map, refl, ap, ap₂, sym, subst}
use Rattle.std.proofs.Common.{Option, Some}
use Rattle.pep440_text.specs.Record.{VersionRecord}
use Rattle.pep508_marker.specs.declared.keys.MarkerValueString.{MarkerValueString}
use Rattle.pep508_diagram.specs.declared.branch.Branch.{Branch}
use Rattle.pep508_diagram.specs.declared.variable.VersionVariable.{VersionVariable}
use Rattle.pep508_tree.specs.Tree.{Tree}
use Rattle.pep508_tree.specs.Meaning.{NodeRecord, Versions, Texts}
use Rattle.pep508_tree.specs.Nodes.{signed, turned}
use Rattle.pep508_tree.specs.Roots.{IsRoot}
use Rattle.pep508_simplification.specs.Parts.{signs}

unsigned : {T : Type 0} (later : List (Branch T Tree)) → map (signs false) later ≡ later
unsigned [] = refl
unsigned (branch ∷ later) = ap (λ branches. branch ∷ branches) (unsigned later)

pub signed_versions : (turns : Bool) (key : VersionVariable) (first : Tree) (later : List (Branch VersionRecord Tree)) →
    signed turns (Versions key first later) ≡ Versions key (turned turns first) (map (signs turns) later)
signed_versions true key first later = refl
signed_versions false key first later = ap (Versions key first) (sym (unsigned later))

signed_texts : (turns : Bool) (key : MarkerValueString) (first : Tree) (later : List (Branch (List ℕ) Tree)) →
    signed turns (Texts key first later) ≡ Texts key (turned turns first) (map (signs turns) later)
signed_texts true key first later = refl
signed_texts false key first later = ap (Texts key first) (sym (unsigned later))

module _ (turns : Bool) (key : VersionVariable) (first head : Tree) (later items : List (Branch VersionRecord Tree))
    (head_is : head ≡ turned turns first) (items_is : items ≡ map (signs turns) later) where
  same_versions : signed turns (Versions key first later) ≡ Versions key head items
  same_versions =
      signed_versions turns key first later ∙ ap₂ (λ f l. Versions key f l) (sym head_is) (sym items_is)

  pub copy_versions : (root : Option NodeRecord) → Some (signed turns (Versions key first later)) ≡ root →
      Some (Versions key head items) ≡ root
  copy_versions root is = ap Some (sym same_versions) ∙ is

  pub known_versions : (nodes : List NodeRecord) (tree : Tree) →
      IsRoot nodes tree (signed turns (Versions key first later)) → IsRoot nodes tree (Versions key head items)
  known_versions nodes tree root = subst (IsRoot nodes tree) same_versions root

module _ (turns : Bool) (key : MarkerValueString) (first head : Tree) (later items : List (Branch (List ℕ) Tree))
    (head_is : head ≡ turned turns first) (items_is : items ≡ map (signs turns) later) where
  same_texts : signed turns (Texts key first later) ≡ Texts key head items
  same_texts = signed_texts turns key first later ∙ ap₂ (λ f l. Texts key f l) (sym head_is) (sym items_is)

  pub copy_texts : (root : Option NodeRecord) → Some (signed turns (Texts key first later)) ≡ root →
      Some (Texts key head items) ≡ root
  copy_texts root is = ap Some (sym same_texts) ∙ is

  pub known_texts : (nodes : List NodeRecord) (tree : Tree) →
      IsRoot nodes tree (signed turns (Texts key first later)) → IsRoot nodes tree (Texts key head items)
  known_texts nodes tree root = subst (IsRoot nodes tree) same_texts root

-- What is copied of the edges of a root, and what is known of them.
pub ruleset root_rules = (copy_versions, copy_texts, known_versions, known_texts)
