-- What is cut of a node, with a tree's sign on what stands there.
use Rattle.std.proofs.Common.{◌≡◌, ◌∙◌, inl, inr, Bool, List, [], ◌∷◌, map, refl, ap, ap₂, sym, Option, Some}
use Rattle.std.proofs.lemmas.Bool.{cases_Bool}
use Rattle.std.specs.declared.ops.Bound.{Bound}
use Rattle.version_ranges.specs.Point.{Point, point_cmp}
use Rattle.version_ranges.specs.Boundaries.{point_of}
use Rattle.version_ranges.specs.Bounds.{goes_on_to}
use Rattle.version_ranges.specs.Order.{start_point}
use Rattle.version_ranges.specs.Turns.{reaches}
use Rattle.pep440_text.specs.Record.{VersionRecord}
use Rattle.pep440_version.specs.Order.{version_cmp}
use Rattle.pep508_diagram.specs.declared.branch.Branch.{Branch}
use Rattle.pep508_diagram.specs.declared.variable.VersionVariable.TheVariants.{PythonFullVersion}
use Rattle.pep508_diagram.specs.Branches.{branch_at}
use Rattle.pep508_tree.specs.Tree.{Tree}
use Rattle.pep508_tree.specs.Meaning.{NodeRecord, Versions}
use Rattle.pep508_tree.specs.Nodes.{signed, turned}
use Rattle.pep508_simplification.specs.Parts.{signs}
use Rattle.pep508_simplification.specs.Within.{behind, up_to}
use Rattle.pep508_simplification.specs.Narrowed.{python_of, cut}
use Rattle.pep508_simplification.proofs.Rooted.{signed_versions}

module _ (turns : Bool) where
  at_signed : (first : Tree) (later : List (Branch VersionRecord Tree)) (p : Point VersionRecord) →
      branch_at version_cmp (turned turns first) (map (signs turns) later) p
      ≡ turned turns (branch_at version_cmp first later p)
  at_signed first [] p = refl
  at_signed first (b ∷ later) p =
      elim (cases_Bool (reaches (point_cmp version_cmp) (point_of b.boundary) p)) [
        | inl up ↦ rw up (at_signed b.child later p)
        | inr over ↦ rw over refl
      ]

  behind_signed : (later : List (Branch VersionRecord Tree)) (p : Point VersionRecord) →
      behind version_cmp p (map (signs turns) later) ≡ map (signs turns) (behind version_cmp p later)
  behind_signed [] p = refl
  behind_signed (b ∷ later) p =
      elim (cases_Bool (reaches (point_cmp version_cmp) (point_of b.boundary) p)) [
        | inl up ↦ rw up (behind_signed later p)
        | inr over ↦ rw over refl
      ]

  up_to_signed : (later : List (Branch VersionRecord Tree)) (upper : Bound VersionRecord) →
      up_to version_cmp upper (map (signs turns) later) ≡ map (signs turns) (up_to version_cmp upper later)
  up_to_signed [] upper = refl
  up_to_signed (b ∷ later) upper = elim (cases_Bool (goes_on_to version_cmp upper (point_of b.boundary))) [
    | inl on ↦ rw on (ap (λ rest. signs turns b ∷ rest) (up_to_signed later upper))
    | inr off ↦ rw off refl
  ]

  -- what is cut of the parts of a node is what is cut of the node
  pub cut_signed : (first : Tree) (later : List (Branch VersionRecord Tree)) (lower upper : Bound VersionRecord)
      (child : Tree) (rest : List (Branch VersionRecord Tree)) (head : Tree)
      (items : List (Branch VersionRecord Tree)) →
      child ≡ branch_at version_cmp first later (start_point lower) →
      rest ≡ behind version_cmp (start_point lower) later →
      head ≡ turned turns child → items ≡ map (signs turns) (up_to version_cmp upper rest) →
      (tree : Tree) (root : Option NodeRecord) → Some (signed turns (Versions PythonFullVersion first later)) ≡ root →
      (head, items) ≡ cut lower upper (python_of tree root)
  cut_signed first later lower upper child rest head items child_is rest_is head_is items_is tree root is =
      let start = start_point lower in
      let one : head ≡ branch_at version_cmp (turned turns first) (map (signs turns) later) start =
      head_is ∙ ap (turned turns) child_is ∙ sym (at_signed first later start) in
      let two : items ≡ up_to version_cmp upper (behind version_cmp start (map (signs turns) later)) =
      items_is ∙ ap (λ r. map (signs turns) (up_to version_cmp upper r)) rest_is
      ∙ sym (up_to_signed (behind version_cmp start later) upper)
      ∙ ap (up_to version_cmp upper) (sym (behind_signed later start)) in
      ap₂ (λ h i. (h, i)) one two
      ∙ ap (λ n. cut lower upper (python_of tree (Some n))) (sym (signed_versions turns PythonFullVersion first later))
      ∙ ap (λ o. cut lower upper (python_of tree o)) is
