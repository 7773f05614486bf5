-- The nodes that the program keeps, as records, and their children.
use Rattle.std.specs.Prelude.{◌≡◌, List, [], ◌∷◌, map}
use Rattle.pep508_leaf_diagram.specs.declared.form.Form.{Form}
use Rattle.pep508_leaf_diagram.specs.declared.form.Form.TheVariants as form
use Rattle.pep508_tree.specs.Meaning.{NodeOf, Versions, Texts, Flagged}
use Rattle.pep508_leaf_diagram.specs.declared.child.Child.{Child}
use Rattle.pep508_leaf_diagram.specs.declared.diagram_node.NodeForm.{NodeForm}
use Rattle.pep508_leaf_diagram.specs.declared.diagram_node.NodeForm.TheVariants as node_form

-- the record of a form
abbrev pub record_of : {C : Type 0} → Form C → NodeOf C
record_of (form.Versions key first later) = Versions key first later.items
record_of (form.Texts key first later) = Texts key first later.items
record_of (form.Flagged flag set unset) = Flagged flag set unset

-- the record of a form that is lent or was made
abbrev pub form_record : NodeForm → NodeOf Child
form_record (node_form.Lent form) = record_of form.now
form_record (node_form.Made form) = record_of form

-- the children of a node behind the first, in turn
abbrev pub others : {C : Type 0} → NodeOf C → List C
others (Versions key first later) = map (λ branch. branch.child) later
others (Texts key first later) = map (λ branch. branch.child) later
others (Flagged flag set unset) = unset ∷ []

-- there is but one child
abbrev pub IsSingle : {C : Type 0} → NodeOf C → Type 0
IsSingle (Versions key first later) = later ≡ []
IsSingle (Texts key first later) = later ≡ []
IsSingle (Flagged flag set unset) = ⊥
