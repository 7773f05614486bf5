-- The nodes that the program keeps, as records.
use Rattle.pep508_tree.specs.declared.node.Form.{Form}
use Rattle.pep508_tree.specs.declared.node.Form.TheVariants as form
use Rattle.pep508_tree.specs.Meaning.{NodeOf, Versions, Texts, Flagged}

-- the record of a form
abbrev pub record_of : {C : Type 0} → Form C → NodeOf C
record_of (form.Versions key first later) = Versions key first later.items
record_of (form.Texts key first later) = Texts key first later.items
record_of (form.Flagged flag set unset) = Flagged flag set unset
