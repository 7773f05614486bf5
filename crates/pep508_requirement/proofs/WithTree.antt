-- A requirement that is read with its marker's formula is read with a tree of it.
use Rattle.std.proofs.Common.{◌≡◌, ◌∙◌, ℕ, Bool, List, None, Result, IfSome, ap, sym, subst}
use Rattle.pep508_url.specs.Vars.{Variables}
use Rattle.pep508_tree.specs.Tree.{Tree}
use Rattle.pep508_tree.specs.Meaning.{NodeRecord}
use Rattle.pep508_error.specs.declared.error.Pep508Error.{Pep508Error}
use Rattle.pep508_error.specs.declared.error.Pep508ErrorSource.{Pep508ErrorSource}
use Rattle.pep508_error.specs.declared.error.Pep508ErrorSource.TheVariants as sources
use Rattle.pep508_error.specs.Errors.{told_by}
use Rattle.pep508_formula.specs.Postfix.{formula_of}
use Rattle.pep508_marker_parser.specs.MarkerOutcome.{IsTreeOf}
use Rattle.pep508_requirement.specs.declared.marked_requirement.MarkedRequirement.{MarkedRequirement}
use Rattle.pep508_requirement.specs.declared.requirement.Requirement.{Requirement}
use Rattle.pep508_requirement.specs.MarkedReading.{IsReadMarked}
use Rattle.pep508_requirement.specs.RequirementReading.{IsReadUpTo, IsRead, IsRefused, RefusedBy}

module _ {T E : Type 0} (Reads : List ℕ → Result T E → Type 0) where
  -- the requirement with this tree
  abbrev pub made_of : MarkedRequirement T E → Tree → Requirement T E
  made_of r tree = record {
    name = r.name;
    extras = r.extras;
    version_or_url = r.version_or_url;
    marker = tree;
    origin = None;
  }

  pub read_with_tree : (nodes : List NodeRecord) (text : List ℕ) (r : MarkedRequirement T E) (made : Requirement T E)
      → IsReadMarked Reads text r → IsTreeOf nodes made.marker (formula_of r.formula)
      → made ≡ made_of r made.marker → IsRead Reads nodes text made
  read_with_tree nodes text r made h tree same = record {
    front = h.front;
    left = h.left;
    marker = h.marker;
    whole =
        subst (λ (other : Requirement T E). IsReadUpTo Reads text h.front other.version_or_url h.left) (sym same) h.whole;
    name = ap (λ (other : Requirement T E). other.name) same ∙ h.name;
    extras = ap (λ (other : Requirement T E). other.extras.items) same ∙ h.extras;
    is_marker = h.is_marker;
    tree = subst (λ formula. IsTreeOf nodes made.marker formula) h.formula tree;
    origin = ap (λ (other : Requirement T E). other.origin) same;
  }

  -- an error that tells want of memory says nothing of the text
  pub memory_refused : (lacks : E → Bool) (vars : Variables) (text : List ℕ) (error : Pep508Error T E)
      → error.message ≡ sources.Memory → IsRefused Reads lacks vars text error
  memory_refused lacks vars text error e = record {
    cause = subst (RefusedBy Reads lacks vars text) (sym e) tt;
    input =
        subst (λ (source : Pep508ErrorSource T E). IfSome (told_by source error.excerpt) (λ fault. fault.input ≡ text))
        (sym e) tt;
  }
