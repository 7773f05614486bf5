-- What the steps of reading the marker behind a front answer.
use Rattle.std.proofs.Common.{◌≡◌, ℕ, ◌==◌, Bool, true, false, if◌then◌else◌, List, [], ◌∷◌, Result, Ok, Err}
use Rattle.std.proofs.Common.{refl, ap, sym, subst, arith}
use Rattle.std.proofs.lemmas.List.{append-nil}
use Rattle.pep508_marker.specs.Warnings.{Warning}
use Rattle.pep508_marker.specs.Expression.{ExpressionRecord}
use Rattle.pep508_formula.specs.Postfix.{Part, formula_of}
use Rattle.pep508_diagram.specs.Question.{truth}
use Rattle.pep508_tree.specs.Tree.{Tree, always}
use Rattle.pep508_tree.specs.Meaning.{NodeRecord, Extends}
use Rattle.pep508_tree.proofs.Diagrams.{diagram_top}
use Rattle.pep508_error.specs.declared.refusal.Refusal.{Refusal}
use Rattle.pep508_error.specs.declared.refusal.RefusalKind.{RefusalKind}
use Rattle.pep508_error.specs.declared.refusal.RefusalKind.TheVariants as kinds
use Rattle.pep508_marker_parser.specs.SideReading.{Malformed}
use Rattle.pep508_marker_parser.specs.MarkerReading.{marker_at}
use Rattle.pep508_marker_parser.specs.Outcome.{Fits, Tells}
use Rattle.pep508_marker_parser.specs.MarkerOutcome.{IsTreeOf, ReadsMarker, SaysMarker}
use Rattle.pep508_requirement_text.specs.FrontOutcome.{IsPlain}
use Rattle.pep508_requirement.specs.MarkerBehind.{no_marker, marker_behind}

-- nothing was added
pub same_nodes : (nodes : List NodeRecord) → Extends nodes nodes
same_nodes nodes = ([], sym (append-nil nodes))

-- the tree that always holds is that of no marker
pub always_tree : (nodes : List NodeRecord) → IsTreeOf nodes always no_marker.formula
always_tree nodes = record {
  made = omega arith;
  truth = λ v. ap (λ d. truth d v) (diagram_top nodes always refl);
}

module _ {R : Type 0} (takes : R → Warning → R → Type 0) (old new : R) (nodes : List NodeRecord)
    (left : List ℕ) where
  -- nothing is left
  pub reads_none : old ≡ new → left ≡ [] → ReadsMarker takes old new nodes (Ok always) (marker_behind left)
  reads_none same none = (
    no_marker,
    ap marker_behind none,
    always_tree nodes,
    record { warnings = []; are_kinds = refl; taken = same },
  )

  -- a `;` is left, and more
  pub reads_inside : (result : Result Tree Refusal) (inside : List ℕ) → left ≡ 59 ∷ inside
      → ReadsMarker takes old new nodes result (marker_at inside)
      → ReadsMarker takes old new nodes result (marker_behind left)
  reads_inside result inside at h =
      subst (λ cs. ReadsMarker takes old new nodes result (marker_behind cs)) {x = 59 ∷ inside} (sym at) h

module _ {R : Type 0} (takes : R → Warning → R → Type 0) (old new : R) (left : List ℕ) where
  -- the same of formulas: nothing is left
  pub says_none : (parts : List (Part ExpressionRecord)) → parts ≡ [] → old ≡ new → left ≡ []
      → SaysMarker takes old new (Ok parts) (marker_behind left)
  says_none parts empty same none = (
    no_marker,
    ap marker_behind none,
    ap formula_of empty,
    record { warnings = []; are_kinds = refl; taken = same },
  )

  -- a `;` is left, and more
  pub says_inside : (result : Result (List (Part ExpressionRecord)) Refusal) (inside : List ℕ) → left ≡ 59 ∷ inside
      → SaysMarker takes old new result (marker_at inside) → SaysMarker takes old new result (marker_behind left)
  says_inside result inside at h =
      subst (λ cs. SaysMarker takes old new result (marker_behind cs)) {x = 59 ∷ inside} (sym at) h

-- a refusal of what begins no marker
plain_fits : (kind : RefusalKind) → IsPlain kind → Fits kind Malformed
plain_fits kinds.Memory h = tt
plain_fits (kinds.String message) h = tt
plain_fits (kinds.UnsupportedRequirement message) h = h
plain_fits kinds.NumberAtEnd h = h

refused_by : (kind : RefusalKind) (inside : List ℕ) (t : Bool) → t ≡ false → IsPlain kind
    → Tells kind (if t then marker_at inside else Err Malformed)
refused_by kind inside true e h = absurd (cc)
refused_by kind inside false e h = plain_fits kind h

-- another character is left
pub refuses_other : (kind : RefusalKind) (left : List ℕ) (c : ℕ) (inside : List ℕ) → left ≡ c ∷ inside
    → (c == 59) ≡ false → IsPlain kind → Tells kind (marker_behind left)
refuses_other kind left c inside at other h =
    subst (λ cs. Tells kind (marker_behind cs)) {x = c ∷ inside} (sym at)
    (refused_by kind inside (c == 59) other h)
