use Rattle.std.proofs.Common.{◌↔◌, ◌∙◌, IsTrue, sym, subst, ap₂, not}
use mathlib.Core.Bool.{beq}
use Rattle.pep508_tree.specs.Disjoint.{AreDisjoint}
use Rattle.pep508_disjointness.proofs.Plain.{first_never, first_always, one_diagram, second_constant}
use Rattle.pep508_disjointness.proofs.disjointness.plain_disjointness.Goals as goal

pub returns-then-is_negated : goal.returns-then-is_negated
returns-then-is_negated c nodes sound made other = (
  λ h.
      first_never nodes sound c.args.a c.args.b (sym c.place.ensures ∙ c.if-place-eq0.true)
      (sym c.is_negated.ensures ∙ c.if-is_negated.true),
  λ apart. c.if-is_negated.true,
)

pub returns-else-is_negated : goal.returns-else-is_negated
returns-else-is_negated c nodes sound made other =
    let exactly = first_always nodes sound c.args.a c.args.b (sym c.place.ensures ∙ c.if-place-eq0.true)
    (sym c.is_negated.ensures ∙ c.if-is_negated.false) other in (
      λ h. exactly.1 (c.is_false.ensures.0 h),
      λ apart. c.is_false.ensures.1 (exactly.0 apart),
    )

pub returns-then-place-eq0-2 : goal.returns-then-place-eq0-2
returns-then-place-eq0-2 c nodes sound made other =
    second_constant nodes sound c.args.a c.args.b (sym c.place-2.ensures ∙ c.if-place-eq0-2.true)
    (λ e. c.if-place-eq0.false (c.place.ensures ∙ e)) made c.is_negated-then-place-eq0-2.result
    (sym c.is_negated-then-place-eq0-2.ensures)

pub returns : goal.returns
returns c nodes sound made other =
    subst (λ same. IsTrue (not same) ↔ AreDisjoint nodes c.args.a c.args.b)
    (sym (ap₂ beq c.is_negated-2.ensures c.is_negated-3.ensures))
    (one_diagram nodes sound c.args.a c.args.b
    (sym c.place-3.ensures ∙ c.if-place.false ∙ c.place-4.ensures)
    (λ e. c.if-place-eq0.false (c.place.ensures ∙ e)) made)
