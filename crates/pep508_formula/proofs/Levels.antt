-- How a builder goes on, step by step.
use Rattle.std.proofs.Common.{◌≡◌, true, false, List, [], ◌∷◌, ◌++◌, Option, Some, None, is_some, refl, ap, sym}
use Rattle.std.proofs.Common.{◌∙◌, true≢false}
use Rattle.pep508_marker.specs.Expression.{ExpressionRecord}
use Rattle.pep508_formula.specs.declared.formula_builder.FormulaBuilder.{FormulaBuilder}
use Rattle.pep508_formula.specs.Formula.{LeftOut, Both, Either}
use Rattle.pep508_formula.specs.Postfix.{Part, ByAnd, ByOr, built, built_by, joined_last}
use Rattle.pep508_formula.specs.Building.{Said, Begun, join_on, listed, stack_of, Stands}
use Rattle.pep508_formula.proofs.Building.{built_behind}

-- the stack behind one part more
stack_on : (old new : List (Part ExpressionRecord)) (part : Part ExpressionRecord) (stack : List Said) →
    new ≡ old ++ part ∷ [] → built [] old ≡ stack → built [] new ≡ built_by part stack
stack_on old new part stack e s =
    ap (built []) e ∙ built_behind [] old (part ∷ []) ∙ ap (built_by part) s

-- a piece is said
pub said_on : (old : FormulaBuilder) (new : List (Part ExpressionRecord)) (part : Part ExpressionRecord) (f : Said) →
    ((stack : List Said) → built_by part stack ≡ f ∷ stack) → new ≡ old.formula ++ part ∷ [] →
    (begun : Begun) (waiting : List Begun) → Stands old None begun waiting →
    Stands (record { formula = new; waiting = old.waiting; here = old.here }) (Some f) begun waiting
said_on old new part f says e begun waiting h = record {
  stack = stack_on old.formula new part (stack_of (begun ∷ waiting)) e h.stack ∙ says (stack_of (begun ∷ waiting));
  here = h.here;
  others = h.others;
}

-- what is said goes on a chain that has begun, or begins it
module _ (part : Part ExpressionRecord) (join : Said → Said → Said)
    (joins : (stack : List Said) → built_by part stack ≡ joined_last LeftOut join stack) where
  joined_on : (old new : List (Part ExpressionRecord)) → new ≡ old ++ part ∷ [] → (chain : Option Said) →
      true ≡ is_some chain → (piece : Said) (rest : List Said) → built [] old ≡ piece ∷ (listed chain ++ rest) →
      built [] new ≡ join_on join chain piece ∷ rest
  joined_on old new e None some piece rest s = absurd (true≢false some)
  joined_on old new e (Some f) some piece rest s =
      stack_on old new part (piece ∷ f ∷ rest) e s ∙ joins (piece ∷ f ∷ rest)

  begins_on : (old : List (Part ExpressionRecord)) → (chain : Option Said) → false ≡ is_some chain →
      (piece : Said) (rest : List Said) → built [] old ≡ piece ∷ (listed chain ++ rest) →
      built [] old ≡ join_on join chain piece ∷ rest
  begins_on old None none piece rest s = s
  begins_on old (Some f) none piece rest s = absurd (true≢false (sym none))

-- ---- a piece goes on the chain of `and`

module _ (old : FormulaBuilder) (piece : Said) (begun : Begun) (waiting : List Begun)
    (h : Stands old (Some piece) begun waiting) where
  abbrev Taken : List (Part ExpressionRecord) → Type 0
  Taken new =
      Stands (record { formula = new; waiting = old.waiting; here = record { either = old.here.either; both = true } })
      None (record { either = begun.either; both = Some (join_on Both begun.both piece) }) waiting

  taken_by : (new : List (Part ExpressionRecord)) →
      built [] new ≡ join_on Both begun.both piece ∷ (listed begun.either ++ stack_of waiting) → Taken new
  taken_by new s = record {
    stack = s;
    here = record { either_is = h.here.either_is; both_is = refl };
    others = h.others;
  }

  pub taken_first : old.here.both ≡ false → Taken old.formula
  taken_first e =
      taken_by old.formula
      (begins_on ByAnd Both (λ s. refl) old.formula begun.both (sym e ∙ h.here.both_is) piece
      (listed begun.either ++ stack_of waiting) h.stack)

  pub taken_on : (new : List (Part ExpressionRecord)) → new ≡ old.formula ++ ByAnd ∷ [] → old.here.both ≡ true →
      Taken new
  taken_on new n e =
      taken_by new
      (joined_on ByAnd Both (λ s. refl) old.formula new n begun.both (sym e ∙ h.here.both_is) piece
      (listed begun.either ++ stack_of waiting) h.stack)

-- ---- the chain of `and` goes on that of `or`

module _ (old : FormulaBuilder) (chain : Said) (begun : Begun) (waiting : List Begun)
    (h : Stands old None (record { either = begun.either; both = Some chain }) waiting) where
  abbrev Ended : List (Part ExpressionRecord) → Type 0
  Ended new =
      Stands (record { formula = new; waiting = old.waiting; here = record { either = true; both = false } })
      None (record { either = Some (join_on Either begun.either chain); both = None }) waiting

  ended_by : (new : List (Part ExpressionRecord)) →
      built [] new ≡ join_on Either begun.either chain ∷ stack_of waiting → Ended new
  ended_by new s = record {
    stack = s;
    here = record { either_is = refl; both_is = refl };
    others = h.others;
  }

  pub ended_first : old.here.either ≡ false → Ended old.formula
  ended_first e =
      ended_by old.formula
      (begins_on ByOr Either (λ s. refl) old.formula begun.either (sym e ∙ h.here.either_is) chain (stack_of waiting)
      h.stack)

  pub ended_on : (new : List (Part ExpressionRecord)) → new ≡ old.formula ++ ByOr ∷ [] → old.here.either ≡ true →
      Ended new
  ended_on new n e =
      ended_by new
      (joined_on ByOr Either (λ s. refl) old.formula new n begun.either (sym e ∙ h.here.either_is) chain
      (stack_of waiting) h.stack)
