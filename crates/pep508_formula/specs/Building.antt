-- Formulas that were begun, each but the last waiting for the end of the next: `and` binds before `or`.
use Rattle.std.specs.Prelude.{◌≡◌, List, [], ◌∷◌, ◌++◌, reverse, Option, Some, None, is_some}
use Rattle.pep508_marker.specs.Expression.{ExpressionRecord}
use Rattle.pep508_formula.specs.declared.formula_builder.Level.{Level}
use Rattle.pep508_formula.specs.declared.formula_builder.FormulaBuilder.{FormulaBuilder}
use Rattle.pep508_formula.specs.Formula.{Formula}
use Rattle.pep508_formula.specs.Postfix.{built}

abbrev pub Said : Type 0
Said = Formula ExpressionRecord

-- a formula so far: its chains of `and` that have ended, and the pieces of the one that hasn't
pub record Begun : Type 0 where
  pub either : Option Said
  pub both : Option Said

abbrev pub nothing : Begun
nothing = record { either = None; both = None }

-- chains of `and` that have ended, and nothing after them
abbrev pub whole_of : Said → Begun
whole_of f = record { either = Some f; both = None }

abbrev pub join_on : (Said → Said → Said) → Option Said → Said → Said
join_on join None f = f
join_on join (Some g) f = join g f

abbrev pub listed : Option Said → List Said
listed None = []
listed (Some f) = f ∷ []

-- the formulas of which none is part of another yet, the last first
abbrev pub stack_of : List Begun → List Said
stack_of [] = []
stack_of (begun ∷ waiting) = listed begun.both ++ (listed begun.either ++ stack_of waiting)

-- the level says what there is
pub record IsLevel (level : Level) (begun : Begun) : Type 0 where
  pub either_is : level.either ≡ is_some begun.either
  pub both_is : level.both ≡ is_some begun.both

abbrev pub AreLevels : List Level → List Begun → Type 0
AreLevels [] [] = Unit {0}
AreLevels [] (begun ∷ waiting) = ⊥
AreLevels (level ∷ levels) [] = ⊥
AreLevels (level ∷ levels) (begun ∷ waiting) = IsLevel level begun × AreLevels levels waiting

-- the builder has this formula so far, and then a piece that is not yet joined with it, or none
pub record Stands (b : FormulaBuilder) (piece : Option Said) (begun : Begun) (waiting : List Begun)
    : Type 0 where
  pub stack : built [] b.formula ≡ listed piece ++ stack_of (begun ∷ waiting)
  pub here : IsLevel b.here begun
  pub others : AreLevels (reverse b.waiting.items) waiting
