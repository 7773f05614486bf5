-- Formulas in postfix order: a joining word follows what it joins.
use Rattle.std.specs.Prelude.{ℕ, suc, zero, Bool, ◌&&◌, ◌||◌, List, [], ◌∷◌, ◌++◌, map, Option, Some, None}
use Rattle.std.specs.Global.{Box}
use Rattle.pep508_marker.specs.declared.expression.MarkerExpression.{MarkerExpression}
use Rattle.pep508_marker.specs.Expression.{ExpressionRecord, expression_of}
use Rattle.pep508_formula.specs.declared.formula.Token.{Token}
use Rattle.pep508_formula.specs.declared.formula.Token.TheVariants as tokens
use Rattle.pep508_formula.specs.declared.formula_parts.FormulaPart.{FormulaPart}
use Rattle.pep508_formula.specs.declared.formula_parts.FormulaPart.TheVariants as parts
use Rattle.pep508_formula.specs.declared.formula_parts.Parts.{Parts}
use Rattle.pep508_formula.specs.Formula.{Formula, Says, LeftOut, Both, Either, joined}

-- a comparison, a meaningless one, or what joins the last two formulas
pub data Part (E : Type 0) : Type 0 where
  Compared : E → Part E
  Passed : Part E
  ByAnd : Part E
  ByOr : Part E

abbrev pub part_of : FormulaPart → Part ExpressionRecord
part_of (parts.Says e) = Compared (expression_of e.now)
part_of parts.LeftOut = Passed
part_of parts.And = ByAnd
part_of parts.Or = ByOr

-- the parts that tokens are, with these comparisons; a missing one is left out
abbrev pub parts_of : List Token → List ExpressionRecord → List (Part ExpressionRecord)
parts_of [] said = []
parts_of (tokens.Says ∷ ts) [] = Passed ∷ parts_of ts []
parts_of (tokens.Says ∷ ts) (e ∷ said) = Compared e ∷ parts_of ts said
parts_of (tokens.LeftOut ∷ ts) said = Passed ∷ parts_of ts said
parts_of (tokens.And ∷ ts) said = ByAnd ∷ parts_of ts said
parts_of (tokens.Or ∷ ts) said = ByOr ∷ parts_of ts said

-- the number of comparisons among tokens
abbrev pub count_said : List Token → ℕ
count_said [] = zero
count_said (tokens.Says ∷ ts) = suc (count_said ts)
count_said (tokens.LeftOut ∷ ts) = count_said ts
count_said (tokens.And ∷ ts) = count_said ts
count_said (tokens.Or ∷ ts) = count_said ts

abbrev pub said_of : List (Box MarkerExpression) → List ExpressionRecord
said_of = map (λ kept. expression_of kept.value)

-- the remaining parts of a formula
abbrev pub parts_in : Parts → List (Part ExpressionRecord)
parts_in p = parts_of p.tokens.now (said_of p.said.now)

-- a formula's parts
abbrev pub postfix : {E : Type 0} → Formula E → List (Part E)
postfix (Says e) = Compared e ∷ []
postfix LeftOut = Passed ∷ []
postfix (Both f g) = postfix f ++ (postfix g ++ ByAnd ∷ [])
postfix (Either f g) = postfix f ++ (postfix g ++ ByOr ∷ [])

-- the last of some, with a default where there is none; and the others
abbrev pub last_or : {A : Type 0} → A → List A → A
last_or none [] = none
last_or none (a ∷ stack) = a

abbrev pub rest_of : {A : Type 0} → List A → List A
rest_of [] = []
rest_of (a ∷ stack) = stack

-- the last two joined, with a default for one that is missing
abbrev pub joined_last : {A : Type 0} → A → (A → A → A) → List A → List A
joined_last none join [] = join none none ∷ []
joined_last none join (b ∷ []) = join none b ∷ []
joined_last none join (b ∷ a ∷ stack) = join a b ∷ stack

-- the formulas of which none is part of another, the last first, after one more part
abbrev pub built_by : {E : Type 0} → Part E → List (Formula E) → List (Formula E)
built_by (Compared e) stack = Says e ∷ stack
built_by Passed stack = LeftOut ∷ stack
built_by ByAnd stack = joined_last LeftOut Both stack
built_by ByOr stack = joined_last LeftOut Either stack

abbrev pub built : {E : Type 0} → List (Formula E) → List (Part E) → List (Formula E)
built stack [] = stack
built stack (part ∷ parts) = built (built_by part stack) parts

-- the formula that some parts are
abbrev pub formula_of : {E : Type 0} → List (Part E) → Formula E
formula_of parts = last_or LeftOut (built [] parts)

-- the truths of the formulas of which none is part of another, the last first, after one more part; one
-- that is left out is `None`
abbrev pub told_by : {E : Type 0} → (E → Bool) → Part E → List (Option Bool) → List (Option Bool)
told_by truth (Compared e) stack = Some (truth e) ∷ stack
told_by truth Passed stack = None ∷ stack
told_by truth ByAnd stack = joined_last None (joined (λ a b. a && b)) stack
told_by truth ByOr stack = joined_last None (joined (λ a b. a || b)) stack

abbrev pub told : {E : Type 0} → (E → Bool) → List (Option Bool) → List (Part E) → List (Option Bool)
told truth stack [] = stack
told truth stack (part ∷ parts) = told truth (told_by truth part stack) parts
