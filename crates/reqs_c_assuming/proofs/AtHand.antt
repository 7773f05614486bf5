-- A call with the condition that was read of an argument, and with no variables.
use Rattle.std.proofs.Common.{◌≡◌, ℕ, List, inl, subst}
use Rattle.pep508_formula.specs.Postfix.{Part, formula_of}
use Rattle.pep508_marker.specs.Expression.{ExpressionRecord}
use Rattle.pep508_url.specs.Vars.{Variables}
use Rattle.reqtable_assumption.specs.Where.{Condition}
use Rattle.reqs_c_reply.specs.Endings.{Ending}
use Rattle.reqs_c_markers.specs.Markers.{IsFormulaIn}
use Rattle.reqs_c_markers.specs.Parts.{no_variables}
use Rattle.reqs_c_assuming.specs.Assuming.{WithCondition}

pub with_condition : (argument : ℕ) (Ends : Variables → Condition → Ending → Type 0) (bytes : List ℕ) (vars : Variables)
    (parts : List (Part ExpressionRecord)) (ending : Ending) → vars ≡ no_variables → IsFormulaIn bytes parts
    → Ends vars (formula_of parts) ending → WithCondition argument (Ends no_variables) bytes ending
with_condition argument Ends bytes vars parts ending none read h =
    let alone = subst (λ (v : Variables). Ends v (formula_of parts) ending) none h in
    inl (read.marker, read.is_marker, subst (λ (c : Condition). Ends no_variables c ending) read.is_formula alone)
