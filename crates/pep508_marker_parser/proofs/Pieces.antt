-- Comparisons of markers as pieces of formulas.
use Rattle.std.proofs.Common.{◌≡◌, ℕ, Bool, true, false, if◌then◌else◌, List, Some, None, Ok, Err, ap, sym}
use Rattle.std.proofs.Common.{subst, ◌∙◌}
use Rattle.std.specs.Prelude.{Option}
use Rattle.pep508_marker.specs.Warnings.{Warning}
use Rattle.pep508_marker.specs.declared.expression.MarkerExpression.{MarkerExpression}
use Rattle.pep508_marker.specs.Expression.{ExpressionRecord, expression_of}
use Rattle.pep508_formula.specs.declared.formula_builder.FormulaBuilder.{FormulaBuilder}
use Rattle.pep508_expression.specs.Expressions.{has_points}
use Rattle.pep508_error.specs.declared.cursor.Cursor.{Cursor}
use Rattle.pep508_error.specs.declared.refusal.RefusalKind.TheVariants.{NumberAtEnd}
use Rattle.pep508_error.specs.Cursors.{behind}
use Rattle.pep508_error.specs.Steps.{◌>>=◌}
use Rattle.pep508_comparison_parser.specs.Compared.{Compared}
use Rattle.pep508_comparison_parser.specs.SideReading.{AtEnd, Reading, compared_at}
use Rattle.pep508_comparison_parser.specs.Outcome.{Tells, IsCompared}
use Rattle.pep508_marker_parser.specs.Formula.{Says, LeftOut}
use Rattle.pep508_marker_parser.specs.MarkerReading.{Marker, of_said, of_compared, comparison_at}
use Rattle.pep508_marker_parser.specs.FormulaReading.{ReadsPiece, IsNextPiece}

module _ {R : Type 0} (takes : R → Warning → R → Type 0) (old new : R) (cs : List ℕ) where
  -- what was returned of a comparison that was read
  abbrev pub Found : Option MarkerExpression → Cursor → Type 0
  Found said later =
      (c : Compared) × (compared_at cs ≡ Ok (c, behind later)) × IsCompared takes old new said c

  at_comparison : (said : Option ExpressionRecord) (c : Compared) (later : Cursor)
      → compared_at cs ≡ Ok (c, behind later) → said ≡ c.said
      → comparison_at cs ≡ of_said said c.warned (behind later)
  unfolding comparison_at
  at_comparison said c later e same =
      ap (λ r. r >>= of_compared) e ∙ ap (λ s. of_said s c.warned (behind later)) (sym same)

  abbrev said_by : Bool → ExpressionRecord → Compared → Cursor → Reading Marker
  said_by t expression c later =
      if t then Ok (record { formula = Says expression; warned = c.warned }, behind later) else Err AtEnd

  pub left_out_read : (before after : FormulaBuilder) (later : Cursor) → Found None later
      → IsNextPiece before after LeftOut
      → ReadsPiece takes old new before after (Ok later) (comparison_at cs)
  left_out_read before after later (c, e, is) next = (
    record { formula = LeftOut; warned = c.warned },
    at_comparison None c later e is.said_is,
    next,
    is.warned,
  )

  pub says_read : (before after : FormulaBuilder) (expression : MarkerExpression) (later : Cursor)
      → Found (Some expression) later → has_points (expression_of expression) ≡ true
      → IsNextPiece before after (Says (expression_of expression))
      → ReadsPiece takes old new before after (Ok later) (comparison_at cs)
  says_read before after expression later (c, e, is) has next = (
    record { formula = Says (expression_of expression); warned = c.warned },
    at_comparison (Some (expression_of expression)) c later e is.said_is
        ∙ ap (λ t. said_by t (expression_of expression) c later) has,
    next,
    is.warned,
  )

  pub at_end_read : (expression : MarkerExpression) (later : Cursor) → Found (Some expression) later
      → has_points (expression_of expression) ≡ false → Tells NumberAtEnd (comparison_at cs)
  at_end_read expression later (c, e, is) h =
      subst (Tells NumberAtEnd)
      (sym (at_comparison (Some (expression_of expression)) c later e is.said_is
      ∙ ap (λ t. said_by t (expression_of expression) c later) h)) tt
