-- What restricted lines require: what the lines do where the condition holds, and nothing elsewhere.
use Rattle.std.proofs.Common.{◌≡◌, ◌∙◌, ℕ, Bool, true, false, cond, ◌&&◌, List, [], ◌∷◌, map, filter, Option, Some, None}
use Rattle.std.proofs.Common.{unwrap_or, refl, ap, sym, subst}
use Rattle.pep508_marker.specs.Expression.{ExpressionRecord}
use Rattle.pep508_marker_parser.specs.Formula.{Formula, Both, joined, truth_in, formula_holds}
use Rattle.pep508_diagram.specs.Question.{Valuation}
use Rattle.pep508_expression.specs.Expressions.{expression_holds}
use Rattle.pep508_requirement_text.specs.FrontReading.{Front}
use Rattle.reqtable_answer.specs.Asks.{is_of}
use Rattle.reqtable_requirements.specs.Asks.{applies, asks_of, lines_of}
use Rattle.reqtable_requirements.specs.LineReading.{LineRecord}
use Rattle.reqtable_cases.specs.Requires.{RequireAlike, RequireTheSame, asked_of}
use Rattle.reqtable_compare.specs.Relations.{IsCovered}
use Rattle.reqtable_covers.specs.Covering.{CoversLines}
use Rattle.reqtable_assumption.specs.Where.{Condition, is_met, line_where, lines_where, RequireTheSameWhere}
use Rattle.reqtable_assumption.specs.Where.{CoversLinesWhere}

and_true : (a : Bool) → (a && true) ≡ a
and_true true = refl
and_true false = refl

and_false : (a : Bool) → (a && false) ≡ false
and_false true = refl
and_false false = refl

both_of : (a b : Option Bool) → (unwrap_or a true && unwrap_or b true) ≡ unwrap_or (joined (λ x y. x && y) a b) true
both_of None b = refl
both_of (Some a) None = and_true a
both_of (Some a) (Some b) = refl

-- the formula of two joined by `and` holds where both do
pub both : {E : Type 0} (truth : E → Bool) (f g : Formula E)
    → (formula_holds truth f && formula_holds truth g) ≡ formula_holds truth (Both f g)
both truth f g = both_of (truth_in truth f) (truth_in truth g)

pub applies_where : (formula : Condition) (v : Valuation) (line : LineRecord)
    → applies v (line_where formula line) ≡ (applies v line && is_met formula v)
applies_where formula v line = sym (both (λ (e : ExpressionRecord). expression_holds e v) line.formula formula)

pub applies_met : (formula : Condition) (v : Valuation) → is_met formula v ≡ true → (line : LineRecord)
    → applies v (line_where formula line) ≡ applies v line
applies_met formula v is line =
    applies_where formula v line ∙ ap (λ b. applies v line && b) is ∙ and_true (applies v line)

pub applies_unmet : (formula : Condition) (v : Valuation) → is_met formula v ≡ false → (line : LineRecord)
    → applies v (line_where formula line) ≡ false
applies_unmet formula v is line =
    applies_where formula v line ∙ ap (λ b. applies v line && b) is ∙ and_false (applies v line)

-- ---- the lines of a package

of_one : (formula : Condition) (b : Bool) (line : LineRecord) (some lines : List LineRecord)
    → some ≡ lines_where formula lines
    → cond b (line_where formula line ∷ some) some ≡ lines_where formula (cond b (line ∷ lines) lines)
of_one formula true line some lines h = ap (λ rest. line_where formula line ∷ rest) h
of_one formula false line some lines h = h

pub of_package : (formula : Condition) (lines : List LineRecord) (name : List ℕ)
    → lines_of name (lines_where formula lines) ≡ lines_where formula (lines_of name lines)
of_package formula [] name = refl
of_package formula (line ∷ lines) name =
    of_one formula (is_of name line.front) line (lines_of name (lines_where formula lines)) (lines_of name lines)
    (of_package formula lines name)

-- ---- what they require

module _ (formula : Condition) (v : Valuation) where
  same_one : (a b : Bool) → a ≡ b → (line : LineRecord) (some lines : List LineRecord)
      → map (λ l. l.front) some ≡ map (λ l. l.front) lines
      → map (λ l. l.front) (cond a (line_where formula line ∷ some) some) ≡ map (λ l. l.front) (cond b (line ∷ lines) lines)
  same_one true true e line some lines h = ap (λ rest. line.front ∷ rest) h
  same_one false false e line some lines h = h
  same_one true false e line some lines h = absurd (cc)
  same_one false true e line some lines h = absurd (cc)

  asks_met : is_met formula v ≡ true → (lines : List LineRecord)
      → asks_of v (lines_where formula lines) ≡ asks_of v lines
  asks_met is [] = refl
  asks_met is (line ∷ lines) =
      same_one (applies v (line_where formula line)) (applies v line) (applies_met formula v is line) line
      (filter (applies v) (lines_where formula lines)) (filter (applies v) lines) (asks_met is lines)

  none_of : (a : Bool) → a ≡ false → (line : LineRecord) (some : List LineRecord) → map (λ l. l.front) some ≡ []
      → map (λ l. l.front) (cond a (line ∷ some) some) ≡ []
  none_of true e line some h = absurd (cc)
  none_of false e line some h = h

  asks_unmet : is_met formula v ≡ false → (lines : List LineRecord) → asks_of v (lines_where formula lines) ≡ []
  asks_unmet is [] = refl
  asks_unmet is (line ∷ lines) =
      none_of (applies v (line_where formula line)) (applies_unmet formula v is line) (line_where formula line)
      (filter (applies v) (lines_where formula lines)) (asks_unmet is lines)

pub asked_met : (formula : Condition) (lines : List LineRecord) (name : List ℕ) (v : Valuation)
    → is_met formula v ≡ true → asked_of name v (lines_where formula lines) ≡ asked_of name v lines
asked_met formula lines name v is =
    ap (asks_of v) (of_package formula lines name) ∙ asks_met formula v is (lines_of name lines)

pub asked_unmet : (formula : Condition) (lines : List LineRecord) (name : List ℕ) (v : Valuation)
    → is_met formula v ≡ false → asked_of name v (lines_where formula lines) ≡ []
asked_unmet formula lines name v is =
    ap (asks_of v) (of_package formula lines name) ∙ asks_unmet formula v is (lines_of name lines)

-- ---- relations between what two lists require, which two lists that require nothing have

module _ (R : List Front → List Front → Type 0) (none : R [] []) (formula : Condition) (left right : List LineRecord)
  where
    there : (name : List ℕ) (v : Valuation) → is_met formula v ≡ true
        → R (asked_of name v (lines_where formula left)) (asked_of name v (lines_where formula right))
        → R (asked_of name v left) (asked_of name v right)
    there name v is h =
        let first : List Front → Type 0 = λ asks. R asks (asked_of name v (lines_where formula right)) in
        let second : List Front → Type 0 = λ asks. R (asked_of name v left) asks in
        subst second (asked_met formula right name v is) (subst first (asked_met formula left name v is) h)

    back : (name : List ℕ) (v : Valuation) → (met : Bool) → is_met formula v ≡ met
        → (is_met formula v ≡ true → R (asked_of name v left) (asked_of name v right))
        → R (asked_of name v (lines_where formula left)) (asked_of name v (lines_where formula right))
    back name v true is h =
        let first : List Front → Type 0 = λ asks. R asks (asked_of name v (lines_where formula right)) in
        let second : List Front → Type 0 = λ asks. R (asked_of name v left) asks in
        subst first (sym (asked_met formula left name v is))
        (subst second (sym (asked_met formula right name v is)) (h is))
    back name v false is h =
        let first : List Front → Type 0 = λ asks. R asks (asked_of name v (lines_where formula right)) in
        let second : List Front → Type 0 = λ asks. R [] asks in
        subst first (sym (asked_unmet formula left name v is))
        (subst second (sym (asked_unmet formula right name v is)) none)

pub same_to : (formula : Condition) (left right : List LineRecord)
    → RequireTheSame (lines_where formula left) (lines_where formula right) → RequireTheSameWhere formula left right
same_to formula left right h name v is = there RequireAlike tt formula left right name v is (h name v)

pub same_from : (formula : Condition) (left right : List LineRecord) → RequireTheSameWhere formula left right
    → RequireTheSame (lines_where formula left) (lines_where formula right)
same_from formula left right h name v =
    back RequireAlike tt formula left right name v (is_met formula v) refl (h name v)

pub covers_to : (formula : Condition) (lock lines : List LineRecord)
    → CoversLines (lines_where formula lock) (lines_where formula lines) → CoversLinesWhere formula lock lines
covers_to formula lock lines h name v is = there IsCovered tt formula lock lines name v is (h name v)

pub covers_from : (formula : Condition) (lock lines : List LineRecord) → CoversLinesWhere formula lock lines
    → CoversLines (lines_where formula lock) (lines_where formula lines)
covers_from formula lock lines h name v =
    back IsCovered tt formula lock lines name v (is_met formula v) refl (h name v)
