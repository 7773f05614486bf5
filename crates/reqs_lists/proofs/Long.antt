-- The first line that can't be printed, the first difference, and the first place that isn't covered, by the number
-- of clauses.
use Rattle.std.proofs.Common.{◌≡◌, ◌≤◌, ℕ, Bool, true, false, List, [], ◌∷◌, Option, Some, None, refl, ap, sym, subst}
use Rattle.std.specs.List.{AllByRecursion}
use Rattle.pep508_diagram.specs.Diagram.{Diagram}
use Rattle.pep508_diagram.specs.Question.{Question}
use Rattle.pep508_marker_display.specs.Counted.{clause_count}
use Rattle.reqtable_cases.specs.Requires.{RequireTheSame}
use Rattle.reqtable_requirements.specs.LineReading.{LineRecord}
use Rattle.reqtable_normal.specs.declared.error.NormalCause.{NormalCause}
use Rattle.reqtable_normal.specs.declared.error.NormalError.TheVariants.{Line}
use Rattle.reqtable_normal.specs.Bounded.{error_by, exceeds, IsPrintable, IsFirstError}
use Rattle.reqtable_normal.specs.Normalized.{IsFaultless, IsFirstFault, normal_fault}
use Rattle.reqtable_normal.proofs.Unbounded.{no_fault}
use Rattle.reqtable_covers.specs.Covering.{CoversLines}
use Rattle.reqs_lists.specs.Comparison.{Lists, IsToldDifference, HasFewClauses}
use Rattle.reqs_lists.specs.Covered.{IsToldUncovered, HasFewUncovered}
use Rattle.reqs_lists.proofs.OneDifference.{never_told, one_name, one_diagram}
use Rattle.reqs_lists.proofs.OneDifference.{never_uncovered, one_uncovered_name, one_uncovered_diagram}

line_by : (line number : ℕ) (fault : Option NormalCause) (cause : NormalCause) (more : Bool)
    → error_by line fault more ≡ Some (Line number cause) → (number ≡ line) × (fault ≡ Some cause)
line_by line number (Some other) cause more e = (cc, cc)
line_by line number None cause true e = absurd (cc)
line_by line number None cause false e = absurd (cc)

all_faultless : (most : Option ℕ) (lines : List LineRecord) → AllByRecursion (IsPrintable most) lines
    → AllByRecursion IsFaultless lines
all_faultless most [] h = tt
all_faultless most (line ∷ lines) h = (
  record {
    normal = h.0.normal;
    is_normal = h.0.is_normal;
    no_fault = no_fault most line.number h.0.normal h.0.no_error;
  },
  all_faultless most lines h.1,
)

-- a line with a fault stands after lines without
pub first_fault : (most : Option ℕ) (said : List LineRecord) (number : ℕ) (cause : NormalCause)
    → IsFirstError most said (Line number cause) → IsFirstFault said number cause
first_fault most said number cause h =
    let is = line_by h.line.number number (normal_fault h.normal) cause (exceeds most h.normal.diagram) h.is_error in
    record {
      front = h.front;
      line = h.line;
      back = h.back;
      normal = h.normal;
      split = h.split;
      before = all_faultless most h.front h.before;
      numbered = is.0;
      is_normal = h.is_normal;
      is_fault = is.1;
    }

-- lists that require the same have no difference
pub same_few : (most : ℕ) (lists : Lists) → RequireTheSame lists.0 lists.1 → HasFewClauses most lists
same_few most lists same name diagram told = absurd (never_told lists name diagram same told)

-- and others have one
pub told_few : (most : ℕ) (lists : Lists) (name : List ℕ) (diagram : Diagram Question)
    → IsToldDifference lists name diagram → clause_count diagram ≤ most → HasFewClauses most lists
told_few most lists name diagram told few other also h =
    let P : Diagram Question → Type 0 = λ d. clause_count d ≤ most in
    let Q : List ℕ → Type 0 = λ n. IsToldDifference lists n also in
    subst P (one_diagram lists name diagram also told (subst Q (one_name lists other name also diagram h told) h)) few

-- a list that covers another has no place where it doesn't
pub covers_few : (most : ℕ) (lists : Lists) → CoversLines lists.0 lists.1 → HasFewUncovered most lists
covers_few most lists covers name diagram numbers told =
    absurd (never_uncovered lists name diagram numbers covers told)

-- and others have one first place
pub uncovered_few : (most : ℕ) (lists : Lists) (name : List ℕ) (diagram : Diagram Question) (numbers : List ℕ)
    → IsToldUncovered lists name diagram numbers → clause_count diagram ≤ most → HasFewUncovered most lists
uncovered_few most lists name diagram numbers told few other also more h =
    let P : Diagram Question → Type 0 = λ d. clause_count d ≤ most in
    let Q : List ℕ → Type 0 = λ n. IsToldUncovered lists n also more in
    let named = one_uncovered_name lists other name also diagram more numbers h told in
    subst P (one_uncovered_diagram lists name diagram also numbers more told (subst Q named h)) few
