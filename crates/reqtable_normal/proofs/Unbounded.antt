-- A line without an error has no fault; and without a bound the only errors are faults.
use Rattle.std.proofs.Common.{◌≡◌, ℕ, Bool, false, List, [], ◌∷◌, Option, Some, None, Result, Ok, Err, refl}
use Rattle.std.specs.List.{AllByRecursion}
use Rattle.std.specs.Prelude.{String}
use Rattle.reqtable_requirements.specs.LineReading.{LineRecord}
use Rattle.reqtable_normal.specs.declared.error.NormalCause.{NormalCause}
use Rattle.reqtable_normal.specs.declared.error.NormalError.{NormalError}
use Rattle.reqtable_normal.specs.declared.error.NormalError.TheVariants.{Line, TooManyClauses, Memory}
use Rattle.reqtable_normal.specs.Normalized.{NormalLine, IsFaultless, IsFirstFault, Normalizes, normal_fault}
use Rattle.reqtable_normal.specs.Bounded.{error_by, exceeds, line_error, IsPrintable, IsFirstError}
use Rattle.reqtable_normal.specs.Bounded.{NormalizesWithin}

none_by : (number : ℕ) (fault : Option NormalCause) (more : Bool) → error_by number fault more ≡ None → fault ≡ None
none_by number (Some cause) more e = absurd (cc)
none_by number None more e = refl

pub no_fault : (most : Option ℕ) (number : ℕ) (line : NormalLine) → line_error most number line ≡ None →
    normal_fault line ≡ None
no_fault most number line e = none_by number (normal_fault line) (exceeds most line.diagram) e

-- ---- without a bound

line_by : (line number : ℕ) (fault : Option NormalCause) (cause : NormalCause) →
    error_by line fault false ≡ Some (Line number cause) → (number ≡ line) × (fault ≡ Some cause)
line_by line number (Some other) cause e = (cc, cc)
line_by line number None cause e = absurd (cc)

never_many : (line number : ℕ) (fault : Option NormalCause) →
    error_by line fault false ≡ Some (TooManyClauses number) → ⊥
never_many line number (Some other) e = absurd (cc)
never_many line number None e = absurd (cc)

all_faultless : (lines : List LineRecord) → AllByRecursion (IsPrintable None) lines → AllByRecursion IsFaultless lines
all_faultless [] h = tt
all_faultless (line ∷ lines) h = (
  record {
    normal = h.0.normal;
    is_normal = h.0.is_normal;
    no_fault = no_fault None line.number h.0.normal h.0.no_error;
  },
  all_faultless lines h.1,
)

first_fault : (said : List LineRecord) (number : ℕ) (cause : NormalCause) →
    IsFirstError None said (Line number cause) → IsFirstFault said number cause
first_fault said number cause h =
    let is = line_by h.line.number number (normal_fault h.normal) cause h.is_error in
    record {
      front = h.front;
      line = h.line;
      back = h.back;
      normal = h.normal;
      split = h.split;
      before = all_faultless h.front h.before;
      numbered = is.0;
      is_normal = h.is_normal;
      is_fault = is.1;
    }

pub unbounded : {Y : Type 0} (said : List LineRecord) (result : Result (String Y) NormalError) →
    NormalizesWithin None said result → Normalizes said result
unbounded said (Ok text) h = h.1
unbounded said (Err (Line number cause)) h = first_fault said number cause h
unbounded said (Err (TooManyClauses number)) h =
    never_many h.line.number number (normal_fault h.normal) h.is_error
unbounded said (Err Memory) h = tt
