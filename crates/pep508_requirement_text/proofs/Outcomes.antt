-- What refusals tell.
use Rattle.std.proofs.Common.{◌≡◌, ℕ, List, Result, Ok, Err, sym, ap, subst, ◌∙◌}
use Rattle.pep508_url.specs.Vars.{Variables}
use Rattle.pep508_error.specs.declared.cursor.Cursor.{Cursor}
use Rattle.pep508_error.specs.declared.refusal.Refusal.{Refusal}
use Rattle.pep508_error.specs.declared.refusal.RefusalKind.{RefusalKind}
use Rattle.pep508_error.specs.declared.refusal.RefusalKind.TheVariants.{Memory, String}
use Rattle.pep508_error.specs.declared.refusal.RefusalKind.TheVariants.{UnsupportedRequirement, NumberAtEnd}
use Rattle.pep508_error.specs.Cursors.{IsBehind}
use Rattle.pep508_requirement_text.specs.FrontReading.{Refused}
use Rattle.pep508_error.specs.Steps.{◌>>=◌}
use Rattle.pep508_requirement_text.specs.FrontReading.Refused.{Malformed, Nameless, Archive}
use Rattle.pep508_requirement_text.specs.Unnamed.{LooksUnnamed}
use Rattle.pep508_requirement_text.specs.FrontOutcome.{Fits, Tells, IsPlain, IsUnsupported}
use Rattle.pep508_error.specs.Refusals.{IsOf}

pub memory_fits : (vars : Variables) (kind : RefusalKind) (refused : Refused) → kind ≡ Memory → Fits vars kind refused
memory_fits vars kind refused e = subst (λ (k : RefusalKind). Fits vars k refused) (sym e) tt

-- want of memory tells nothing
pub memory_tells : {Y : Type 0} (vars : Variables) (kind : RefusalKind) (reading : Result Y Refused) → kind ≡ Memory
    → Tells vars kind reading
memory_tells vars kind (Ok y) e = e
memory_tells vars kind (Err refused) e = memory_fits vars kind refused e

pub fit_tells : {Y : Type 0} (vars : Variables) (kind : RefusalKind) (refused : Refused) (reading : Result Y Refused)
    → Fits vars kind refused → reading ≡ Err refused → Tells vars kind reading
fit_tells {Y} vars kind refused reading h e = subst (λ (r : Result Y Refused). Tells vars kind r) (sym e) h

plain_fits : (vars : Variables) (kind : RefusalKind) → IsPlain kind → Fits vars kind Malformed
plain_fits vars Memory h = tt
plain_fits vars (String message) h = tt
plain_fits vars (UnsupportedRequirement message) h = absurd h
plain_fits vars NumberAtEnd h = absurd h

-- a malformed text
pub plain_tells : {Y : Type 0} (vars : Variables) (kind : RefusalKind) (reading : Result Y Refused) → IsPlain kind
    → reading ≡ Err Malformed → Tells vars kind reading
plain_tells vars kind reading h e = fit_tells vars kind Malformed reading (plain_fits vars kind h) e

unsupported_fits : (vars : Variables) (kind : RefusalKind) → IsUnsupported kind → Fits vars kind Archive
unsupported_fits vars Memory h = tt
unsupported_fits vars (String message) h = absurd h
unsupported_fits vars (UnsupportedRequirement message) h = tt
unsupported_fits vars NumberAtEnd h = absurd h

-- a name of an archive
pub archive_tells : {Y : Type 0} (vars : Variables) (kind : RefusalKind) (reading : Result Y Refused)
    → IsUnsupported kind → reading ≡ Err Archive → Tells vars kind reading
archive_tells vars kind reading h e = fit_tells vars kind Archive reading (unsupported_fits vars kind h) e

-- a run where a name is wanted, by whether it looks like a URL
pub looking_fits : (vars : Variables) (kind : RefusalKind) (run : List ℕ) → IsUnsupported kind
    → LooksUnnamed vars run → Fits vars kind (Nameless run)
looking_fits vars Memory run h looks = tt
looking_fits vars (String message) run h looks = absurd h
looking_fits vars (UnsupportedRequirement message) run h looks = looks
looking_fits vars NumberAtEnd run h looks = absurd h

pub plain_run_fits : (vars : Variables) (kind : RefusalKind) (run : List ℕ) → IsPlain kind
    → (LooksUnnamed vars run → ⊥) → Fits vars kind (Nameless run)
plain_run_fits vars Memory run h looks = tt
plain_run_fits vars (String message) run h looks = looks
plain_run_fits vars (UnsupportedRequirement message) run h looks = absurd h
plain_run_fits vars NumberAtEnd run h looks = absurd h

-- where the first reading stops, so does the whole
pub stops : {A B : Type 0} (vars : Variables) (kind : RefusalKind) (first : Result A Refused) (next : A → Result B Refused)
    → Tells vars kind first → Tells vars kind (first >>= next)
stops vars kind (Ok x) next h = memory_tells vars kind (next x) h
stops vars kind (Err refused) next h = h

pub goes_on : {A B : Type 0} (first : Result A Refused) (next : A → Result B Refused) (x : A) → first ≡ Ok x
    → (first >>= next) ≡ next x
goes_on first next x e = ap (λ (m : Result _ Refused). m >>= next) e

-- a refusal at a later place of the text
pub of_earlier : (earlier later : Cursor) (refusal : Refusal) → IsBehind earlier later → IsOf later refusal
    → IsOf earlier refusal
of_earlier earlier later refusal h of = λ plain. of plain ∙ h.input
