-- The results of the readers of a requirement's front, for each reading of its text.
use Rattle.std.specs.Prelude.{◌≡◌, List, Result, Ok, Err}
use Rattle.pep508_url.specs.Vars.{Variables}
use Rattle.pep440_specifier.specs.Matching.{SpecifierRecord}
use Rattle.pep440_specifier_list.specs.Lists.{IsInOrder}
use Rattle.pep508_error.specs.declared.refusal.Refusal.{Refusal}
use Rattle.pep508_error.specs.declared.refusal.RefusalKind.{RefusalKind}
use Rattle.pep508_error.specs.declared.refusal.RefusalKind.TheVariants.{Memory, String}
use Rattle.pep508_error.specs.declared.refusal.RefusalKind.TheVariants.{UnsupportedRequirement, NumberAtEnd}
use Rattle.pep508_requirement_text.specs.FrontReading.{Refused}
use Rattle.pep508_requirement_text.specs.FrontReading.Refused.{Malformed, Nameless, Archive}
use Rattle.pep508_requirement_text.specs.Unnamed.{LooksUnnamed}

-- a refusal of this kind is one for that reason; lack of memory is one for any
abbrev pub Fits : Variables → RefusalKind → Refused → Type 0
Fits vars Memory refused = Unit {0}
Fits vars (String message) Malformed = Unit {0}
Fits vars (String message) (Nameless run) = LooksUnnamed vars run → ⊥
Fits vars (String message) Archive = ⊥
Fits vars (UnsupportedRequirement message) Malformed = ⊥
Fits vars (UnsupportedRequirement message) (Nameless run) = LooksUnnamed vars run
Fits vars (UnsupportedRequirement message) Archive = Unit {0}
Fits vars NumberAtEnd refused = ⊥

-- a refusal of a malformed text, and of one that can't have a name, or lack of memory
abbrev pub IsPlain : RefusalKind → Type 0
IsPlain Memory = Unit {0}
IsPlain (String message) = Unit {0}
IsPlain (UnsupportedRequirement message) = ⊥
IsPlain NumberAtEnd = ⊥

abbrev pub IsUnsupported : RefusalKind → Type 0
IsUnsupported Memory = Unit {0}
IsUnsupported (String message) = ⊥
IsUnsupported (UnsupportedRequirement message) = Unit {0}
IsUnsupported NumberAtEnd = ⊥

-- the refusal is that of the reading, or lack of memory
abbrev pub Tells : {Y : Type 0} → Variables → RefusalKind → Result Y Refused → Type 0
Tells vars kind (Ok y) = kind ≡ Memory
Tells vars kind (Err refused) = Fits vars kind refused

-- the result is the reading: its value, seen by `view`, or a refusal for its reason
abbrev pub Reads : {X Y : Type 0} → Variables → (X → Y) → Result X Refusal → Result Y Refused → Type 0
Reads vars view (Ok x) reading = reading ≡ Ok (view x)
Reads vars view (Err refusal) reading = Tells vars refusal.kind reading

-- the result is the reading: its specifiers, sorted by version, or a refusal for its reason
abbrev pub ReadsSpecifiers : Result (List SpecifierRecord) Refusal → Result (List SpecifierRecord) Refused
    → Type 0
ReadsSpecifiers (Ok list) reading =
    (given : List SpecifierRecord) × (reading ≡ Ok given) × IsInOrder given list
ReadsSpecifiers (Err refusal) reading = (vars : Variables) → Tells vars refusal.kind reading
