-- Lines by their numbers.
use Rattle.std.specs.Prelude.{ℕ, List, [], Option, Some, None, find}
use Rattle.std.specs.Ordering.{nat_cmp, is_eq}
use Rattle.reqtable_requirements.specs.declared.requirements.Line.{Line}

abbrev pub extras_in : Option Line → List (List ℕ)
extras_in None = []
extras_in (Some line) = line.requirement.extras.items

-- the extras of the line with a number; none if there is no such line
abbrev pub extras_at : List Line → ℕ → List (List ℕ)
extras_at lines number = extras_in (find (λ line. is_eq (nat_cmp number line.number)) lines)
