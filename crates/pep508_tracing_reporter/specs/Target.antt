-- The target of a warning's record in a log.
use Rattle.std.specs.Prelude.{ℕ, ◌==◌, if◌then◌else◌, List, length, codes}

-- the target of a record that names none, at a log with this target: where that is empty, the module's path
abbrev pub named_target : List ℕ → List ℕ
named_target target = if length target == 0 then codes "pep508_tracing_reporter::tracing" else target
