-- Equality of patterns, and the input to a hash of one.
use Rattle.std.specs.Prelude.{Bool, List, ℕ, ◌++◌}
use Rattle.std.specs.Bool.{beq}
use Rattle.std.specs.Hash as fed
use Rattle.std.specs.Ordering.{on, eq_of_both}
use Rattle.pep440_text.specs.Record.{PatternRecord}
use Rattle.pep440_version.specs.Order.{version_eq, key_of, fed_key}

-- equal versions, both with a star or both without
abbrev pub pattern_eq : PatternRecord → PatternRecord → Bool
pattern_eq = eq_of_both (on (λ pattern. pattern.version) version_eq) (on (λ pattern. pattern.wildcard) beq)

-- the input to a hash of a pattern: its version, and then whether it has a star
abbrev pub fed_pattern : PatternRecord → List (List ℕ)
fed_pattern pattern = fed_key (key_of pattern.version) ++ fed.bool pattern.wildcard
