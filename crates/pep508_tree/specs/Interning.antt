-- What an interner is seen as.
use Rattle.std.specs.Prelude.{ℕ, ◌+◌, ◌-◌, ◌^◌, min, List}
use Rattle.pep508_tree.specs.Meaning.{NodeRecord}

-- the nodes in the order in which they were made, and how often trees were combined
pub record InternerRecord : Type 0 where
  pub nodes : List NodeRecord
  pub conjunctions : ℕ

-- one more, up to the greatest number of 64 bits
abbrev pub counted : ℕ → ℕ
counted n = min (n + 1) (2 ^ 64 - 1)
