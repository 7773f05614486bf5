-- What names a marker tree in an interner.
use Rattle.std.specs.Prelude.{ℕ, Bool, true, false, not}

-- the place of a diagram, of which place 0 is the leaf that is true, and whether the diagram's leaves are
-- negated
pub record Tree : Type 0 where
  pub place : ℕ
  pub negated : Bool

-- the tree that always holds
abbrev pub always : Tree
always = record { place = 0; negated = false }

-- the tree that never holds
abbrev pub never : Tree
never = record { place = 0; negated = true }

-- the tree that always holds, or never does
abbrev pub constant : Bool → Tree
constant truth = record { place = 0; negated = not truth }

-- the tree of the same diagram with its leaves negated
abbrev pub negation : Tree → Tree
negation tree = record tree { negated = not tree.negated }
