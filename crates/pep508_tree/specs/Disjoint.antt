-- When two trees never hold together.
use Rattle.std.specs.Prelude.{◌≡◌, ◌&&◌, false, List}
use Rattle.pep508_diagram.specs.Question.{Valuation}
use Rattle.pep508_tree.specs.Tree.{Tree}
use Rattle.pep508_tree.specs.Meaning.{NodeRecord, holds}

-- both hold under no valuation
abbrev pub AreDisjoint : List NodeRecord → Tree → Tree → Type 0
AreDisjoint nodes a b = (v : Valuation) → (holds nodes a v && holds nodes b v) ≡ false
