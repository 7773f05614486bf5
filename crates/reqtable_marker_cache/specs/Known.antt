-- A cache of the truths of markers.
use Rattle.std.specs.Prelude.{◌≡◌, ℕ, ◌==◌, Bool, false, List, Option, Some, None, get_or, if◌then◌else◌}
use Rattle.pep508_diagram.specs.Question.{Valuation}
use Rattle.pep508_tree.specs.Tree.{Tree}
use Rattle.pep508_tree.specs.Meaning.{NodeRecord, holds}
use Rattle.reqtable_marker_cache.specs.declared.known.Said.{Said}

-- the tree at a place that isn't negated
abbrev pub plain : ℕ → Tree
plain place = record { place = place; negated = false }

-- the cached truths are right for these nodes under the valuation
abbrev pub AreKnown : List NodeRecord → Valuation → List (Option Said) → Type 0
AreKnown nodes v known = (slot : ℕ) (said : Said) → get_or known slot None ≡ Some said
    → said.holds ≡ holds nodes (plain said.place) v

-- the cached truth, if it is one of the tree at this place
abbrev pub truth_at : Option Said → ℕ → Option Bool
truth_at None place = None
truth_at (Some said) place = if said.place == place then Some said.holds else None
