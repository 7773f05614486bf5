-- What a refused chain says of a refused marker.
use Rattle.std.proofs.Common.{◌≡◌, ℕ, List, ap, sym, subst}
use Rattle.pep508_error.specs.declared.refusal.RefusalKind.{RefusalKind}
use Rattle.pep508_comparison_parser.specs.SideReading.{if_end}
use Rattle.pep508_error.specs.Steps.{◌>>=◌}
use Rattle.pep508_comparison_parser.specs.Outcome.{Tells}
use Rattle.pep508_marker_parser.specs.MarkerReading.{Or, marker_at}
use Rattle.pep508_marker_parser.specs.TreeReading.{chain_at}
use Rattle.pep508_marker_parser.proofs.Chains.{tells_on, formula_is}

marker_is : (cs : List ℕ) → marker_at cs ≡ (chain_at Or 256 cs >>= if_end)
unfolding marker_at
marker_is cs = ap (λ r. r >>= if_end) (formula_is 256 cs)

pub marker_refused : (kind : RefusalKind) (cs : List ℕ) → Tells kind (chain_at Or 256 cs) → Tells kind (marker_at cs)
marker_refused kind cs tells =
    subst (Tells kind) (sym (marker_is cs)) (tells_on kind (chain_at Or 256 cs) if_end tells)
