-- The cached pieces of packages, by the indices of their cases.
use Rattle.std.specs.Prelude.{ℕ, List, map, Option}
use Rattle.reqs_rows.specs.declared.known.Known.{Known}

abbrev pub pieces_of : List Known → List (List (Option ℕ))
pieces_of known = map (λ own. own.pieces.items) known
