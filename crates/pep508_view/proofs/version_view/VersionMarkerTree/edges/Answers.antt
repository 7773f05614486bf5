use Rattle.std.proofs.Common.{ap, length}
use Rattle.std.proofs.iter.runs.Sources.{from_front}
use Rattle.std.specs.Map.Iter.{TakesFirst}
use Rattle.pep508_view.specs.Edges.{lent_edge}
use Rattle.pep508_view.proofs.version_view.VersionMarkerTree.edges.Goals as goal

pub returns-clause-runs : goal.returns-clause-runs
returns-clause-runs c =
    from_front (TakesFirst lent_edge) lent_edge (λ left. left) (λ s t h. ap length h.0) (λ s x t h. h)
