use denote.Shadow.{shadow}
use denote.Text.{Utf8}
use Rattle.std.proofs.Common.{length, ◌≡◌}
use Rattle.pep508_comparison_parser.specs.Compared.{runs_of, versions_of}
use Rattle.pep508_comparison_parser.proofs.Runs.{with_front}
use Rattle.pep508_comparison_parser.proofs.reading_versions.read_versions.Given as goal

abbrev pub invariant-loop-run : goal.invariant-loop-run
invariant-loop-run l =
    shadow (Utf8 l.rest)
    × (versions_of (runs_of l.fn.text) ≡ with_front l.versions.items (versions_of (runs_of l.rest)))

abbrev pub decreases-loop-run : goal.decreases-loop-run
decreases-loop-run l = length (runs_of l.rest)
