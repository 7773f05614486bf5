-- Warnings of markers (PEP 508, "Environment Markers").
use Rattle.std.specs.Prelude.{ℕ, List}
use Rattle.pep508_marker.specs.declared.warnings.MarkerWarningKind.{MarkerWarningKind}

-- a warning: its kind, and its text
pub record Warning : Type 0 where
  pub kind : MarkerWarningKind
  pub text : List ℕ
