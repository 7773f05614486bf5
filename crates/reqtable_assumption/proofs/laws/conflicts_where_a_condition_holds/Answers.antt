use Rattle.reqtable_assumption.proofs.Asked.{of_package}
use Rattle.reqtable_assumption.proofs.Conflicting.{conflicts_to_where, conflicts_from_where}
use Rattle.reqtable_assumption.proofs.laws.conflicts_where_a_condition_holds.Goals as goal

pub returns : goal.returns
returns c = record {
  lines = of_package;
  conflicts =
      λ formula some found. (conflicts_to_where formula some found, conflicts_from_where formula some found);
}
