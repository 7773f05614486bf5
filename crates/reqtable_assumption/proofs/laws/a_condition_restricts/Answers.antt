use Rattle.reqtable_assumption.proofs.Asked.{asked_met, asked_unmet}
use Rattle.reqtable_assumption.proofs.laws.a_condition_restricts.Goals as goal

pub returns : goal.returns
returns c = record { met = asked_met; unmet = asked_unmet }
