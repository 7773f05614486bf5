use Rattle.std.proofs.Common.{◌≡◌, inl, inr}
use Rattle.reqtable_assumption.proofs.Asked.{same_to, covers_to}
use Rattle.reqs_io_faults.specs.declared.fault.Status.TheVariants.{Answered, Different}
use Rattle.reqs_assuming.proofs.laws.yes_is_said_where_the_condition_holds.Goals as goal

pub returns-clause-same : goal.returns-clause-same
returns-clause-same c =
    λ condition format limit lists text h.
    elim h.1 [
      | inl agreed ↦ same_to condition lists.0 lists.1 agreed.2
      | inr apart ↦ let e : Answered ≡ Different = apart.0 in absurd (cc)
    ]

pub returns-clause-covers : goal.returns-clause-covers
returns-clause-covers c =
    λ condition format limit lists text h.
    elim h.1 [
      | inl agreed ↦ covers_to condition lists.0 lists.1 agreed.2
      | inr apart ↦ let e : Answered ≡ Different = apart.0 in absurd (cc)
    ]
