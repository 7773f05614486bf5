use Rattle.std.proofs.Common.{◌∙◌, ap, sym, rules}
use Rattle.reqtable_candidates.specs.Candidates.{candidates_of}
use Rattle.reqs_io_faults.specs.declared.fault.Input.TheVariants.{Third}
use Rattle.reqs_io_faults.specs.Faults.{Says, of_candidates}
use Rattle.reqs_io_faults.specs.Inputs.{with_cause}
use Rattle.reqs_answers.specs.Check.{on_request}
use Rattle.reqs_answers.proofs.checks.selected.Goals as goal

pub new-admission-requires-clause-lawful : goal.new-admission-requires-clause-lawful
new-admission-requires-clause-lawful c = (on_request, λ version named answer h. search rules)

pub returns-in-Ok-clause-answered : goal.returns-in-Ok-clause-answered
returns-in-Ok-clause-answered c =
    let read = c.in-Ok.ensures.answered in (
      read.0,
      ap (with_cause (λ error. Says (of_candidates Third error))) (ap candidates_of (sym c.deref.ensures.value) ∙ read.1),
      λ vars said stands. read.2 vars said on_request stands (λ version named answer h. search rules),
    )
