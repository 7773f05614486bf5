use Rattle.std.proofs.Common.{ℕ, List, Some, Err, sym, subst}
use Rattle.read_outcome.specs.Outcome.{Answers}
use Rattle.pep508_url.specs.UrlFaults.{told_url}
use Rattle.pep508_url.specs.UrlTexts.{verbatim_reading}
use Rattle.pep508_url.specs.Lacking.{lacks_memory}
use Rattle.pep508_requirement.specs.MarkedReading.{IsReadMarked}
use Rattle.pep508_requirement.specs.RequirementReading.{IsRefused}
use Rattle.reqtable_requirements.specs.declared.requirements.RequirementsError.{RequirementsError}
use Rattle.reqtable_requirements.specs.Requirements.{ReadsLine}
use Rattle.reqtable_requirements.proofs.OneLine.{line_read, line_refused}
use Rattle.reqtable_requirements.proofs.marked.read_line.Goals as goal

pub returns-in-Ok : goal.returns-in-Ok
returns-in-Ok c =
    let P : List ℕ → Type 0 = λ root. IsReadMarked (λ text outcome. Answers (λ url. url) told_url outcome (verbatim_reading c.args.vars.now text (Some root)))
    c.args.text.now c.in-Ok.requirement in
    line_read c.args.vars.now c.args.number c.args.text.now c.in-Ok.requirement
    (subst P c.project_root.ensures.path c.in-Ok.ensures)

pub returns-in-Err : goal.returns-in-Err
returns-in-Err c =
    let P : List ℕ → Type 0 = λ root. IsRefused (λ text outcome. Answers (λ url. url) told_url outcome (verbatim_reading c.args.vars.now text (Some root)))
    lacks_memory c.args.vars.now c.args.text.now c.in-Err.error in
    let Q : RequirementsError → Type 0 = λ e. ReadsLine c.args.vars.now c.args.number c.args.text.now (Err e) in
    subst Q (sym c.refusal.ensures) (line_refused c.args.vars.now c.args.number c.args.text.now c.in-Err.error
    (subst P c.project_root.ensures.path c.in-Err.ensures))
