use Rattle.std.proofs.Common.{◌≡◌, List, IsTrue, rules, subst}
use Rattle.std.specs.Prelude.{IfOk}
use Rattle.reqtable_requirements.specs.declared.requirements.Line.{Line}
use Rattle.reqtable_conflicts.specs.Agreeing.{Agree}
use Rattle.reqtable_packages.specs.Packages.{lines_at, lent}
use Rattle.reqtable_conflicts.proofs.doubtful.are_known_to_agree.Goals as goal

pub returns-in-Some : goal.returns-in-Some
returns-in-Some c =
    let own : lent c.deref.result.now ≡ lines_at c.args.groups.now c.args.name.now = search rules in
    subst (λ (lines : List Line). IfOk c.agree.result (λ agree. IsTrue agree → Agree c.args.limit lines)) own
    c.agree.ensures
