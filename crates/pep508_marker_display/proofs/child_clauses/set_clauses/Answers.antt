use Rattle.std.proofs.Common.{rules, ◌∙◌}
use Rattle.pep508_clauses.specs.Terms.{clause_of}
use Rattle.pep508_marker_display.proofs.Spanning.{excluded}
use Rattle.pep508_marker_display.proofs.child_clauses.set_clauses.Goals as goal

pub returns-in_ok-clauses-in-Some : goal.returns-in_ok-clauses-in-Some
returns-in_ok-clauses-in-Some g c =
    c.in_ok-clauses-in-Some.ensures
    ∙ excluded (g.S.Says.saying c.args.says.now) c.args.tree c.args.first c.args.later.now
    (clause_of c.in-Some.clause.items) (search rules) (search rules)
