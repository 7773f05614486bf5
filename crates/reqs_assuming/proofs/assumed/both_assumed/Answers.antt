use Rattle.pep508_formula.specs.Postfix.{formula_of}
use Rattle.reqtable_assumption.specs.Where.{lines_where}
use Rattle.reqtable_requirements.proofs.Lasting.{lines_kept, nodes_kept}
use Rattle.reqs_assuming.proofs.assumed.both_assumed.Goals as goal

pub assumed-requires-2 : goal.assumed-requires-2
assumed-requires-2 c =
    nodes_kept c.args.interner.now.nodes c.assumed.new.interner.nodes c.args.right c.in_ok-left.ensures.keeps c.requires.right

pub returns-clause-left : goal.returns-clause-left
returns-clause-left c =
    λ vars said stands.
    lines_kept vars c.assumed.new.interner.nodes c.assumed-2.new.interner.nodes c.in_ok-right.ensures.keeps _
    (lines_where (formula_of c.args.terms.now.condition.now) said) (c.in_ok-left.ensures.lines vars said stands)

pub returns-clause-right : goal.returns-clause-right
returns-clause-right c =
    λ vars said stands.
    c.in_ok-right.ensures.lines vars said
    (lines_kept vars c.args.interner.now.nodes c.assumed.new.interner.nodes c.in_ok-left.ensures.keeps c.args.right said
    stands)
