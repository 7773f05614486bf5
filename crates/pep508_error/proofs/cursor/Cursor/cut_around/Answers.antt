use Rattle.pep508_error.specs.Cursors.{behind}
use Rattle.pep508_error.proofs.TextCuts.{around_some, around_none}
use Rattle.pep508_error.proofs.cursor.Cursor.cut_around.Goals as goal

pub returns-in-Some-clause-parts : goal.returns-in-Some-clause-parts
returns-in-Some-clause-parts c =
    around_some c.args.at c.in-Some.field-0-0 (behind c.args.self) c.cut.result.0.now
    (behind c.cut.result.1) (behind c.in-Some.later) c.cut.ensures.parts c.in-Some.ensures.cases

pub returns-in-None-clause-parts : goal.returns-in-None-clause-parts
returns-in-None-clause-parts c =
    around_none c.args.at (behind c.args.self) c.cut.result.0.now
    (behind c.cut.result.1) c.cut.ensures.parts c.in-None.ensures.cases
