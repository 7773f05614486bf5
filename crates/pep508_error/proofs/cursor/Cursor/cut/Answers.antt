use Rattle.pep508_error.specs.Cursors.{rest_of}
use Rattle.pep508_error.proofs.TextCuts.{placed}
use Rattle.pep508_error.proofs.cursor.Cursor.cut.Goals as goal

pub returns-clause-parts : goal.returns-clause-parts
returns-clause-parts g c =
    placed (g.S.Stop.stops c.args.stop) (rest_of c.args.self) c.rest.result.now c.split.result.0.now
    c.split.result.1.now (rest_of c.pass.result) c.rest.ensures c.split.ensures.whole
    c.pass.ensures.whole c.split.ensures.parts
