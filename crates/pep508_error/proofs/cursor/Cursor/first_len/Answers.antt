use Rattle.pep508_error.proofs.Places.{end_span}
use Rattle.pep508_error.proofs.cursor.Cursor.first_len.Goals as goal

pub returns-in-None-clause-span : goal.returns-in-None-clause-span
returns-in-None-clause-span c =
    end_span c.args.self.input.now c.args.self.position c.args.self.between c.in-None.ensures.end
