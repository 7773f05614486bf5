use Rattle.pep508_error.proofs.Places.{trimmed_boundary, trimmed_chars}
use Rattle.pep508_error.proofs.cursor.Cursor.after_whitespace.Goals as goal

pub invariant_of-result : goal.invariant_of-result
invariant_of-result c = record {
  between =
      trimmed_boundary c.args.self.input.now c.rest.result.now c.trim_start-rest.result.now c.args.self.position
      c.rest.ensures c.trim_start-rest.ensures.value c.trim_start-rest.utf8;
}

pub returns-clause-rest : goal.returns-clause-rest
returns-clause-rest c =
    trimmed_chars c.args.self.input.now c.rest.result.now c.trim_start-rest.result.now c.args.self.position
    c.rest.ensures c.trim_start-rest.ensures.value c.trim_start-rest.ensures.trim c.rest.utf8
