use Rattle.std.proofs.lemmas.Str.{IsCharBoundary-start}
use Rattle.pep508_error.proofs.cursor.Cursor.new.Goals as goal

pub invariant_of-result : goal.invariant_of-result
invariant_of-result c = record { between = IsCharBoundary-start c.args.input.now c.utf8.input }
