use Rattle.reqs_answers.proofs.Formats.{same_rows_of_all}
use Rattle.reqs_answers.proofs.laws.both_formats_of_matrix_have_the_same_rows.Goals as goal

pub returns : goal.returns
returns c = same_rows_of_all
