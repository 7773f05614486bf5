-- Keys are the same exactly where diagrams mean the same.
use Rattle.std.proofs.Common.{[], ◌++◌, None, ap}
use Rattle.pep508_diagram.specs.Question.{marker}
use Rattle.pep508_diagram.proofs.Alike.{alike_truth}
use Rattle.pep508_diagram.proofs.Questions.{asks, one_marker_diagram}
use Rattle.pep508_marker_key.specs.Key.{question_bytes, diagram_key, OneKey}
use Rattle.pep508_marker_key.proofs.Apart.{questions_apart}
use Rattle.pep508_marker_key.proofs.Same.{same_written, apart_written}

pub one_key : OneKey
unfolding diagram_key
one_key d e canonical also = (
  λ same.
      let alike =
      (apart_written marker asks question_bytes questions_apart None None [] [] d e [] [] tt tt
      (ap (λ t. t ++ []) same)).0 in
      alike_truth asks d e alike,
  λ agree.
      (same_written marker asks question_bytes questions_apart None None [] [] d e tt tt
      (one_marker_diagram d e canonical also agree)).0,
)
