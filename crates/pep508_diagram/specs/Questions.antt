-- What holds of every question of a diagram.
use Rattle.pep508_diagram.specs.Diagram.{Diagram, Leaf, Test}

abbrev pub AllQuestions : {Q : Type 0} → (Q → Type 0) → Diagram Q → Type 0
AllQuestions good (Leaf b) = Unit {0}
AllQuestions good (Test q low high) = good q × AllQuestions good low × AllQuestions good high
