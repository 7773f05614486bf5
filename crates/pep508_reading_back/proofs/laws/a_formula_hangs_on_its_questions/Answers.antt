use Rattle.pep508_reading_back.proofs.ToldAnswers.{formula_alike}
use Rattle.pep508_reading_back.proofs.laws.a_formula_hangs_on_its_questions.Goals as goal

pub returns : goal.returns
returns c = λ f v w alike. formula_alike v w f alike
