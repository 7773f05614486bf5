-- Some questions, and valuations that answer them alike.
use Rattle.std.specs.Prelude.{◌≡◌, ◌⊎◌, List, [], ◌∷◌}
use Rattle.std.specs.List.{AllByRecursion}
use Rattle.std.specs.declared.cmp.Ordering.TheVariants.{Equal}
use Rattle.pep508_diagram.specs.Question.{Question, Valuation, question_cmp, answer}

-- the valuations answer each of the questions alike
abbrev pub AnswerAlike : List Question → Valuation → Valuation → Type 0
AnswerAlike asked v w = AllByRecursion (λ q. answer v q ≡ answer w q) asked

-- the question is one of these, up to the order's equality
abbrev pub IsAmong : List Question → Question → Type 0
IsAmong [] q = ⊥
IsAmong (r ∷ asked) q = (question_cmp q r ≡ Equal) ⊎ IsAmong asked q
