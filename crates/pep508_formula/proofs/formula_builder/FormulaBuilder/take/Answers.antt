use Rattle.pep508_formula.proofs.Levels.{taken_first, taken_on}
use Rattle.pep508_formula.proofs.formula_builder.FormulaBuilder.take.Goals as goal
use Rattle.pep508_formula.proofs.formula_builder.FormulaBuilder.take.Goals.{then-self+in_ok-and, else-self}

pub returns : goal.returns
returns c = λ piece begun waiting h. elim c.if-self.branch [
  | then-self+in_ok-and w ↦
      let so = taken_on c.args.self.now piece begun waiting h w.and.new.self w.in_ok-and.ensures w.if-self.true in
      rw w.self-is so
  | else-self w ↦
      let so = taken_first c.args.self.now piece begun waiting h w.if-self.false in
      rw w.self-is so
]
