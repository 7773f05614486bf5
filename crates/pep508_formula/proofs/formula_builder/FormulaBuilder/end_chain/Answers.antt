use Rattle.pep508_formula.proofs.Levels.{ended_first, ended_on}
use Rattle.pep508_formula.proofs.formula_builder.FormulaBuilder.end_chain.Goals as goal
use Rattle.pep508_formula.proofs.formula_builder.FormulaBuilder.end_chain.Goals.{then-self+in_ok-or, else-self}

pub returns : goal.returns
returns c = λ chain begun waiting h. elim c.if-self.branch [
  | then-self+in_ok-or w ↦
      let so = ended_on c.args.self.now chain begun waiting h w.or.new.self w.in_ok-or.ensures w.if-self.true in
      rw w.self-is so
  | else-self w ↦
      let so = ended_first c.args.self.now chain begun waiting h w.if-self.false in
      rw w.self-is so
]
