use Rattle.std.proofs.Common.{◌≡◌, true, take}
use Rattle.std.specs.List.{AllByRecursion}
use Rattle.pep508_diagram.specs.Question.{Valuation}
use Rattle.pep508_tree.specs.Meaning.{holds}
use Rattle.reqtable_covers.specs.Applying.{IsFixed, numbers_to}
use Rattle.reqtable_covers.proofs.applying.numbers_where.Given as goal

abbrev pub invariant-loop-line : goal.invariant-loop-line
invariant-loop-line l = AllByRecursion (IsFixed l.interner.nodes l.name l.fn.tree) l.lines → (v : Valuation) →
    holds l.interner.nodes l.fn.tree v ≡ true →
    l.numbers.items ≡ numbers_to l.interner.nodes l.name v (take l.line-index l.lines)
