use Rattle.pep508_tree.proofs.Knowing.{known_kept}
use Rattle.pep508_tree.proofs.interner.Interner.stored.Goals as goal

pub invariant_of-self : goal.invariant_of-self
invariant_of-self c =
    known_kept c.self.inside.table c.store.new.self c.self.inside.known c.store.ensures.keeps c.self.invariant
