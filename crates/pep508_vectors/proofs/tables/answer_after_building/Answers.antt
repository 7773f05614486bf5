use Rattle.pep508_vectors.proofs.tables.answer_after_building.Goals as goal

pub answer-requires-2-clause-cases : goal.answer-requires-2-clause-cases
answer-requires-2-clause-cases g c = (c.answer.ensures.lasts c.built.new.interner.nodes c.built.ensures.keeps).cases
