use Rattle.std.proofs.Common.{rules, subst}
use Rattle.pep508_clauses.specs.Apart.{AddsWord}
use Rattle.std.proofs.lemmas.List.{take_more}
use Rattle.pep508_clauses.proofs.Beginning.{next_apart}
use Rattle.pep508_clauses.proofs.apart.common_words.Goals as goal

pub loop-clause-preserved : goal.loop-clause-preserved
loop-clause-preserved g c =
    next_apart g.T.Term.literal c.loop-clause.seen.keys c.loop-clause.common.keys c.add_word.new.seen.keys
    c.add_word.new.common.keys _ _ c.in-Some.term.now c.in-Some.field-0-1.now (search (rules, take_more))
    c.loop-clause.invariant
    (subst
    (λ word. AddsWord c.loop-clause.seen.keys c.loop-clause.common.keys word c.add_word.new.seen.keys
    c.add_word.new.common.keys)
    c.literal.ensures c.in_ok-add_word-in-Some.ensures)
