use Rattle.std.proofs.Common.{sym, ◌∙◌, arith}
use Rattle.std.proofs.lemmas.Bool.{false≢true}
use Rattle.pep440_specifier_list.proofs.Refused.{asking_more, refusal_at}
use Rattle.pep440_specifier_list.proofs.asking.ask.Goals as goal

pub returns-in-Err-clause-refusal : goal.returns-in-Err-clause-refusal
returns-in-Err-clause-refusal c =
    refusal_at c.args.members.now c.args.version.now c.loop-member.asked c.loop-member.member-index c.member-item.result c.loop-member.invariant (omega arith) c.member-item.is
    (λ h. false≢true (c.in-Err.ensures.memory h))

pub loop-member-preserved : goal.loop-member-preserved
loop-member-preserved c =
    asking_more c.args.members.now c.args.version.now c.loop-member.asked c.loop-member.member-index c.member-item.result c.loop-member.invariant (omega arith) c.member-item.is
    (sym c.in-Ok-true.ensures.matching ∙ c.in-Ok-true.field-0-test)
