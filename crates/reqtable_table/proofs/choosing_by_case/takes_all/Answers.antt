use Rattle.std.proofs.Common.{◌∙◌, true, false, sym, ap, is_none}
use Rattle.reqtable_table.proofs.AskedParts.{both_asked, back_asked, back_refuses, both_answer}
use Rattle.reqtable_table.proofs.choosing_by_case.takes_all.Goals as goal

pub returns-in-Ok-Some-clause-answer : goal.returns-in-Ok-Some-clause-answer
returns-in-Ok-Some-clause-answer c =
    back_refuses _ _ _ _ _ _ c.split_at.ensures.by_index.0 c.split_at_mut-front.ensures.value
    (c.split_at.ensures.front_len ∙ sym c.split_at_mut-front.ensures.front_len) c.args.version.now
    (sym (ap is_none c.in-Ok-Some.field-0-is) ∙ c.in-Ok-Some.ensures.answer)

pub returns-in-Ok-Some-clause-more : goal.returns-in-Ok-Some-clause-more
returns-in-Ok-Some-clause-more c =
    back_asked _ _ _ _ _ _ c.split_at.ensures.by_index.0 c.split_at_mut-front.ensures.value
    (c.split_at.ensures.front_len ∙ sym c.split_at_mut-front.ensures.front_len) c.first_rejecting.new.lines c.first_rejecting.ensures.more

pub returns-in-Err-clause-more : goal.returns-in-Err-clause-more
returns-in-Err-clause-more c =
    back_asked _ _ _ _ _ _ c.split_at.ensures.by_index.0 c.split_at_mut-front.ensures.value
    (c.split_at.ensures.front_len ∙ sym c.split_at_mut-front.ensures.front_len) c.first_rejecting.new.lines c.first_rejecting.ensures.more

pub returns-in-Ok-Some-first_rejecting-clause-answer : goal.returns-in-Ok-Some-first_rejecting-clause-answer
returns-in-Ok-Some-first_rejecting-clause-answer c =
    both_answer _ _ _ _ _ _ c.split_at.ensures.by_index.0 c.split_at_mut-front.ensures.value
    (c.split_at.ensures.front_len ∙ sym c.split_at_mut-front.ensures.front_len) c.args.version.now false
    (sym (ap is_none c.in-Ok-Some-first_rejecting.field-0-is) ∙ c.in-Ok-Some-first_rejecting.ensures.answer)
    (sym (ap is_none c.in-Ok-None.field-0-is) ∙ c.in-Ok-None.ensures.answer)

pub returns-in-Ok-None-first_rejecting-clause-answer : goal.returns-in-Ok-None-first_rejecting-clause-answer
returns-in-Ok-None-first_rejecting-clause-answer c =
    both_answer _ _ _ _ _ _ c.split_at.ensures.by_index.0 c.split_at_mut-front.ensures.value
    (c.split_at.ensures.front_len ∙ sym c.split_at_mut-front.ensures.front_len) c.args.version.now true
    (sym (ap is_none c.in-Ok-None-first_rejecting.field-0-is) ∙ c.in-Ok-None-first_rejecting.ensures.answer)
    (sym (ap is_none c.in-Ok-None.field-0-is) ∙ c.in-Ok-None.ensures.answer)

pub returns-in-Ok-Some-first_rejecting-clause-more : goal.returns-in-Ok-Some-first_rejecting-clause-more
returns-in-Ok-Some-first_rejecting-clause-more c =
    both_asked _ _ _ _ _ _ c.split_at.ensures.by_index.0 c.split_at_mut-front.ensures.value
    (c.split_at.ensures.front_len ∙ sym c.split_at_mut-front.ensures.front_len) c.first_rejecting-2.new.lines c.first_rejecting.new.lines
    c.first_rejecting-2.ensures.more c.first_rejecting.ensures.more

pub returns-in-Ok-None-first_rejecting-clause-more : goal.returns-in-Ok-None-first_rejecting-clause-more
returns-in-Ok-None-first_rejecting-clause-more c =
    both_asked _ _ _ _ _ _ c.split_at.ensures.by_index.0 c.split_at_mut-front.ensures.value
    (c.split_at.ensures.front_len ∙ sym c.split_at_mut-front.ensures.front_len) c.first_rejecting-2.new.lines c.first_rejecting.new.lines
    c.first_rejecting-2.ensures.more c.first_rejecting.ensures.more

pub returns-in-Err-first_rejecting-clause-more : goal.returns-in-Err-first_rejecting-clause-more
returns-in-Err-first_rejecting-clause-more c =
    both_asked _ _ _ _ _ _ c.split_at.ensures.by_index.0 c.split_at_mut-front.ensures.value
    (c.split_at.ensures.front_len ∙ sym c.split_at_mut-front.ensures.front_len) c.first_rejecting-2.new.lines c.first_rejecting.new.lines
    c.first_rejecting-2.ensures.more c.first_rejecting.ensures.more
