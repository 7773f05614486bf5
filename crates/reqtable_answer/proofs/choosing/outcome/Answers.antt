use Rattle.std.proofs.Common.{◌∙◌, ◌<◌, None, Some, IfSome, sym, ap, subst, map, option_map}
use Rattle.reqtable_answer.specs.Asks.{has_url}
use Rattle.reqtable_answer.specs.Groups.{numbered_seen}
use Rattle.reqtable_answer.specs.Says.{ask_seen, asks_seen}
use Rattle.reqtable_answer.proofs.Tests.{any_mapped}
use Rattle.reqtable_answer.proofs.Passing.{direct_is, chosen_is}
use Rattle.reqtable_answer.proofs.choosing.outcome.Goals as goal

pub returns-then-is_direct-clause-chosen : goal.returns-then-is_direct-clause-chosen
returns-then-is_direct-clause-chosen g c = λ admits by.
    direct_is admits (asks_seen c.args.asks.now) (map numbered_seen c.args.candidates.now)
    (any_mapped has_url ask_seen c.args.asks.now ∙ sym c.is_direct.ensures ∙ c.if-is_direct.true)

pub returns-in-None-clause-chosen : goal.returns-in-None-clause-chosen
returns-in-None-clause-chosen g c = λ admits by.
    chosen_is admits (asks_seen c.args.asks.now) (map numbered_seen c.args.candidates.now)
    (any_mapped has_url ask_seen c.args.asks.now ∙ sym c.is_direct.ensures ∙ c.if-is_direct.false) None
    (ap (option_map numbered_seen) (sym c.in-None.is) ∙ c.in_ok-greatest.ensures.greatest admits by)

pub returns-in-Some-clause-chosen : goal.returns-in-Some-clause-chosen
returns-in-Some-clause-chosen g c = λ admits by.
    chosen_is admits (asks_seen c.args.asks.now) (map numbered_seen c.args.candidates.now)
    (any_mapped has_url ask_seen c.args.asks.now ∙ sym c.is_direct.ensures ∙ c.if-is_direct.false) (Some (numbered_seen c.in-Some.found))
    (ap (option_map numbered_seen) (sym c.in-Some.is) ∙ c.in_ok-greatest.ensures.greatest admits by)

pub returns-in-Some-clause-below : goal.returns-in-Some-clause-below
returns-in-Some-clause-below g c = λ count within.
    subst (λ o. IfSome o (λ found. found.place < count)) c.in-Some.is (c.in_ok-greatest.ensures.below count within)
