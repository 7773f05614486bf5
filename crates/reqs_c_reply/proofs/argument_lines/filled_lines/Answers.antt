use Rattle.std.proofs.Common.{rules, tests, lit<, length, ◌==◌, not}
use Rattle.std.proofs.lemmas.Iterator.Consumers.{map_from_collect, YieldsList-at, YieldsList-from_filter}
use Rattle.std.proofs.lemmas.Iterator.Splits.{YieldsList-from_str_split}
use Rattle.reqs_c_reply.specs.Lines.{filled_lines}
use Rattle.reqs_c_reply.proofs.argument_lines.filled_lines.Goals as goal

pub returns : goal.returns
unfolding filled_lines
returns c =
    let split = c.split.ensures in
    map_from_collect _ c.collect.ensures.ran
    (YieldsList-from_filter _ (λ line. not (length line == 0))
    (YieldsList-at c.filter.ensures.source
    (YieldsList-from_str_split 10 c.args.text.now (lit< tt) split.text split.has_more split.pattern))
    c.filter.ensures.closure (λ x r q k. search (rules, tests)))
