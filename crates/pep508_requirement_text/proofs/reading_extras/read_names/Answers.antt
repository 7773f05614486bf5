use Rattle.std.proofs.Common.{length, lit<, sym, ◌∙◌, ◌∷◌, [], ◌++◌}
use Rattle.std.proofs.lemmas.Iterator.Consumers.{YieldsList-turn, YieldsList-end}
use Rattle.std.proofs.lemmas.Iterator.Splits.{YieldsList-from_str_split}
use Rattle.std.proofs.lemmas.List.{length_push}
use Rattle.pep508_requirement_text.proofs.ExtrasReading.{read_more, read_none, all_read}
use Rattle.pep508_requirement_text.proofs.reading_extras.read_names.Goals as goal

pub loop-piece-preserved : goal.loop-piece-preserved
loop-piece-preserved c =
    let all =
    YieldsList-from_str_split {s = c.into_iter-piece-iterator.result} 44 c.args.inside.now (lit< tt) (cc) (cc) (cc) in
    let at =
    YieldsList-turn all c.loop-piece.yielded _ c.loop-piece.yielded_by _ _ c.in-Some.piece c.in-Some.is
    c.next.ensures.steps in
    read_more c.args.inside.now (length c.loop-piece.yielded) c.loop-piece.names.items c.in-Some.piece.now
    c.in-Some-2.name c.loop-piece.invariant at (sym c.in_ok-name.ensures ∙ c.in-Some-2.is)
    (length (c.loop-piece.yielded ++ c.in-Some.piece ∷ [])) (length_push c.loop-piece.yielded c.in-Some.piece)
    c.push.new.self.items c.in_ok-push-in-Some-2.ensures.items

pub returns-in-None-2 : goal.returns-in-None-2
returns-in-None-2 c =
    let all =
    YieldsList-from_str_split {s = c.into_iter-piece-iterator.result} 44 c.args.inside.now (lit< tt) (cc) (cc) (cc) in
    let at =
    YieldsList-turn all c.loop-piece.yielded _ c.loop-piece.yielded_by _ _ c.in-Some.piece c.in-Some.is
    c.next.ensures.steps in
    sym (read_none c.args.inside.now (length c.loop-piece.yielded) c.in-Some.piece.now at
    (sym c.in_ok-name.ensures ∙ c.in-None-2.is))

pub returns : goal.returns
returns c =
    let all =
    YieldsList-from_str_split {s = c.into_iter-piece-iterator.result} 44 c.args.inside.now (lit< tt) (cc) (cc) (cc) in
    let ended =
    YieldsList-end all c.loop-piece.yielded _ c.loop-piece.yielded_by _ _ c.in-None.is c.next.ensures.steps in
    all_read c.args.inside.now (length c.loop-piece.yielded) c.loop-piece.names.items c.loop-piece.invariant ended.1
