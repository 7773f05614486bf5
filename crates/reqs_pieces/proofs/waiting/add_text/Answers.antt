use Rattle.std.proofs.Common.{ℕ, List, [], subst}
use Rattle.std.proofs.lemmas.Result.{on_ok_weaker, on_err_weaker}
use Rattle.reqs_io.specs.Front.{WritesWhole, AppendsFront}
use Rattle.reqs_pieces.proofs.Writing.{none_waits, waits_more, front_behind, front_of_more}
use Rattle.reqs_pieces.proofs.waiting.add_text.Goals as goal

pub returns-in-Ok-clause-waits : goal.returns-in-Ok-clause-waits
returns-in-Ok-clause-waits g c =
    let contents = g.W.Write.contents in
    let old = c.args.writer.now in
    let mid = c.write_whole.new.writer in
    let waiting = c.args.buffer.now.items in
    let P : List ℕ → Type 0 = λ t. WritesWhole contents old mid t in
    on_ok_weaker c.start.result
    (waits_more contents old mid c.start.new.writer [] waiting
    (none_waits contents old mid waiting (subst P c.deref.ensures.value c.in-Ok.ensures.all)) c.args.text.now
    c.start.new.buffer.items)
    c.start.ensures.waits

pub returns-in-Ok-clause-front : goal.returns-in-Ok-clause-front
returns-in-Ok-clause-front g c =
    let contents = g.W.Write.contents in
    let old = c.args.writer.now in
    let mid = c.write_whole.new.writer in
    let waiting = c.args.buffer.now.items in
    let P : List ℕ → Type 0 = λ t. WritesWhole contents old mid t in
    on_err_weaker c.start.result
    (front_behind contents old mid c.start.new.writer [] waiting
    (none_waits contents old mid waiting (subst P c.deref.ensures.value c.in-Ok.ensures.all)) c.args.text.now)
    c.start.ensures.front

pub returns-in-Err-clause-front : goal.returns-in-Err-clause-front
returns-in-Err-clause-front g c =
    let contents = g.W.Write.contents in
    let old = contents c.args.writer.now in
    let new = contents c.write_whole.new.writer in
    let P : List ℕ → Type 0 = λ t. AppendsFront old new t in
    front_of_more old new c.args.buffer.now.items c.args.text.now (subst P c.deref.ensures.value c.in-Err.ensures.front)
