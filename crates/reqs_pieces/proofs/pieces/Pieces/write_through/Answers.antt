use Rattle.std.proofs.Common.{◌≡◌, ◌∙◌, ◌<◌, ◌≤◌, ◌++◌, ◌+◌, ℕ, List, length, length-append, arith, map, take, drop, get_or, string_bytes}
use Rattle.std.proofs.Common.{All, ap, subst}
use Rattle.std.proofs.lemmas.Result.{on_ok_weaker, on_err_weaker, err_from_is_err_and}
use Rattle.reqs_io.specs.Front.{WritesWhole, AppendsFront}
use Rattle.reqs_pieces.specs.Pieces.{text_of}
use Rattle.reqs_pieces.specs.Waiting.{IsWaiting}
use Rattle.reqs_pieces.proofs.Joined.{one_more, cut_at, all_joined, piece_is}
use Rattle.reqs_pieces.proofs.Writing.{waits_more, front_behind, front_of_more, whole_written, front_written}
use Rattle.reqs_pieces.proofs.pieces.Pieces.write_through.Goals as goal

pub returns-in_err-add_text-clause-front : goal.returns-in_err-add_text-clause-front
returns-in_err-add_text-clause-front g c =
    let p = err_from_is_err_and c.from_residual.result c.from_residual.ensures.1 in
    let contents = g.W.Write.contents in
    let old = c.args.writer.now in
    let mid = c.loop-at.writer in
    let new = c.add_text.new.writer in
    let items = c.self.inside.texts.items in
    let texts = map string_bytes items in
    let order = c.self.inside.order.items ++ c.self.inside.later.items in
    let i = c.loop-at.at in
    let piece = get_or order i 0 in
    let below : i < length order =
    omega (arith, c.loop-at-test.true, length-append c.self.inside.order.items c.self.inside.later.items, c.len.ensures, c.len-2.ensures) in
    let inside : All (λ p. p < length items) order = c.self.invariant in
    let found : c.piece_at.result ≡ piece =
    c.piece_at.ensures ∙ ap (λ o. get_or o i 0) (λ k. c.deref.ensures.value k ++ c.deref-in-loop-at.ensures.value k) in
    let bytes = c.as_bytes.ensures.value ∙ piece_is string_bytes items piece c.index-text.result.now (inside i 0 below) (c.index-text.ensures ∙ ap (λ p. get_or items p c.index-text.result.now) found) in
    let front = text_of texts (take i order) in
    let P : List ℕ → Type 0 = λ t. AppendsFront (contents old) (contents new) t in
    let written = front_behind contents old mid new c.loop-at.buffer.items front c.loop-at.invariant c.as_bytes.result.now c.in_err-add_text.ensures.front in
    let so_far = subst P (ap (λ b. front ++ b) bytes ∙ one_more texts order i below) written in
    let whole = cut_at texts order (i + 1) ∙ ap (λ r. r.whole) c.self.view_is in
    rw p.1 (subst P whole (front_of_more (contents old) (contents new) (text_of texts (take (i + 1) order)) (text_of texts (drop (i + 1) order)) so_far))

pub loop-at-preserved : goal.loop-at-preserved
loop-at-preserved g c =
    let contents = g.W.Write.contents in
    let old = c.args.writer.now in
    let mid = c.loop-at.writer in
    let new = c.add_text.new.writer in
    let items = c.self.inside.texts.items in
    let texts = map string_bytes items in
    let order = c.self.inside.order.items ++ c.self.inside.later.items in
    let i = c.loop-at.at in
    let piece = get_or order i 0 in
    let below : i < length order =
    omega (arith, c.loop-at-test.true, length-append c.self.inside.order.items c.self.inside.later.items, c.len.ensures, c.len-2.ensures) in
    let inside : All (λ p. p < length items) order = c.self.invariant in
    let found : c.piece_at.result ≡ piece =
    c.piece_at.ensures ∙ ap (λ o. get_or o i 0) (λ k. c.deref.ensures.value k ++ c.deref-in-loop-at.ensures.value k) in
    let bytes = c.as_bytes.ensures.value ∙ piece_is string_bytes items piece c.index-text.result.now (inside i 0 below) (c.index-text.ensures ∙ ap (λ p. get_or items p c.index-text.result.now) found) in
    let front = text_of texts (take i order) in
    let left = c.add_text.new.buffer.items in
    let P : List ℕ → Type 0 = λ t. IsWaiting contents old new left t in
    subst P (ap (λ b. front ++ b) bytes ∙ one_more texts order i below)
    (waits_more contents old mid new c.loop-at.buffer.items front c.loop-at.invariant c.as_bytes.result.now left c.in_ok-add_text.ensures.waits)

pub returns-clause-all : goal.returns-clause-all
returns-clause-all g c =
    let contents = g.W.Write.contents in
    let old = c.args.writer.now in
    let mid = c.loop-at.writer in
    let new = c.write_whole.new.writer in
    let texts = map string_bytes c.self.inside.texts.items in
    let order = c.self.inside.order.items ++ c.self.inside.later.items in
    let i = c.loop-at.at in
    let past : length order ≤ i =
    omega (arith, c.loop-at-test.false, length-append c.self.inside.order.items c.self.inside.later.items, c.len.ensures, c.len-2.ensures) in
    let whole = all_joined texts order i past ∙ ap (λ r. r.whole) c.self.view_is in
    let P : List ℕ → Type 0 = λ t. WritesWhole contents old new t in
    let Q : List ℕ → Type 0 = λ t. WritesWhole contents mid new t in
    on_ok_weaker c.write_whole.result
    (λ h. subst P whole
    (whole_written contents old mid new c.loop-at.buffer.items (text_of texts (take i order)) c.loop-at.invariant (subst Q c.deref-2.ensures.value h)))
    c.write_whole.ensures.all

pub returns-clause-front : goal.returns-clause-front
returns-clause-front g c =
    let contents = g.W.Write.contents in
    let old = c.args.writer.now in
    let mid = c.loop-at.writer in
    let new = c.write_whole.new.writer in
    let texts = map string_bytes c.self.inside.texts.items in
    let order = c.self.inside.order.items ++ c.self.inside.later.items in
    let i = c.loop-at.at in
    let past : length order ≤ i =
    omega (arith, c.loop-at-test.false, length-append c.self.inside.order.items c.self.inside.later.items, c.len.ensures, c.len-2.ensures) in
    let whole = all_joined texts order i past ∙ ap (λ r. r.whole) c.self.view_is in
    let P : List ℕ → Type 0 = λ t. AppendsFront (contents old) (contents new) t in
    let Q : List ℕ → Type 0 = λ t. AppendsFront (contents mid) (contents new) t in
    on_err_weaker c.write_whole.result
    (λ h. subst P whole
    (front_written contents old mid new c.loop-at.buffer.items (text_of texts (take i order)) c.loop-at.invariant (subst Q c.deref-2.ensures.value h)))
    c.write_whole.ensures.front
