use Rattle.std.proofs.Common.{length, arith, lit<, ◌∷◌, [], ◌++◌}
use Rattle.std.proofs.lemmas.Iterator.Consumers.{YieldsList-turn, YieldsList-end}
use Rattle.std.proofs.lemmas.Iterator.Splits.{YieldsList-from_str_split}
use Rattle.std.proofs.lemmas.List.{length_push}
use Rattle.std.proofs.lemmas.Result.{err_from_is_err_and}
use Rattle.pep440_specifier_list.specs.ListReading.{told_list}
use Rattle.pep440_specifier_list.proofs.Pieces.{within, reading_begins, reading_step, tells_at, all_pieces}
use Rattle.pep440_specifier_list.proofs.Places.{piece_placed}
use Rattle.pep440_specifier_list.proofs.reading.read_members.Goals as goal

pub loop-piece-init : goal.loop-piece-init
loop-piece-init c = reading_begins c.args.text.now c.in_ok-members.members.items c.in_ok-members.ensures

pub overflow_add-end : goal.overflow_add-end
overflow_add-end c =
    let all =
    YieldsList-from_str_split {s = c.into_iter-piece-iterator.result} 44 c.args.text.now (lit< tt) (cc) (cc) (cc) in
    let at =
    YieldsList-turn all c.loop-piece.yielded _ c.loop-piece.yielded_by _ _ c.in-Some.piece c.in-Some.is
    c.next.ensures.steps in
    let bound =
    within c.args.text.now (length c.loop-piece.yielded) c.loop-piece.members.items c.loop-piece.start
    c.in-Some.piece.now c.loop-piece.invariant at in
    omega (arith, bound)

pub read_piece-requires : goal.read_piece-requires
read_piece-requires c =
    let all =
    YieldsList-from_str_split {s = c.into_iter-piece-iterator.result} 44 c.args.text.now (lit< tt) (cc) (cc) (cc) in
    let at =
    YieldsList-turn all c.loop-piece.yielded _ c.loop-piece.yielded_by _ _ c.in-Some.piece c.in-Some.is
    c.next.ensures.steps in
    piece_placed c.args.text.now (length c.loop-piece.yielded) c.loop-piece.members.items c.loop-piece.start
    c.in-Some.piece.now c.utf8.text c.loop-piece.invariant at

pub returns-in_err-read_piece : goal.returns-in_err-read_piece
returns-in_err-read_piece c =
    let all =
    YieldsList-from_str_split {s = c.into_iter-piece-iterator.result} 44 c.args.text.now (lit< tt) (cc) (cc) (cc) in
    let at =
    YieldsList-turn all c.loop-piece.yielded _ c.loop-piece.yielded_by _ _ c.in-Some.piece c.in-Some.is
    c.next.ensures.steps in
    let fault =
    tells_at c.args.text.now (length c.loop-piece.yielded) c.loop-piece.members.items c.loop-piece.start
    c.in-Some.piece.now c.loop-piece.invariant at (told_list c.in_err-read_piece.field-0.0)
    c.in_err-read_piece.ensures.answered in
    let returned = err_from_is_err_and c.from_residual-in_err-read_piece.result c.from_residual-in_err-read_piece.ensures.1 in
    rw (returned.1, returned.2) (record { answered = fault; plain = c.in_err-read_piece.ensures.plain })

pub overflow_add-start : goal.overflow_add-start
overflow_add-start c =
    let all =
    YieldsList-from_str_split {s = c.into_iter-piece-iterator.result} 44 c.args.text.now (lit< tt) (cc) (cc) (cc) in
    let at =
    YieldsList-turn all c.loop-piece.yielded _ c.loop-piece.yielded_by _ _ c.in-Some.piece c.in-Some.is
    c.next.ensures.steps in
    let bound =
    within c.args.text.now (length c.loop-piece.yielded) c.loop-piece.members.items c.loop-piece.start
    c.in-Some.piece.now c.loop-piece.invariant at in
    omega (arith, bound)

pub loop-piece-preserved : goal.loop-piece-preserved
loop-piece-preserved c =
    let all =
    YieldsList-from_str_split {s = c.into_iter-piece-iterator.result} 44 c.args.text.now (lit< tt) (cc) (cc) (cc) in
    let at =
    YieldsList-turn all c.loop-piece.yielded _ c.loop-piece.yielded_by _ _ c.in-Some.piece c.in-Some.is
    c.next.ensures.steps in
    reading_step c.args.text.now (length c.loop-piece.yielded) c.loop-piece.members.items c.loop-piece.start
    c.in-Some.piece.now c.in_ok-read_piece.field-0 c.loop-piece.invariant at c.in_ok-read_piece.ensures.answered
    (length (c.loop-piece.yielded ++ c.in-Some.piece ∷ [])) c.push.new.self.items
    (length_push c.loop-piece.yielded c.in-Some.piece) c.in_ok-push.ensures.items

pub returns : goal.returns
returns c =
    let all =
    YieldsList-from_str_split {s = c.into_iter-piece-iterator.result} 44 c.args.text.now (lit< tt) (cc) (cc) (cc) in
    let ended =
    YieldsList-end all c.loop-piece.yielded _ c.loop-piece.yielded_by _ _ c.in-None.is c.next.ensures.steps in
    record {
      answered =
          all_pieces c.args.text.now (length c.loop-piece.yielded) c.loop-piece.members.items c.loop-piece.start
          c.loop-piece.invariant ended.1;
      plain = tt;
    }
