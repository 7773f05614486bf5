use Rattle.std.proofs.Common.{◌++◌, map, take, string_bytes}
use Rattle.reqs_pieces.specs.Pieces.{text_of}
use Rattle.reqs_pieces.specs.Waiting.{IsWaiting}
use Rattle.reqs_pieces.proofs.pieces.Pieces.write_through.Given as goal

abbrev pub invariant-loop-at : goal.invariant-loop-at
invariant-loop-at g l =
    IsWaiting g.W.Write.contents l.fn.writer l.writer l.buffer.items
    (text_of (map string_bytes l.texts.items) (take l.at (l.order.items ++ l.later.items)))
