use Rattle.std.specs.Str.Iter.{char_indices_rest, char_indices_offset}
use Rattle.reqtable_candidates.proofs.Comments.{Scan}
use Rattle.reqtable_candidates.proofs.text_lines.before_comment.Given as goal

abbrev pub invariant-loop-at : goal.invariant-loop-at
invariant-loop-at l = (goal.iterator-loop-at).can_next l.at-iterator
    × (goal.iterator-loop-at).is_finite l.at-iterator
    × Scan l.line l.begins (char_indices_offset l.at-iterator) (char_indices_rest l.at-iterator)
