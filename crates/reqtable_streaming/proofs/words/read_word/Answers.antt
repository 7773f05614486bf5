use Rattle.std.proofs.Common.{arith}
use Rattle.pep440_version.proofs.PlainTexts.{none_left, one_read, two_read, three_read}
use Rattle.reqtable_streaming.proofs.PlainWords.{found, packed_one, packed_two, packed_three}
use Rattle.reqtable_streaming.proofs.words.read_word.Goals as goal

pub returns-then-is_empty-clause-word : goal.returns-then-is_empty-clause-word
returns-then-is_empty-clause-word c =
    let first = c.in_ok-first in
    found c.args.text.now _ _
    (one_read c.args.text.now first.behind_first.now first.first first.ensures.read
    (none_left first.behind_first.now c.if-is_empty.ensures))
    (packed_one first.first c.if-first-ge65536.false)

pub returns-then-is_empty-2-clause-word : goal.returns-then-is_empty-2-clause-word
returns-then-is_empty-2-clause-word c =
    let first = c.in_ok-first in
    let second = c.in_ok-second in
    found c.args.text.now _ _
    (two_read c.args.text.now first.behind_first.now second.behind_second.now first.first second.second
    first.ensures.read second.ensures.read (omega (arith, second.ensures.less))
    (none_left second.behind_second.now c.if-is_empty-2.ensures))
    (packed_two first.first second.second c.if-first-ge65536.false second.ensures.small)

pub returns-then-is_empty-3-clause-word : goal.returns-then-is_empty-3-clause-word
returns-then-is_empty-3-clause-word c =
    let first = c.in_ok-first in
    let second = c.in_ok-second in
    let third = c.in_ok-third in
    found c.args.text.now _ _
    (three_read c.args.text.now first.behind_first.now second.behind_second.now third.behind_third.now first.first
    second.second third.third first.ensures.read second.ensures.read third.ensures.read
    (omega (arith, second.ensures.less)) (none_left third.behind_third.now c.if-is_empty-3.ensures))
    (packed_three first.first second.second third.third c.if-first-ge65536.false second.ensures.small
    third.ensures.small)
