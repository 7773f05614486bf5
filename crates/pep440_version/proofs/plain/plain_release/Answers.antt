use Rattle.std.proofs.Common.{arith}
use Rattle.pep440_version.proofs.PlainTexts.{none_left, one_read, two_read, three_read}
use Rattle.pep440_version.proofs.plain.plain_release.Goals as goal

pub returns-then-is_empty-clause-read : goal.returns-then-is_empty-clause-read
returns-then-is_empty-clause-read c =
    let first = c.in_ok-first in
    one_read c.args.text.now first.behind_first.now first.first first.ensures.read
    (none_left first.behind_first.now c.if-is_empty.ensures)

pub returns-then-is_empty-2-clause-read : goal.returns-then-is_empty-2-clause-read
returns-then-is_empty-2-clause-read c =
    let first = c.in_ok-first in
    let second = c.in_ok-second in
    two_read c.args.text.now first.behind_first.now second.behind_second.now first.first second.second
    first.ensures.read second.ensures.read (omega (arith, second.ensures.less))
    (none_left second.behind_second.now c.if-is_empty-2.ensures)

pub returns-then-is_empty-3-clause-read : goal.returns-then-is_empty-3-clause-read
returns-then-is_empty-3-clause-read c =
    let first = c.in_ok-first in
    let second = c.in_ok-second in
    let third = c.in_ok-third in
    three_read c.args.text.now first.behind_first.now second.behind_second.now third.behind_third.now first.first
    second.second third.third first.ensures.read second.ensures.read third.ensures.read
    (omega (arith, second.ensures.less)) (none_left third.behind_third.now c.if-is_empty-3.ensures)
