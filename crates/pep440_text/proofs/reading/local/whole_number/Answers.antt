use Rattle.std.proofs.Common.{◌≡◌, length, arith, sym}
use Rattle.std.proofs.lemmas.Bool.Decides.{nat_tests}
use Rattle.pep440_text.proofs.Digits.{is_whole, is_not_whole}
use Rattle.pep440_text.proofs.reading.local.whole_number.Goals as goal

pub returns-then-is_empty : goal.returns-then-is_empty
returns-then-is_empty c =
    let none : length c.split_digits.result.1.now ≡ 0 = grind (arith, nat_tests) in
    is_whole c.args.letters.now _ _ c.value.result c.split_digits.ensures.digits c.split_digits.ensures.rest none c.value.ensures

pub returns-else-is_empty : goal.returns-else-is_empty
returns-else-is_empty c = is_not_whole c.args.letters.now _ c.split_digits.ensures.rest (sym c.if-is_empty.ensures)
