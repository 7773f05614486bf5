use Rattle.std.proofs.lemmas.Grind.{common_steps}
use Rattle.std.proofs.Common.{◌≡◌, subst, sym, arith}
use Rattle.std.specs.Str.Parse.{AllDigits}
use Rattle.pep440_text.proofs.Digits.{leading_are_digits}
use Rattle.pep440_text.specs.Reading.{leading_digits}
use Rattle.pep440_text.proofs.reading.number.split_digits.Goals as goal

pub returns-clause-are_digits : goal.returns-clause-are_digits
returns-clause-are_digits c =
    let digits : c.split_at.result.0.now ≡ leading_digits c.args.bytes.now = grind (arith, common_steps) in
    subst (AllDigits 10) (sym digits) (leading_are_digits c.args.bytes.now)
