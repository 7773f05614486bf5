use Rattle.std.proofs.Common.{◌≡◌, ℕ, ◌+◌, ◌-◌, ◌*◌, ◌^◌, ◌<◌, ◌≤◌, nat_lt, Option, Some, None, List, take}
use Rattle.std.proofs.Common.{get_or, length, arith, if◌then◌else◌}
use Rattle.std.proofs.lemmas.Bool.Decides.{nat_tests}
use Rattle.std.specs.Int.{IsInRange}
use Rattle.std.specs.Char.{digit_value}
use Rattle.std.specs.Str.Parse.{AllDigits, digits_value}
use Rattle.std.proofs.lemmas.Str.Parse.{digit_at, digits_value-take-le}
use Rattle.std.proofs.lemmas.Int.Digits.{digits_value_more}
use Rattle.pep440_text.proofs.reading.number.value.Goals as goal

-- a decimal digit stands for its distance from `0`
digit_is : (d : ℕ) → 48 ≤ d → d ≤ 57 → digit_value d ≡ d - 48
digit_is d low high = grind (arith, nat_tests)

next_value : (ds : List ℕ) (i : ℕ) → AllDigits 10 ds → i < length ds → digits_value 10 (take (i + 1) ds) ≡ 10 * digits_value 10 (take i ds) + (get_or ds i 0 - 48)
next_value ds i a h =
    let r : IsInRange 48 57 (get_or ds i 0) = digit_at ds i a h in
    let d : digit_value (get_or ds i 0) ≡ get_or ds i 0 - 48 = digit_is (get_or ds i 0) r.0 r.1 in
    omega (arith, digits_value_more 10 ds i h, d)

large : (w : ℕ) (r : Option ℕ) → r ≡ None → 2 ^ 64 ≤ w → r ≡ (if nat_lt w (2 ^ 64) then Some w else None)
large w r e h = grind (arith, nat_tests)

fits : (w n : ℕ) → n ≡ w → n < 2 ^ 64 → Some n ≡ (if nat_lt w (2 ^ 64) then Some w else None)
fits w n e h = grind (arith, nat_tests)

pub returns-in_err-checked_mul : goal.returns-in_err-checked_mul
returns-in_err-checked_mul c =
    let ds = c.args.digits.now in
    let next = next_value ds c.loop-digit.digit-index c.requires c.loop-digit-test.true in
    let whole = digits_value-take-le 10 ds (c.loop-digit.digit-index + 1) (omega arith) in
    large (digits_value 10 ds) c.from_residual.result c.from_residual.ensures (omega (arith, next, whole, c.loop-digit.invariant.so_far, c.in_err-checked_mul.ensures))

pub returns-in_err-total : goal.returns-in_err-total
returns-in_err-total c =
    let ds = c.args.digits.now in
    let next = next_value ds c.loop-digit.digit-index c.requires c.loop-digit-test.true in
    let whole = digits_value-take-le 10 ds (c.loop-digit.digit-index + 1) (omega arith) in
    large (digits_value 10 ds) c.from_residual-in_err-total.result c.from_residual-in_err-total.ensures (omega (arith, next, whole, c.loop-digit.invariant.so_far, c.in_ok-checked_mul.ensures, c.saturating_sub.ensures, c.in_err-total.ensures))

pub loop-digit-preserved : goal.loop-digit-preserved
loop-digit-preserved c =
    let ds = c.args.digits.now in
    let next = next_value ds c.loop-digit.digit-index c.requires c.loop-digit-test.true in
    record { so_far = omega (arith, next, c.loop-digit.invariant.so_far, c.in_ok-checked_mul.ensures, c.saturating_sub.ensures, c.in_ok-total.ensures); fits = omega (arith, c.in_ok-total.ensures) }
