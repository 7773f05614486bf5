-- Which of two joined orders decides.
use Rattle.std.proofs.Common.{◌≡◌, true, false, refl, sym, true≢false, Ordering, Less, Equal, Greater}
use Rattle.std.specs.Ordering.{is_ne, ordering_then}

pub first_decides : (o p : Ordering) → is_ne o ≡ true → o ≡ ordering_then o p
first_decides Less p e = refl
first_decides Equal p e = absurd (true≢false (sym e))
first_decides Greater p e = refl

pub second_decides : (o p : Ordering) → is_ne o ≡ false → p ≡ ordering_then o p
second_decides Less p e = absurd (true≢false e)
second_decides Equal p e = refl
second_decides Greater p e = absurd (true≢false e)
