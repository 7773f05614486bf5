-- Two ranges that are asked one after the other.
use Rattle.std.proofs.Common.{◌≡◌, ◌&&◌, Bool, true, false, not, refl, ap, sym, true≢false}

pub together : (a b c : Bool) → (a && (b && c)) ≡ ((a && b) && c)
together true b c = refl
together false b c = refl

pub first_lacks : (a b : Bool) → a ≡ false → true ≡ not (a && b)
first_lacks true b e = absurd (true≢false e)
first_lacks false b e = refl

pub second_tells : (a b found : Bool) → a ≡ true → found ≡ b → not found ≡ not (a && b)
second_tells true b found e f = ap not f
second_tells false b found e f = absurd (true≢false (sym e))
