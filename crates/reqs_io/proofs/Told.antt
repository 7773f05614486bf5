-- Bytes that a reader gave and bytes that it still has are bytes that it may have had.
use Rattle.std.proofs.Common.{◌+◌, ◌<◌, ℕ, List, ◌++◌, length, Option, Some, None, refl, ap, ◌∙◌, arith}
use Rattle.std.proofs.Common.{length-append}
use Rattle.std.specs.Io.KnownBytes.{Consumes}
use Rattle.reqs_io.specs.Front.{MayBeLonger}

-- what was read and what is read next are longer than the limit, and so is all
pub all_is_longer : (told mid new : Option (List ℕ)) (bytes next : List ℕ) (limit : ℕ)
    → Consumes told mid bytes
    → Consumes mid new next → limit < length bytes + length next → MayBeLonger limit told
all_is_longer None mid new bytes next limit p q h = (bytes ++ next, tt, omega (arith, length-append bytes next))
all_is_longer (Some xs) None new bytes next limit p q h = absurd p
all_is_longer (Some xs) (Some ys) None bytes next limit p q h = absurd q
all_is_longer (Some xs) (Some ys) (Some zs) bytes next limit p q h =
    (xs, refl, omega (arith, ap length p ∙ length-append bytes ys, ap length q ∙ length-append next zs))
