-- The order of versions is that of their public parts, and then that of their local parts.
use Rattle.std.proofs.Common.{◌≡◌, ℕ, List, [], ◌∷◌, ◌++◌, length, refl, arith}
use Rattle.std.specs.declared.cmp.Ordering.{Ordering}
use Rattle.std.specs.declared.cmp.Ordering.TheVariants.{Less, Equal, Greater}
use Rattle.std.specs.Ordering.{ordering_then, nat_cmp}
use Rattle.std.specs.Cmp.Lexicographic.{slice_cmp}
use Rattle.pep440_text.specs.Record.{VersionRecord, without_local}
use Rattle.pep440_version.specs.Order.{local_key, key_of, key_cmp, version_cmp}

before_last : (first middle last all : Ordering) → all ≡ ordering_then middle last
    → ordering_then first all ≡ ordering_then (ordering_then first middle) last
before_last Less middle last all e = refl
before_last Equal middle last all e = e
before_last Greater middle last all e = refl

front_cmp : (xs ys more others : List (List ℕ)) → length xs ≡ length ys
    → key_cmp (xs ++ more) (ys ++ others) ≡ ordering_then (key_cmp xs ys) (key_cmp more others)
front_cmp [] [] more others h = refl
front_cmp [] (y ∷ ys) more others h = absurd (omega arith)
front_cmp (x ∷ xs) [] more others h = absurd (omega arith)
front_cmp (x ∷ xs) (y ∷ ys) more others h =
    before_last (slice_cmp nat_cmp x y) (key_cmp xs ys) (key_cmp more others)
    (key_cmp (xs ++ more) (ys ++ others))
    (front_cmp xs ys more others (omega arith))

pub local_last : (a b : VersionRecord)
    → version_cmp a b ≡ ordering_then (version_cmp (without_local a) (without_local b))
    (key_cmp (local_key a.local) (local_key b.local))
unfolding key_of
local_last a b =
    front_cmp (key_of (without_local a)) (key_of (without_local b)) (local_key a.local)
    (local_key b.local) refl
