-- Answers of orders: turned round, one behind the other, and tested.
use Rattle.std.proofs.Common.{◌≡◌, Bool, true, false, not, ◌&&◌, ◌||◌, Option, Some, None, is_some, refl}
use Rattle.std.proofs.Common.{sym, true≢false}
use Rattle.std.specs.Option.{option_map}
use Rattle.std.specs.declared.cmp.Ordering.{Ordering}
use Rattle.std.specs.declared.cmp.Ordering.TheVariants.{Less, Equal, Greater}
use Rattle.std.specs.Ordering.{ordering_then, ordering_reverse, is_eq, is_lt, is_le, is_gt, is_ge}

-- ---- an answer turned round

pub turned_less : (o : Ordering) → is_lt (ordering_reverse o) ≡ is_gt o
turned_less Less = refl
turned_less Equal = refl
turned_less Greater = refl

pub turned_greater : (o : Ordering) → is_gt (ordering_reverse o) ≡ is_lt o
turned_greater Less = refl
turned_greater Equal = refl
turned_greater Greater = refl

pub turned_equal : (o : Ordering) → is_eq (ordering_reverse o) ≡ is_eq o
turned_equal Less = refl
turned_equal Equal = refl
turned_equal Greater = refl

pub turned_not_greater : (o : Ordering) → not (is_gt (ordering_reverse o)) ≡ is_ge o
turned_not_greater Less = refl
turned_not_greater Equal = refl
turned_not_greater Greater = refl

pub not_greater : (o : Ordering) → not (is_gt o) ≡ is_le o
not_greater Less = refl
not_greater Equal = refl
not_greater Greater = refl

-- ---- one answer behind another

pub regroup : (o p q : Ordering) → ordering_then (ordering_then o Equal) (ordering_then p q)
    ≡ ordering_then (ordering_then o p) q
regroup Less p q = refl
regroup Equal p q = refl
regroup Greater p q = refl

pub then_level : (o : Ordering) → ordering_then o Equal ≡ o
then_level Less = refl
then_level Equal = refl
then_level Greater = refl

-- just above one place, what is not reached lies behind it
pub not_from : (o : Ordering) → not (is_gt (ordering_then o Greater)) ≡ is_lt o
not_from Less = refl
not_from Equal = refl
not_from Greater = refl

pub both_equal : (o p : Ordering) → (is_eq o && is_eq p) ≡ is_eq (ordering_then o p)
both_equal Less p = refl
both_equal Equal p = refl
both_equal Greater p = refl

pub equal_first : (o p : Ordering) → ordering_then o p ≡ Equal → o ≡ Equal
equal_first Less p h = h
equal_first Equal p h = refl
equal_first Greater p h = h

pub neither_greater : (o p : Ordering) → is_gt o ≡ false → is_gt p ≡ false → is_gt (ordering_then o p)
    ≡ false
neither_greater Less p h k = refl
neither_greater Equal p h k = k
neither_greater Greater p h k = h

pub last_not_greater : (o p : Ordering) → is_gt p ≡ false → is_gt (ordering_then o p) ≡ is_gt o
last_not_greater Less p h = refl
last_not_greater Equal p h = h
last_not_greater Greater p h = refl

pub first_greater : (o p : Ordering) → is_gt o ≡ true → is_gt (ordering_then o p) ≡ true
first_greater Less p h = h
first_greater Equal p h = absurd (true≢false (sym h))
first_greater Greater p h = refl

pub later_greater : (o p q : Ordering) → (is_gt p ≡ true → is_gt q ≡ true) → is_gt (ordering_then o p)
    ≡ true → is_gt (ordering_then o q) ≡ true
later_greater Less p q f h = h
later_greater Equal p q f h = f h
later_greater Greater p q f h = refl

-- ---- tests and options

pub and_true : (b : Bool) → (b && true) ≡ b
and_true true = refl
and_true false = refl

pub not_false : (b : Bool) → not b ≡ false → b ≡ true
not_false true h = refl
not_false false h = sym h

pub neither : (a b : Bool) → (a || b) ≡ false → (a ≡ false) × (b ≡ false)
neither true b h = absurd (true≢false h)
neither false b h = (refl, h)

pub is_none : {A : Type 0} (o : Option A) → is_some o ≡ false → o ≡ None
is_none None h = refl
is_none (Some x) h = absurd (true≢false h)

-- what an option is that a function has changed
pub mapped_from : {A B : Type 0} (f : A → B) (o : Option A) (y : B) → option_map f o ≡ Some y → (x : A)
    × (o ≡ Some x) × (f x ≡ y)
mapped_from f None y e = absurd (cc)
mapped_from f (Some x) y e = let same : f x ≡ y = cc in (x, refl, same)
