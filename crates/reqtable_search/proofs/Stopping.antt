-- How far a search goes.
use Rattle.std.proofs.Common.{◌≡◌, ◌∙◌, ◌<◌, ◌≤◌, ◌+◌, ◌&&◌, ◌||◌, ◌⊎◌, inl, inr, ℕ, zero, suc, Bool, true}
use Rattle.std.proofs.Common.{false, not, cond, List, [], ◌∷◌, length, map, get_or, refl, sym, ap, subst}
use Rattle.std.proofs.Common.{arith}
use Rattle.std.specs.List.{list_any, AllByRecursion}
use Rattle.version_ranges.specs.declared.boundary.Boundary.{Boundary}
use Rattle.version_ranges.specs.Boundaries.{point_of, turns_of}
use Rattle.version_ranges.specs.Point.{Point, BelowAll}
use Rattle.pep440_version.specs.Record.{VersionRecord}
use Rattle.reqtable_candidates.specs.declared.ordered.Placed.{Placed}
use Rattle.reqtable_search.specs.Told.{is_told, TurnsBetween}
use Rattle.reqtable_search.specs.InRun.{version_of, untold_from, IsOneOf, MayDiffer}
use Rattle.reqtable_search.proofs.Falling.{reached_by}

-- ---- a boundary between two versions

or_true : (b : Bool) → (b || true) ≡ true
or_true true = refl
or_true false = refl

abbrev parts : Point VersionRecord → VersionRecord → VersionRecord → Bool
parts turn low high = reached_by turn high && not (reached_by turn low)

pub parted_there : (boundaries : List (Boundary VersionRecord)) (low high : VersionRecord) (k : ℕ) (d : Boundary VersionRecord) →
    k < length boundaries → reached_by (point_of (get_or boundaries k d)) high ≡ true →
    reached_by (point_of (get_or boundaries k d)) low ≡ false → TurnsBetween (map point_of boundaries) low high
parted_there [] low high k d l a b = absurd (omega arith)
parted_there (x ∷ xs) low high zero d l a b =
    ap (λ t. (t && not (reached_by (point_of x) low)) || list_any (λ turn. parts turn low high) (map point_of xs)) a
    ∙ ap (λ t. not t || list_any (λ turn. parts turn low high) (map point_of xs)) b
parted_there (x ∷ xs) low high (suc k) d l a b =
    ap (λ t. parts (point_of x) low high || t) (parted_there xs low high k d (omega arith) a b)
    ∙ or_true (parts (point_of x) low high)

pub turns_between : (starts : Bool) (boundaries : List (Boundary VersionRecord)) (low high : VersionRecord) →
    TurnsBetween (map point_of boundaries) low high → TurnsBetween (turns_of starts boundaries) low high
turns_between false boundaries low high h = h
turns_between true boundaries low high h =
    ap (λ t. parts BelowAll low high || t) h ∙ or_true (parts BelowAll low high)

-- ---- a place of which the range doesn't tell

record IsUntold (bounded : Bool) (n : ℕ) (xs : List Placed) (place : ℕ) : Type 0 where
  from : n ≤ place
  untold : (k : ℕ) (d : Placed) → place ≡ n + k → is_told bounded (version_of (get_or xs k d)) ≡ false

all_mapped : (P Q : ℕ → Type 0) → ((place : ℕ) → P place → Q place) → (places : List ℕ) → AllByRecursion P places →
    AllByRecursion Q places
all_mapped P Q f [] h = tt
all_mapped P Q f (p ∷ places) h = (f p h.0, all_mapped P Q f places h.1)

deeper : (bounded : Bool) (n : ℕ) (x : Placed) (xs : List Placed) (place : ℕ) → IsUntold bounded (suc n) xs place →
    (k : ℕ) (d : Placed) → place ≡ n + k → is_told bounded (version_of (get_or (x ∷ xs) k d)) ≡ false
deeper bounded n x xs place h zero d e = let up = h.from in absurd (omega arith)
deeper bounded n x xs place h (suc k) d e = h.untold k d (omega arith)

later : (bounded : Bool) (n : ℕ) (x : Placed) (xs : List Placed) (places : List ℕ) →
    AllByRecursion (IsUntold bounded (suc n) xs) places → AllByRecursion (IsUntold bounded n (x ∷ xs)) places
later bounded n x xs places h =
    all_mapped (IsUntold bounded (suc n) xs) (IsUntold bounded n (x ∷ xs)) (λ place u. record {
      from = let up = u.from in omega arith;
      untold = deeper bounded n x xs place u;
    }) places h

here : (bounded : Bool) (n : ℕ) (x : Placed) (xs : List Placed) → is_told bounded (version_of x) ≡ false →
    (k : ℕ) (d : Placed) → n ≡ n + k → is_told bounded (version_of (get_or (x ∷ xs) k d)) ≡ false
here bounded n x xs untold zero d e = untold
here bounded n x xs untold (suc k) d e = absurd (omega arith)

more_by : (t : Bool) (P : ℕ → Type 0) (n : ℕ) (places : List ℕ) → (t ≡ false → P n) → AllByRecursion P places →
    AllByRecursion P (cond t places (n ∷ places))
more_by true P n places one h = h
more_by false P n places one h = (one refl, h)

are_untold : (bounded : Bool) (n : ℕ) (xs : List Placed) → AllByRecursion (IsUntold bounded n xs) (untold_from bounded n xs)
are_untold bounded n [] = tt
are_untold bounded n (x ∷ xs) =
    more_by (is_told bounded (version_of x)) (IsUntold bounded n (x ∷ xs)) n (untold_from bounded (suc n) xs)
    (λ untold. record { from = omega arith; untold = here bounded n x xs untold })
    (later bounded n x xs (untold_from bounded (suc n) xs) (are_untold bounded (suc n) xs))

at_place : (P : ℕ → Type 0) (places : List ℕ) (k d : ℕ) → k < length places → AllByRecursion P places → P (get_or places k d)
at_place P [] k d l h = absurd (omega arith)
at_place P (p ∷ places) zero d l h = h.0
at_place P (p ∷ places) (suc k) d l h = at_place P places k d (omega arith) h.1

pub untold_at : (bounded : Bool) (xs : List Placed) (place : ℕ) (d : Placed) → IsOneOf (untold_from bounded 0 xs) place →
    is_told bounded (version_of (get_or xs place d)) ≡ false
untold_at bounded xs place d one =
    let u = subst (IsUntold bounded 0 xs) (sym one.is)
    (at_place (IsUntold bounded 0 xs) (untold_from bounded 0 xs) one.at place one.within (are_untold bounded 0 xs)) in
    let at : place ≡ 0 + place = omega arith in
    u.untold place d at

-- ---- the two together

pub stops_late : (bounded : Bool) (set : List (Point VersionRecord)) (placed : List Placed) (at next end : ℕ) (d : Placed) →
    (end < length placed → TurnsBetween set (version_of (get_or placed end d)) (version_of (get_or placed at d))) →
    (next ≡ end) ⊎ IsOneOf (untold_from bounded 0 placed) next → next < length placed →
    MayDiffer bounded set (version_of (get_or placed next d)) (version_of (get_or placed at d))
stops_late bounded set placed at next end d far (inl e) l =
    inr (subst (λ n. TurnsBetween set (version_of (get_or placed n d)) (version_of (get_or placed at d))) (sym e)
    (far (subst (λ n. n < length placed) e l)))
stops_late bounded set placed at next end d far (inr one) l = inl (untold_at bounded placed next d one)
