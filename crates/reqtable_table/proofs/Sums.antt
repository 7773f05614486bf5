-- The cases of some packages are no more than those of all.
use Rattle.std.proofs.Common.{◌≡◌, ℕ, ◌≤◌, ◌+◌, ◌⊎◌, List, [], ◌∷◌, ◌++◌, map, length, sym, subst, inl, inr, arith, Less}
use Rattle.std.specs.List.{AllZip}
use Rattle.std.specs.List.Sorted.{IsStrictlySortedBy}
use Rattle.reqtable_table.specs.InAll.{cases_in_all}
use Rattle.reqtable_table.proofs.Rising.{name_cmp, AllBehind, behind_on, not_below_itself}

-- ---- names with numbers of cases

abbrev pub Counted : Type 0
Counted = List (List ℕ × ℕ)

abbrev pub names_counted : Counted → List (List ℕ)
names_counted counted = map (λ c. c.0) counted

abbrev pub total : Counted → ℕ
total [] = 0
total (c ∷ counted) = c.1 + total counted

-- a name is among them, with at least so many cases
abbrev pub IsAmong : List ℕ → ℕ → Counted → Type 0
IsAmong q n [] = ⊥
IsAmong q n (c ∷ counted) = ((q ≡ c.0) × (n ≤ c.1)) ⊎ IsAmong q n counted

behind_among : (x q : List ℕ) (n : ℕ) (counted : Counted) → AllBehind x (names_counted counted) → IsAmong q n counted →
    name_cmp x q ≡ Less
behind_among x q n [] behind is = absurd is
behind_among x q n (c ∷ counted) behind is = elim is [
  | inl e ↦ subst (λ m. name_cmp x m ≡ Less) (sym e.0) behind.0
  | inr later ↦ behind_among x q n counted behind.1 later
]

module _ {A : Type 0} where
  abbrev pub AllAmong : Counted → List (List ℕ) → List (List A) → Type 0
  AllAmong counted = AllZip (λ q sets. IsAmong q (length sets) counted)

  all_later : (c : List ℕ × ℕ) (counted : Counted) (names : List (List ℕ)) (sets : List (List A)) → AllBehind c.0 names →
      AllAmong (c ∷ counted) names sets → AllAmong counted names sets
  all_later c counted [] [] behind all = tt
  all_later c counted [] (s ∷ sets) behind all = absurd all
  all_later c counted (q ∷ names) [] behind all = absurd all
  all_later c counted (q ∷ names) (s ∷ sets) behind all = (
    elim (all.0) [
      | inl e ↦ absurd (not_below_itself q (subst (λ m. name_cmp m q ≡ Less) (sym e.0) behind.0))
      | inr later ↦ later
    ],
    all_later c counted names sets behind.1 all.1,
  )

  -- names that rise and are among others have no more cases than these
  pub within_all : (counted : Counted) (names : List (List ℕ)) (sets : List (List A)) →
      IsStrictlySortedBy name_cmp (names_counted counted) → IsStrictlySortedBy name_cmp names → AllAmong counted names sets →
      cases_in_all sets ≤ total counted
  unfolding IsStrictlySortedBy
  within_all counted [] [] r t all = omega arith
  within_all counted [] (s ∷ sets) r t all = absurd all
  within_all counted (q ∷ names) [] r t all = absurd all
  within_all [] (q ∷ names) (s ∷ sets) r t all = absurd all.0
  within_all (c ∷ counted) (q ∷ names) (s ∷ sets) r t all = elim (all.0) [
    | inl e ↦
        let first : length s ≤ c.1 = e.1 in
        let rest : cases_in_all sets ≤ total counted =
        within_all counted names sets r.1 t.1 (all_later c counted names sets (subst (λ m. AllBehind m names) e.0 t.0) all.1) in
        omega (arith, first, rest)
    | inr later ↦
        let below = behind_among c.0 q (length s) counted r.0 later in
        let rest : cases_in_all (s ∷ sets) ≤ total counted =
        within_all counted (q ∷ names) (s ∷ sets) r.1 t
        (later, all_later c counted names sets (behind_on c.0 q names below t.0) all.1) in
        omega (arith, rest)
  ]

-- ---- one more

pub among_front : (q : List ℕ) (n : ℕ) (counted more : Counted) → IsAmong q n counted → IsAmong q n (counted ++ more)
among_front q n [] more is = absurd is
among_front q n (c ∷ counted) more is = elim is [
  | inl e ↦ inl e
  | inr later ↦ inr (among_front q n counted more later)
]

pub among_last : (q name : List ℕ) (n most : ℕ) (counted : Counted) → q ≡ name → n ≤ most →
    IsAmong q n (counted ++ (name, most) ∷ [])
among_last q name n most [] e few = inl (e, few)
among_last q name n most (c ∷ counted) e few = inr (among_last q name n most counted e few)

pub sum_pushed : {A : Type 0} (sets : List (List A)) (one : List A) →
    cases_in_all (sets ++ one ∷ []) ≡ cases_in_all sets + length one
sum_pushed [] one = omega arith
sum_pushed (s ∷ sets) one = let rest = sum_pushed sets one in omega (arith, rest)
