-- How reading goes on, from one piece to the next.
use Rattle.std.proofs.Common.{◌≡◌, ℕ, zero, suc, ◌≤◌, ◌==◌, arith, Bool, true, false, if◌then◌else◌}
use Rattle.std.proofs.Common.{List, [], ◌∷◌, length, Ok, Err, Some, None, refl, ap, sym, subst, ◌∙◌}
use Rattle.std.specs.Prelude.{Result}
use Rattle.std.specs.Str.{skip_leading_whitespace}
use Rattle.pep508_error.specs.declared.cursor.Cursor.{Cursor}
use Rattle.pep508_error.specs.Cursors.{IsBehind}
use Rattle.pep508_error.specs.declared.refusal.RefusalKind.{RefusalKind}
use Rattle.pep508_error.specs.declared.refusal.RefusalKind.TheVariants.{Memory}
use Rattle.pep508_comparison_parser.specs.SideReading.{Refused, Malformed, TooDeep, Reading, compared_at}
use Rattle.pep508_error.specs.Steps.{◌>>=◌}
use Rattle.pep508_error.specs.Cuts.{begins_by}
use Rattle.pep508_comparison_parser.specs.Outcome.{Fits, Tells}
use Rattle.pep508_marker_parser.specs.MarkerReading.{Marker, Connective, And, Or, join_with, is_next}
use Rattle.pep508_marker_parser.specs.MarkerReading.{behind_run}
use Rattle.pep508_marker_parser.specs.MarkerReading.{more_at, joined_at, comparison_at, closed, part_of}
use Rattle.pep508_marker_parser.specs.MarkerReading.{formula_at}
use Rattle.pep508_marker_parser.specs.TreeReading.{inner_at, piece_at, chain_at}
use Rattle.pep508_marker_parser.specs.Levels.{Begun, join_on, further_at, formula_on, waiting_on, all_on}
use Rattle.pep508_marker_parser.proofs.Kept.{Keeps, run_length, piece_keeps}

-- ---- refusals

pub memory_tells : {Y : Type 0} (kind : RefusalKind) (reading : Result Y Refused) → kind ≡ Memory
    → Tells kind reading
memory_tells kind (Ok y) h = h
memory_tells kind (Err refused) h = subst (λ k. Fits k refused) (sym h) tt

pub tells_on : {X Y : Type 0} (kind : RefusalKind) (first : Result X Refused) (next : X → Result Y Refused)
    → Tells kind first → Tells kind (first >>= next)
tells_on kind (Ok x) next h = memory_tells kind (next x) h
tells_on kind (Err refused) next h = h

-- ---- one reading after another

same_steps : {X Y : Type 0} (r : Result X Refused) (f g : X → Result Y Refused)
    → ((x : X) → r ≡ Ok x → f x ≡ g x) → (r >>= f) ≡ (r >>= g)
same_steps (Ok x) f g h = h x refl
same_steps (Err refused) f g h = refl

in_turn : {X Y Z : Type 0} (r : Result X Refused) (f : X → Result Y Refused) (g : Y → Result Z Refused)
    → ((r >>= f) >>= g) ≡ (r >>= λ x. f x >>= g)
in_turn (Ok x) f g = refl
in_turn (Err refused) f g = refl

in_three : {X Y Z W : Type 0} (r : Result X Refused) (f : X → Result Y Refused) (g : Y → Result Z Refused)
    (h : Z → Result W Refused) → (((r >>= f) >>= g) >>= h) ≡ (r >>= λ x. f x >>= λ y. g y >>= h)
in_three (Ok x) f g h = in_turn (f x) g h
in_three (Err refused) f g h = refl

behind_first : {X Y Z W : Type 0} (r : Result X Refused) (f : X → Result Y Refused) (g : Y → Result Z Refused)
    (h : Z → Result W Refused) → (((r >>= f) >>= g) >>= h) ≡ (r >>= λ x. (f x >>= g) >>= h)
behind_first (Ok x) f g h = refl
behind_first (Err refused) f g h = refl

to_the_end : {X : Type 0} (r : Result X Refused) → (r >>= λ x. Ok x) ≡ r
to_the_end (Ok x) = refl
to_the_end (Err refused) = refl

-- ---- chains

none_next : (word : Connective) → is_next word [] ≡ false
none_next And = refl
none_next Or = refl

nothing_left : (rest : List ℕ) → length rest ≤ 0 → rest ≡ []
nothing_left [] h = refl
nothing_left (c ∷ cs) h = absurd (omega (arith, h))

module _ (word : Connective) (read : List ℕ → Reading Marker) (keeps : Keeps read) where
  abbrev next_of : ℕ → Marker → Marker × List ℕ → Reading Marker
  next_of count whole next = more_at word read count (join_with word whole next.0, next.1)

  abbrev more_if : ℕ → Marker → List ℕ → Bool → Reading Marker
  more_if count whole r t =
      if t then (read (behind_run r) >>= next_of count whole) else Ok (whole, skip_leading_whitespace r)

  ends_by : (count : ℕ) (whole : Marker) (r : List ℕ) → length r ≤ count → is_next word r ≡ false
      → more_at word read count (whole, r) ≡ Ok (whole, skip_leading_whitespace r)
  ends_by zero whole r h e =
      let none = nothing_left r h in
      ap (λ cs. Ok (whole, cs)) (none ∙ ap skip_leading_whitespace (sym none))
  ends_by (suc less) whole r h e = ap (more_if less whole r) e

  -- as many pieces as are left are enough
  abbrev AreSame : ℕ → ℕ → Type 0
  AreSame a b = (whole : Marker) (r : List ℕ) → length r ≤ a → length r ≤ b
      → more_at word read a (whole, r) ≡ more_at word read b (whole, r)

  same_by : (a b : ℕ) → AreSame a b → (whole : Marker) (r : List ℕ) → length r ≤ suc a → length r ≤ suc b
      → (t : Bool) → is_next word r ≡ t → more_if a whole r t ≡ more_if b whole r t
  same_by a b again whole r h k false e = refl
  same_by a b again whole r h k true e =
      same_steps (read (behind_run r)) (next_of a whole) (next_of b whole)
      (λ next is.
      let p = keeps (behind_run r) next is in
      let q = run_length word r e in
      again (join_with word whole next.0) next.1 (omega (arith, p, q, h)) (omega (arith, p, q, k)))

  same_none : (a b : ℕ) (whole : Marker) (r : List ℕ) → length r ≤ a → length r ≤ b → length r ≤ 0
      → more_at word read a (whole, r) ≡ more_at word read b (whole, r)
  same_none a b whole r h k z =
      let none : is_next word r ≡ false = ap (is_next word) (nothing_left r z) ∙ none_next word in
      ends_by a whole r h none ∙ sym (ends_by b whole r k none)

  same_counts : (a b : ℕ) → AreSame a b
  same_counts zero b whole r h k = same_none zero b whole r h k h
  same_counts (suc a) zero whole r h k = same_none (suc a) zero whole r h k k
  same_counts (suc a) (suc b) whole r h k = same_by a b (same_counts a b) whole r h k (is_next word r) refl

  abbrev further : Marker × List ℕ → Reading Marker
  further found = more_at word read (length found.1) found

  pub joined_begins : (cs : List ℕ) → joined_at word read cs ≡ (read cs >>= further)
  joined_begins cs =
      same_steps (read cs) (more_at word read (length cs)) further
      (λ found is. same_counts (length cs) (length found.1) found.0 found.1 (keeps cs found is) (omega arith))

  further_by : (count : ℕ) (whole : Marker) (r : List ℕ) → length r ≡ count → is_next word r ≡ true
      → more_at word read count (whole, r) ≡ (read (behind_run r) >>= λ next. further (join_with word whole next.0, next.1))
  further_by zero whole r h e =
      let none : is_next word r ≡ false = ap (is_next word) (nothing_left r (omega (arith, h))) ∙ none_next word in
      absurd (cc)
  further_by (suc less) whole r h e =
      ap (more_if less whole r) e
      ∙ same_steps (read (behind_run r)) (next_of less whole) (λ next. further (join_with word whole next.0, next.1))
      (λ next is.
      let p = keeps (behind_run r) next is in
      let q = run_length word r e in
      same_counts less (length next.1) (join_with word whole next.0) next.1 (omega (arith, p, q, h)) (omega arith))

  pub further_goes_on : (whole : Marker) (r : List ℕ) → is_next word r ≡ true
      → further (whole, r) ≡ (read (behind_run r) >>= λ next. further (join_with word whole next.0, next.1))
  further_goes_on whole r e = further_by (length r) whole r refl e

  pub further_ends : (whole : Marker) (r : List ℕ) → is_next word r ≡ false
      → further (whole, r) ≡ Ok (whole, skip_leading_whitespace r)
  further_ends whole r e = ends_by (length r) whole r (omega arith) e

-- ---- formulas

-- nothing is said yet
abbrev pub nothing : Begun
nothing = record { either = None; both = None }

chain_begins : (depth : ℕ) (cs : List ℕ) → piece_at Or depth cs ≡ (piece_at And depth cs >>= further_at And depth)
chain_begins depth cs = joined_begins And (piece_at And depth) (piece_keeps And depth) cs

formula_begins : (depth : ℕ) (cs : List ℕ) → chain_at Or depth cs ≡ (piece_at And depth cs >>= formula_on depth nothing)
formula_begins depth cs =
    joined_begins Or (piece_at Or depth) (piece_keeps Or depth) cs
    ∙ ap (λ r. r >>= further_at Or depth) (chain_begins depth cs)
    ∙ in_turn (piece_at And depth cs) (further_at And depth) (further_at Or depth)

-- a formula that stands in no other
pub all_begins : (depth : ℕ) (cs : List ℕ)
    → (piece_at And depth cs >>= all_on (record { depth = depth; begun = nothing; waiting = [] })) ≡ chain_at Or depth cs
all_begins depth cs =
    sym (in_turn (piece_at And depth cs) (formula_on depth nothing) (λ x. Ok x))
    ∙ to_the_end (piece_at And depth cs >>= formula_on depth nothing) ∙ sym (formula_begins depth cs)

pub formula_is : (depth : ℕ) (cs : List ℕ) → formula_at depth cs ≡ chain_at Or depth cs
formula_is zero cs = refl
formula_is (suc depth) cs = refl

-- ---- pieces

no_comparison : comparison_at [] ≡ Err Malformed
unfolding comparison_at compared_at
no_comparison = refl

pub part_other : (inner : List ℕ → Reading Marker) (cs : List ℕ) → begins_by (λ c. c == 40) cs ≡ false
    → comparison_at cs ≡ part_of inner cs
part_other inner [] h = no_comparison
part_other inner (c ∷ cs) h = sym (ap (λ t. if t then inner cs >>= closed else comparison_at (c ∷ cs)) h)

-- a bracket opens: what was begun waits
pub opened : (depth : ℕ) (begun : Begun) (waiting : List Begun) (cs inside : List ℕ)
    → skip_leading_whitespace cs ≡ 40 ∷ inside
    → (piece_at And (suc depth) cs >>= all_on (record { depth = suc depth; begun = begun; waiting = waiting }))
    ≡ (piece_at And depth inside >>= all_on (record { depth = depth; begun = nothing; waiting = begun ∷ waiting }))
opened depth begun waiting cs inside h =
    let on = all_on (record { depth = suc depth; begun = begun; waiting = waiting }) in
    ap (λ ds. part_of (inner_at (suc depth)) ds >>= on) h
    ∙ ap (λ r. (r >>= closed) >>= on) (formula_is depth inside ∙ formula_begins depth inside)
    ∙ in_three (piece_at And depth inside) (formula_on depth nothing) closed on

pub too_deep : (cs inside : List ℕ) (on : Marker × List ℕ → Reading Marker) → skip_leading_whitespace cs ≡ 40 ∷ inside
    → (piece_at And 0 cs >>= on) ≡ Err TooDeep
too_deep cs inside on h = ap (λ ds. part_of (inner_at 0) ds >>= on) h

-- ---- words

abbrev pub both_said : Begun → Marker → Marker
both_said begun piece = join_on And begun.both piece

abbrev pub either_said : Begun → Marker → Marker
either_said begun piece = join_on Or begun.either (both_said begun piece)

-- one more piece of the chain of `and`
pub goes_both : (depth : ℕ) (begun : Begun) (waiting : List Begun) (piece : Marker) (rest : List ℕ)
    → is_next And rest ≡ true
    → all_on (record { depth = depth; begun = begun; waiting = waiting }) (piece, rest)
    ≡ (piece_at And depth (behind_run rest) >>= all_on (record {
      depth = depth;
      begun = record { either = begun.either; both = Some (both_said begun piece) };
      waiting = waiting;
    }))
goes_both depth begun waiting piece rest e =
    let whole = both_said begun piece in
    let chained : Marker × List ℕ → Reading Marker =
    λ chain. further_at Or depth (join_on Or begun.either chain.0, chain.1) in
    ap (λ r. (r >>= chained) >>= waiting_on depth waiting)
    (further_goes_on And (piece_at And depth) (piece_keeps And depth) whole rest e)
    ∙ behind_first (piece_at And depth (behind_run rest))
    (λ next. further_at And depth (join_with And whole next.0, next.1)) chained (waiting_on depth waiting)

-- the chain of `and` is over
pub chain_over : (depth : ℕ) (begun : Begun) (waiting : List Begun) (piece : Marker) (rest : List ℕ)
    → is_next And rest ≡ false
    → all_on (record { depth = depth; begun = begun; waiting = waiting }) (piece, rest)
    ≡ (further_at Or depth (either_said begun piece, skip_leading_whitespace rest) >>= waiting_on depth waiting)
chain_over depth begun waiting piece rest e =
    ap (λ (r : Reading Marker).
    (r >>= λ chain. further_at Or depth (join_on Or begun.either chain.0, chain.1)) >>= waiting_on depth waiting)
    (further_ends And (piece_at And depth) (piece_keeps And depth) (both_said begun piece) rest e)

-- one more chain of `and`
pub goes_either : (depth : ℕ) (waiting : List Begun) (whole : Marker) (rest : List ℕ) → is_next Or rest ≡ true
    → (further_at Or depth (whole, rest) >>= waiting_on depth waiting)
    ≡ (piece_at And depth (behind_run rest) >>= all_on (record {
      depth = depth;
      begun = record { either = Some whole; both = None };
      waiting = waiting;
    }))
goes_either depth waiting whole rest e =
    let chained : Marker × List ℕ → Reading Marker =
    λ next. further_at Or depth (join_with Or whole next.0, next.1) in
    ap (λ r. r >>= waiting_on depth waiting)
    (further_goes_on Or (piece_at Or depth) (piece_keeps Or depth) whole rest e
    ∙ ap (λ r. r >>= chained) (chain_begins depth (behind_run rest)))
    ∙ behind_first (piece_at And depth (behind_run rest)) (further_at And depth) chained (waiting_on depth waiting)

-- the formula is over
pub formula_over : (depth : ℕ) (waiting : List Begun) (whole : Marker) (rest : List ℕ) → is_next Or rest ≡ false
    → (further_at Or depth (whole, rest) >>= waiting_on depth waiting)
    ≡ waiting_on depth waiting (whole, skip_leading_whitespace rest)
formula_over depth waiting whole rest e =
    ap (λ r. r >>= waiting_on depth waiting) (further_ends Or (piece_at Or depth) (piece_keeps Or depth) whole rest e)

-- its bracket closes
pub closes : (depth : ℕ) (begun : Begun) (waiting : List Begun) (whole : Marker) (rest later : List ℕ)
    → closed (whole, rest) ≡ Ok (whole, later)
    → waiting_on depth (begun ∷ waiting) (whole, rest)
    ≡ all_on (record { depth = suc depth; begun = begun; waiting = waiting }) (whole, later)
closes depth begun waiting whole rest later e =
    ap (λ r. r >>= all_on (record { depth = suc depth; begun = begun; waiting = waiting })) e

-- ---- places

pub behind_on : (a b c : Cursor) → IsBehind a b → IsBehind b c → IsBehind a c
behind_on a b c h k = record { input = k.input ∙ h.input; ordered = omega (arith, h.ordered, k.ordered) }
