-- What is left behind a piece that is read is no longer than what the piece was read from.
use Rattle.std.proofs.Common.{◌≡◌, ℕ, zero, suc, ◌<◌, ◌≤◌, ◌==◌, arith, Bool, true, false}
use Rattle.std.proofs.Common.{if◌then◌else◌, List, [], ◌∷◌, length, Ok, Err, refl, ap}
use Rattle.std.specs.Str.{skip_leading_whitespace}
use Rattle.pep508_comparison_parser.specs.SideReading.{Refused, Reading, Malformed, TooDeep}
use Rattle.pep508_error.specs.Steps.{◌>>=◌}
use Rattle.pep508_marker_parser.specs.MarkerReading.{Marker, comparison_at, Connective, And, Or, join_with}
use Rattle.pep508_marker_parser.specs.MarkerReading.{is_next, behind_run, more_at, joined_at, closed, part_of}
use Rattle.pep508_marker_parser.specs.MarkerReading.{part_at}
use Rattle.pep508_marker_parser.specs.MarkerReading.{either_at, formula_at}
use Rattle.pep508_marker_parser.specs.TreeReading.{inner_at, piece_at}
use Rattle.pep508_error.proofs.Steps.{answer, ok_same, in_steps}
use Rattle.pep508_marker_parser.proofs.Comparisons.{spaced_found, spaced_none, spaced_length, comparison_found}
use Rattle.pep508_marker_parser.proofs.Comparisons.{comparison_shrinks}
use Rattle.pep508_marker_parser.proofs.Joined.{joint_found, joint_length}

abbrev pub Keeps : (List ℕ → Reading Marker) → Type 0
Keeps read = (cs : List ℕ) (found : Marker × List ℕ) → read cs ≡ Ok found → length found.1 ≤ length cs

pub skipped_length : (cs : List ℕ) → length (skip_leading_whitespace cs) ≤ length cs
skipped_length cs =
    let a = spaced_length cs (skip_leading_whitespace cs) (spaced_found cs) in omega (arith, a)

pub run_length : (word : Connective) (cs : List ℕ) → is_next word cs ≡ true → length (behind_run cs) < length cs
run_length word cs h = joint_length word cs (behind_run cs) (joint_found word cs cs (spaced_none cs) h)

answer_length : (made found : Marker × List ℕ) → answer {F = Refused} made ≡ Ok found → length found.1 ≤ length made.1
answer_length made found h =
    let e : length made.1 ≡ length found.1 = ap (λ (p : Marker × List ℕ). length p.1) (ok_same made found h) in
    omega (arith, e)

-- ---- parts

closed_by : (marker : Marker) (c : ℕ) (cs : List ℕ) (found : Marker × List ℕ) (t : Bool)
    → (if t then Ok (marker, cs) else Err Malformed) ≡ Ok found → length found.1 ≤ length (c ∷ cs)
closed_by marker c cs found false h = absurd (cc)
closed_by marker c cs found true h = (let a = answer_length (marker, cs) found h in omega (arith, a))

closed_keeps : (marker : Marker) (cs : List ℕ) (found : Marker × List ℕ) → closed (marker, cs) ≡ Ok found
    → length found.1 ≤ length cs
closed_keeps marker [] found h = absurd (cc)
closed_keeps marker (c ∷ cs) found h = closed_by marker c cs found (c == 41) h

pub comparison_keeps : Keeps comparison_at
comparison_keeps cs found h =
    let a = comparison_shrinks cs found.0 found.1 (comparison_found cs cs found (spaced_none cs) h) in
    omega (arith, a)

module _ (inner : List ℕ → Reading Marker) (keeps : Keeps inner) where
  part_by : (c : ℕ) (cs : List ℕ) (found : Marker × List ℕ) (t : Bool)
      → (if t then inner cs >>= closed else comparison_at (c ∷ cs)) ≡ Ok found → length found.1 ≤ length (c ∷ cs)
  part_by c cs found false h = comparison_keeps (c ∷ cs) found h
  part_by c cs found true h =
      let step = in_steps (inner cs) closed found h in
      let inside : Marker × List ℕ = step.middle in
      let a = keeps cs inside step.first_is in
      let b = closed_keeps inside.0 inside.1 found step.next_is in
      omega (arith, a, b)

  part_of_keeps : Keeps (part_of inner)
  part_of_keeps [] found h = absurd (cc)
  part_of_keeps (c ∷ cs) found h = part_by c cs found (c == 40) h

  part_keeps : Keeps (part_at inner)
  part_keeps cs found h =
      let a = part_of_keeps (skip_leading_whitespace cs) found h in
      let b = skipped_length cs in
      omega (arith, a, b)

-- ---- chains

module _ (word : Connective) (read : List ℕ → Reading Marker) (keeps : Keeps read) where
  abbrev KeepsMore : ℕ → Type 0
  KeepsMore count = (whole : Marker) (r : List ℕ) (found : Marker × List ℕ)
      → more_at word read count (whole, r) ≡ Ok found → length found.1 ≤ length r

  abbrev next_of : ℕ → Marker → Marker × List ℕ → Reading Marker
  next_of count whole next = more_at word read count (join_with word whole next.0, next.1)

  more_by : (count : ℕ) → KeepsMore count → (whole : Marker) (r : List ℕ) (found : Marker × List ℕ) (t : Bool)
      → is_next word r ≡ t
      → (if t then (read (behind_run r) >>= next_of count whole) else Ok (whole, skip_leading_whitespace r)) ≡ Ok found
      → length found.1 ≤ length r
  more_by count again whole r found false e h =
      let a = answer_length (whole, skip_leading_whitespace r) found h in
      let b = skipped_length r in
      omega (arith, a, b)
  more_by count again whole r found true e h =
      let step = in_steps (read (behind_run r)) (next_of count whole) found h in
      let next : Marker × List ℕ = step.middle in
      let a = keeps (behind_run r) next step.first_is in
      let b = again (join_with word whole next.0) next.1 found step.next_is in
      let d = run_length word r e in
      omega (arith, a, b, d)

  more_keeps : (count : ℕ) → KeepsMore count
  more_keeps zero whole r found h = answer_length (whole, r) found h
  more_keeps (suc count) whole r found h =
      more_by count (more_keeps count) whole r found (is_next word r) refl h

  joined_keeps : Keeps (joined_at word read)
  joined_keeps cs found h =
      let step = in_steps (read cs) (more_at word read (length cs)) found h in
      let first : Marker × List ℕ = step.middle in
      let a = keeps cs first step.first_is in
      let b = more_keeps (length cs) first.0 first.1 found step.next_is in
      omega (arith, a, b)

either_keeps : (inner : List ℕ → Reading Marker) → Keeps inner → Keeps (either_at inner)
either_keeps inner keeps =
    joined_keeps Or (joined_at And (part_at inner)) (joined_keeps And (part_at inner) (part_keeps inner keeps))

deepest_keeps : Keeps (λ inside. Err TooDeep)
deepest_keeps cs found h = absurd (cc)

formula_keeps : (depth : ℕ) → Keeps (formula_at depth)
formula_keeps zero = either_keeps (λ inside. Err TooDeep) deepest_keeps
formula_keeps (suc depth) = either_keeps (formula_at depth) (formula_keeps depth)

inner_keeps : (depth : ℕ) → Keeps (inner_at depth)
inner_keeps zero = deepest_keeps
inner_keeps (suc depth) = formula_keeps depth

pub piece_keeps : (word : Connective) (depth : ℕ) → Keeps (piece_at word depth)
piece_keeps And depth = part_keeps (inner_at depth) (inner_keeps depth)
piece_keeps Or depth = joined_keeps And (part_at (inner_at depth)) (part_keeps (inner_at depth) (inner_keeps depth))
