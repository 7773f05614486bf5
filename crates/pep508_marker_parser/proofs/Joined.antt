-- Pieces with a word between each two are read as the grammar has them.
use Rattle.std.proofs.Common.{◌≡◌, ℕ, zero, suc, ◌+◌, ◌<◌, arith, lit<, Bool, true, false}
use Rattle.std.proofs.Common.{if◌then◌else◌, List, [], ◌∷◌, ◌++◌, length, Ok, refl, ap, sym, subst, ◌∙◌}
use Rattle.std.specs.Prelude.{encode_utf8_all}
use Rattle.std.proofs.lemmas.Slice.Eq.{bytes_eq-Decides}
use Rattle.std.proofs.lemmas.Str.{encodes_same}
use Rattle.std.specs.Char.{is_whitespace}
use Rattle.std.specs.Str.{bytes_eq, skip_leading_whitespace}
use Rattle.pep508_comparison_parser.specs.SideReading.{Refused, Reading}
use Rattle.pep508_error.specs.Steps.{◌>>=◌}
use Rattle.pep508_marker_parser.specs.MarkerReading.{Marker, Connective, And, Or, word_of, join_with, run_at}
use Rattle.pep508_marker_parser.specs.MarkerReading.{is_next, behind_run, more_at, joined_at}
use Rattle.pep508_marker_parser.specs.MarkerText.{IsSpaced, IsJoint, AreJoined, join_all, IsJoined}
use Rattle.pep508_error.proofs.Spaces.{Unspaced}
use Rattle.pep508_error.proofs.Cuts.{NonePasses, cut_again, cut_found, cut_is}
use Rattle.pep508_marker_parser.proofs.Ends.{ends_before, before_ends}
use Rattle.pep508_error.proofs.Steps.{answer, ok_same, in_steps}
use Rattle.pep508_marker_parser.proofs.Operators.{ascii_same}
use Rattle.pep508_marker_parser.proofs.Comparisons.{spaced_found, spaced_again, spaced_on, spaced_length}

-- ---- words

pub own_word : (word : Connective) → encode_utf8_all (word_of word) ≡ word_of word
own_word And = ascii_same (word_of And) (lit< tt, (lit< tt, (lit< tt, tt)))
own_word Or = ascii_same (word_of Or) (lit< tt, (lit< tt, tt))

pub word_unspaced : (word : Connective) → NonePasses is_whitespace (word_of word)
word_unspaced And = (refl, (refl, (refl, tt)))
word_unspaced Or = (refl, (refl, tt))

word_first : (word : Connective) (rest : List ℕ) → Unspaced (word_of word ++ rest)
word_first And rest = refl
word_first Or rest = refl

word_length : (word : Connective) (rest : List ℕ) → length rest < length (word_of word ++ rest)
word_length And rest = omega arith
word_length Or rest = omega arith

-- whether the word is the run of characters here, where no white space stands
abbrev pub next_in : Connective → List ℕ → Bool
next_in word cs = bytes_eq (encode_utf8_all (run_at cs).0) (word_of word)

next_here : (word other : Connective) (behind : List ℕ) (cs : List ℕ) → IsJoint word cs behind
    → skip_leading_whitespace cs ≡ word_of word ++ behind
next_here word other behind cs h = spaced_again cs (word_of word ++ behind) h.spaced (word_first word behind)

run_here : (word : Connective) (behind : List ℕ) (cs : List ℕ) → IsJoint word cs behind
    → run_at (skip_leading_whitespace cs) ≡ (word_of word, behind)
run_here word behind cs h =
    ap run_at (next_here word word behind cs h)
    ∙ cut_again is_whitespace (word_of word) behind (word_unspaced word) (before_ends is_whitespace behind h.ends)

pub same_word : (word : Connective) → bytes_eq (word_of word) (word_of word) ≡ true
same_word And = refl
same_word Or = refl

next_words : (word other : Connective) (behind cs : List ℕ) → IsJoint word cs behind
    → is_next other cs ≡ bytes_eq (word_of word) (word_of other)
next_words word other behind cs h =
    ap (λ (p : List ℕ × List ℕ). bytes_eq (encode_utf8_all p.0) (word_of other)) (run_here word behind cs h)
    ∙ ap (λ bs. bytes_eq bs (word_of other)) (own_word word)

-- before the one word stands not the other
pub before_or : (cs behind : List ℕ) → IsJoint Or cs behind → is_next And cs ≡ false
before_or cs behind h = next_words Or And behind cs h

pub joint_found : (word : Connective) (middle r : List ℕ) → IsSpaced middle r → is_next word r ≡ true
    → IsJoint word middle (behind_run r)
joint_found word middle r s h =
    let k = cut_found is_whitespace (skip_leading_whitespace r) in
    let cut = cut_is is_whitespace (skip_leading_whitespace r) k in
    let here : bytes_eq (encode_utf8_all k.front) (word_of word) ≡ true =
    ap (λ (p : List ℕ × List ℕ). bytes_eq (encode_utf8_all p.0) (word_of word)) (sym cut) ∙ h in
    let is_word : k.front ≡ word_of word =
    encodes_same k.front (word_of word) ((bytes_eq-Decides (encode_utf8_all k.front) (word_of word)).0 here ∙ sym (own_word word)) in
    let split : skip_leading_whitespace r ≡ word_of word ++ k.rest = k.split ∙ ap (λ ds. ds ++ k.rest) is_word in
    let behind : k.rest ≡ behind_run r = ap (λ (p : List ℕ × List ℕ). p.1) (sym cut) in
    subst (IsJoint word middle) behind (record {
      spaced = subst (IsSpaced middle) split (spaced_on middle r (skip_leading_whitespace r) s (spaced_found r));
      ends = ends_before is_whitespace k.rest k.ends;
    })

pub joint_length : (word : Connective) (middle behind : List ℕ) → IsJoint word middle behind → length behind < length middle
joint_length word middle behind h =
    let a = spaced_length middle (word_of word ++ behind) h.spaced in
    let b = word_length word behind in
    omega (arith, a, b)

-- ---- chains

-- a piece, and white space before what is left
pub record Found (piece : List ℕ → Marker → List ℕ → Type 0) (cs : List ℕ) (found : Marker × List ℕ) : Type 0 where
  pub rest : List ℕ
  pub is_piece : piece cs found.0 rest
  pub spaced : IsSpaced rest found.1

-- what is left behind a piece that is read, but for white space at its front
pub record ReadSo (read : List ℕ → Reading Marker) (cs : List ℕ) (marker : Marker) (rest : List ℕ) : Type 0 where
  pub left : List ℕ
  pub is_read : read cs ≡ Ok (marker, left)
  pub same : skip_leading_whitespace left ≡ skip_leading_whitespace rest

module _ (word : Connective) (read : List ℕ → Reading Marker) (piece : List ℕ → Marker → List ℕ → Type 0) where
  -- further pieces, each behind the word
  abbrev More : List Marker → List ℕ → List ℕ → Type 0
  More [] middle rest = middle ≡ rest
  More (marker ∷ markers) middle rest =
      (behind next : List ℕ) × IsJoint word middle behind × piece behind marker next × More markers next rest

  to_joined : (markers : List Marker) (marker : Marker) (cs middle rest : List ℕ) → piece cs marker middle
      → More markers middle rest → AreJoined word piece cs (marker ∷ markers) rest
  to_joined [] marker cs middle rest p h = subst (piece cs marker) h p
  to_joined (next ∷ markers) marker cs middle rest p h =
      (middle, h.0, p, h.2, to_joined markers next h.0 h.1 rest h.3 h.4)

  abbrev Unjoined : Marker → List Marker → List ℕ → List ℕ → Type 0
  Unjoined marker markers cs rest = (middle : List ℕ) × piece cs marker middle × More markers middle rest

  from_joined : (markers : List Marker) (marker : Marker) (cs rest : List ℕ)
      → AreJoined word piece cs (marker ∷ markers) rest → Unjoined marker markers cs rest
  from_joined [] marker cs rest h = (rest, h, refl)
  from_joined (next ∷ markers) marker cs rest h =
      let t = from_joined markers next h.1 rest h.4 in (h.0, h.2, (h.1, t.0, h.3, t.1, t.2))

  -- ---- what is found

  record MoreFound (whole : Marker) (middle : List ℕ) (found : Marker × List ℕ) : Type 0 where
    others : List Marker
    rest : List ℕ
    more : More others middle rest
    joined : found.0 ≡ join_all word whole others
    spaced : IsSpaced rest found.1

  no_more : (whole : Marker) (middle r : List ℕ) (found : Marker × List ℕ) → IsSpaced middle r
      → answer {F = Refused} (whole, r) ≡ Ok found → MoreFound whole middle found
  no_more whole middle r found s h =
      let made : Marker × List ℕ = (whole, r) in
      let same : made ≡ found = ok_same made found h in
      subst (λ (p : Marker × List ℕ). MoreFound whole middle p) {x = made} same
      (record { others = []; rest = middle; more = refl; joined = refl; spaced = s })

  abbrev next_of : ℕ → Marker → Marker × List ℕ → Reading Marker
  next_of count whole next = more_at word read count (join_with word whole next.0, next.1)

  abbrev more_if : ℕ → Marker → List ℕ → Bool → Reading Marker
  more_if count whole r t =
      if t then (read (behind_run r) >>= next_of count whole) else Ok (whole, skip_leading_whitespace r)

  abbrev Finds : Type 0
  Finds = (cs : List ℕ) (found : Marker × List ℕ) → read cs ≡ Ok found → Found piece cs found

  abbrev FindsMore : ℕ → Type 0
  FindsMore count = (whole : Marker) (middle r : List ℕ) (found : Marker × List ℕ) → IsSpaced middle r
      → more_at word read count (whole, r) ≡ Ok found → MoreFound whole middle found

  more_by : Finds → (count : ℕ) → FindsMore count → (whole : Marker) (middle r : List ℕ) (found : Marker × List ℕ)
      → IsSpaced middle r → (t : Bool) → is_next word r ≡ t → more_if count whole r t ≡ Ok found
      → MoreFound whole middle found
  more_by finds count again whole middle r found s false e h =
      no_more whole middle (skip_leading_whitespace r) found
      (spaced_on middle r (skip_leading_whitespace r) s (spaced_found r)) h
  more_by finds count again whole middle r found s true e h =
      let step = in_steps (read (behind_run r)) (next_of count whole) found h in
      let next : Marker × List ℕ = step.middle in
      let f = finds (behind_run r) next step.first_is in
      let g = again (join_with word whole next.0) f.rest next.1 found f.spaced step.next_is in
      record {
        others = next.0 ∷ g.others;
        rest = g.rest;
        more = (behind_run r, f.rest, joint_found word middle r s e, f.is_piece, g.more);
        joined = g.joined;
        spaced = g.spaced;
      }

  more_found : Finds → (count : ℕ) → FindsMore count
  more_found finds zero whole middle r found s h = no_more whole middle r found s h
  more_found finds (suc count) whole middle r found s h =
      more_by finds count (more_found finds count) whole middle r found s (is_next word r) refl h

  pub joined_found : Finds → (cs : List ℕ) (found : Marker × List ℕ) → joined_at word read cs ≡ Ok found
      → Found (IsJoined word piece) cs found
  joined_found finds cs found h =
      let step = in_steps (read cs) (more_at word read (length cs)) found h in
      let first : Marker × List ℕ = step.middle in
      let f = finds cs first step.first_is in
      let g = more_found finds (length cs) first.0 f.rest first.1 found f.spaced step.next_is in
      record {
        rest = g.rest;
        is_piece = record {
          first = first.0;
          others = g.others;
          are_joined = to_joined g.others first.0 cs f.rest g.rest f.is_piece g.more;
          joined = g.joined;
        };
        spaced = g.spaced;
      }

  -- ---- that pieces take characters

  abbrev Shrinks : Type 0
  Shrinks = (cs : List ℕ) (marker : Marker) (rest : List ℕ) → piece cs marker rest → length rest < length cs

  more_length : Shrinks → (markers : List Marker) (middle rest : List ℕ) → More markers middle rest
      → length rest + length markers < length middle + 1
  more_length shrinks [] middle rest h = (let e : length middle ≡ length rest = ap length h in omega (arith, e))
  more_length shrinks (marker ∷ markers) middle rest h =
      let a = joint_length word middle h.0 h.2 in
      let b = shrinks h.0 marker h.1 h.3 in
      let c = more_length shrinks markers h.1 rest h.4 in
      omega (arith, a, b, c)

  pub joined_shrinks : Shrinks → (cs : List ℕ) (marker : Marker) (rest : List ℕ) → IsJoined word piece cs marker rest
      → length rest < length cs
  joined_shrinks shrinks cs marker rest h =
      let f = from_joined h.others h.first cs rest h.are_joined in
      let a = shrinks cs h.first f.0 f.1 in
      let b = more_length shrinks h.others f.0 rest f.2 in
      omega (arith, a, b)

  -- ---- what is written is read

  module _ (follows : List ℕ → Type 0) where
    abbrev Reads : Type 0
    Reads = (cs : List ℕ) (marker : Marker) (rest : List ℕ) → piece cs marker rest → follows rest
        → ReadSo read cs marker rest

    abbrev Precedes : Type 0
    Precedes = (middle behind : List ℕ) → IsJoint word middle behind → follows middle

    follows_more : Precedes → (markers : List Marker) (middle rest : List ℕ) → More markers middle rest → follows rest
        → follows middle
    follows_more precedes [] middle rest h last = subst follows (sym h) last
    follows_more precedes (marker ∷ markers) middle rest h last = precedes middle h.0 h.2

    stops : (count : ℕ) (whole : Marker) (r rest : List ℕ) → skip_leading_whitespace r ≡ skip_leading_whitespace rest
        → is_next word rest ≡ false
        → more_at word read (suc count) (whole, r) ≡ Ok (whole, skip_leading_whitespace rest)
    stops count whole r rest same stop =
        ap (more_if count whole r) (ap (next_in word) same ∙ stop) ∙ ap (λ ds. Ok (whole, ds)) same

    abbrev MoreAgain : List Marker → Type 0
    MoreAgain markers = (count : ℕ) (whole : Marker) (r middle rest : List ℕ) → length markers < count
        → skip_leading_whitespace r ≡ skip_leading_whitespace middle → More markers middle rest
        → is_next word rest ≡ false → follows rest
        → more_at word read count (whole, r) ≡ Ok (join_all word whole markers, skip_leading_whitespace rest)

    more_again : Reads → Precedes → (markers : List Marker) → MoreAgain markers
    more_again reads precedes [] zero whole r middle rest long same h stop last = absurd (omega (arith, long))
    more_again reads precedes [] (suc count) whole r middle rest long same h stop last =
        stops count whole r rest (same ∙ ap skip_leading_whitespace h) stop
    more_again reads precedes (marker ∷ markers) zero whole r middle rest long same h stop last =
        absurd (omega (arith, long))
    more_again reads precedes (marker ∷ markers) (suc count) whole r middle rest long same h stop last =
        let is : is_next word r ≡ true = ap (next_in word) same ∙ next_words word word h.0 middle h.2 ∙ same_word word in
        let behind : behind_run r ≡ h.0 =
        ap (λ ds. (run_at ds).1) same ∙ ap (λ (p : List ℕ × List ℕ). p.1) (run_here word h.0 middle h.2) in
        let q = reads h.0 marker h.1 h.3 (follows_more precedes markers h.1 rest h.4 last) in
        ap (more_if count whole r) is
        ∙ ap (λ ds. read ds >>= next_of count whole) behind
        ∙ ap (λ read_so. read_so >>= next_of count whole) q.is_read
        ∙ more_again reads precedes markers count (join_with word whole marker) q.left h.1 rest (omega (arith, long)) q.same h.4
        stop last

    pub joined_again : Shrinks → Reads → Precedes → (cs : List ℕ) (marker : Marker) (rest : List ℕ)
        → IsJoined word piece cs marker rest → is_next word rest ≡ false → follows rest
        → joined_at word read cs ≡ Ok (marker, skip_leading_whitespace rest)
    joined_again shrinks reads precedes cs marker rest h stop last =
        let f = from_joined h.others h.first cs rest h.are_joined in
        let q = reads cs h.first f.0 f.1 (follows_more precedes h.others f.0 rest f.2 last) in
        let a = shrinks cs h.first f.0 f.1 in
        let b = more_length shrinks h.others f.0 rest f.2 in
        ap (λ read_so. read_so >>= more_at word read (length cs)) q.is_read
        ∙ more_again reads precedes h.others (length cs) h.first q.left f.0 rest (omega (arith, a, b)) q.same f.2 stop last
        ∙ ap (λ m. Ok (m, skip_leading_whitespace rest)) (sym h.joined)
