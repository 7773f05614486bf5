-- From package to package.
use Rattle.std.proofs.Common.{◌≡◌, ◌≢◌, ◌∙◌, ◌≤◌, ◌<◌, ◌+◌, ◌||◌, ℕ, zero, suc, Bool, true, false, List, [], ◌∷◌, ◌++◌}
use Rattle.std.proofs.Common.{length, get_or, take, Option, Some, None, refl, sym, ap, subst, inl, inr, arith, append-nil}
use Rattle.std.proofs.Common.{append_assoc, true≢false, if◌then◌else◌}
use Rattle.std.proofs.lemmas.Bool.{cases_eq}
use Rattle.std.proofs.lemmas.List.{take_more}
use Rattle.std.specs.List.{AllZip}
use Rattle.std.specs.Option.{option_map_or}
use Rattle.std.specs.Borrow.{Bor}
use Rattle.pep440_version.specs.Record.{VersionRecord}
use Rattle.pep508_diagram.specs.Question.{Valuation}
use Rattle.pep508_tree.specs.Meaning.{NodeRecord}
use Rattle.reqtable_candidates.specs.declared.candidates.Candidate.{Candidate}
use Rattle.reqtable_answer.specs.Admission.{Admits}
use Rattle.reqtable_answer.specs.Answer.{RowRecord}
use Rattle.reqtable_table.specs.Answers.{AreRowsFor, IsRowIf, LiesIn, SamePackage, own_candidates, most_tests}
use Rattle.reqtable_table.specs.Answers.{most_tests_in, most_tests_of}
use Rattle.reqtable_table.specs.Counts.{all_tests}
use Rattle.reqtable_table.specs.Kept.{KeptPackage}
use Rattle.reqtable_table.proofs.Placed.{same_back}
use Rattle.reqtable_table.proofs.Rows.{none_more, row_more, asked_same}
use Rattle.reqs_json.specs.declared.format.Format.{Format}
use Rattle.reqs_json.specs.Rows.{row_in, between, rows_in}
use Rattle.reqs_rows.specs.Texts.{IsKnown, AreKnown, Grow, PutsRow, PutsRows, HasSeparator, separation, is_later}
use Rattle.reqs_rows.proofs.Places.{at_zip, zip_long}
use Rattle.reqs_rows.proofs.Putting.{known_grown, known_same}

unheld : (place piece : ℕ) → get_or (get_or {A = List (Option ℕ)} [] 0 []) place None ≡ Some piece → ⊥
unheld place piece e = cc

module _ (format : Format) (returns : Bor VersionRecord → Bool → Bool → Type 0) (nodes : List NodeRecord)
    (candidates : List Candidate) where
  -- of nothing
  pub none_known : (texts : List (List ℕ)) (table : List KeptPackage) (known : List (List (Option ℕ))) → known ≡ []
      → AreKnown format returns nodes candidates texts table known
  none_known texts table known e = λ index other below place piece there.
      absurd (unheld place piece (sym (ap (λ l. get_or (get_or l index []) place None) e) ∙ there))

  -- pieces are added
  pub are_known_grown : (table : List KeptPackage) (old new : List (List ℕ)) → Grow old new → (known : List (List (Option ℕ)))
      → AreKnown format returns nodes candidates old table known → AreKnown format returns nodes candidates new table known
  are_known_grown table old new grow known are = λ at other below.
      known_grown format returns nodes candidates old new grow (get_or table at other) (get_or known at []) (are at other below)

  -- of one package more is known
  pub are_known_more : (table : List KeptPackage) (old new : List (List ℕ)) → Grow old new → (known more : List (List (Option ℕ))) (index : ℕ)
      → ((other : KeptPackage) → IsKnown format returns nodes candidates new (get_or table index other) (get_or more index []))
      → ((at : ℕ) → at ≢ index → get_or more at [] ≡ get_or known at [])
      → AreKnown format returns nodes candidates old table known → AreKnown format returns nodes candidates new table more
  are_known_more table old new grow known more index here others are = λ at other below.
      elim (cases_eq at index) [
        | inl same ↦
            subst (λ k. IsKnown format returns nodes candidates new (get_or table k other) (get_or more k [])) (sym same) (here other)
        | inr differs ↦
            subst (IsKnown format returns nodes candidates new (get_or table at other)) (sym (others at differs))
            (known_grown format returns nodes candidates old new grow (get_or table at other) (get_or known at []) (are at other below))
      ]

  pub are_known_same : (a b : List KeptPackage) → AllZip SamePackage a b → (texts : List (List ℕ)) (known : List (List (Option ℕ)))
      → AreKnown format returns nodes candidates texts b known → AreKnown format returns nodes candidates texts a known
  are_known_same a b same texts known are = λ at other below.
      let long = zip_long SamePackage a b same in
      known_same format returns nodes candidates (get_or b at other) (get_or a at other)
      (same_back (get_or a at other) (get_or b at other) (at_zip SamePackage a b at other other same below))
      texts (get_or known at []) (are at other (omega (arith, below, long)))

-- rows before which others stand, where some do
abbrev pub some_rows : List RowRecord → Bool
some_rows [] = false
some_rows (row ∷ rows) = true

some_more : (rows : List RowRecord) (row : RowRecord) → some_rows (rows ++ row ∷ []) ≡ true
some_more [] row = refl
some_more (first ∷ rows) row = refl

module _ (format : Format) (admits : Admits) (nodes : List NodeRecord) (v : Valuation) (candidates : List Candidate) where
  -- one more row, which is separated where others stand before it
  row_behind : (later : Bool) (rows : List RowRecord) (row : RowRecord)
      → rows_in format candidates later (rows ++ row ∷ [])
      ≡ rows_in format candidates later rows
      ++ ((if later || some_rows rows then between format else []) ++ row_in format candidates row)
  row_behind true [] row = ap (λ t. between format ++ t) (append-nil (row_in format candidates row))
  row_behind false [] row = append-nil (row_in format candidates row)
  row_behind true (first ∷ rows) row = rw (row_behind true rows row) (simp append_assoc)
  row_behind false (first ∷ rows) row = rw (row_behind true rows row) (simp append_assoc)

  -- the rows of packages were put, and whether there are any
  abbrev pub PutsUpTo : List KeptPackage → Bool → List ℕ → List ℕ → Type 0
  PutsUpTo front later old mid =
      (rows : List RowRecord) × AreRowsFor admits nodes v candidates front rows × (later ≡ some_rows rows)
      × (mid ≡ old ++ rows_in format candidates false rows)

  pub none_put : (text : List ℕ) → PutsUpTo [] false text text
  none_put text = ([], tt, refl, sym (append-nil text))

  pub all_put : (table : List KeptPackage) (later : Bool) (old new : List ℕ) → PutsUpTo table later old new
      → PutsRows format admits nodes v candidates table old new
  all_put table later old new put = (put.0, put.1, put.3)

  abbrev PutsBy : List ℕ → List ℕ → Option RowRecord → Type 0
  PutsBy old new row = new ≡ old ++ option_map_or (row_in format candidates) row []

  more_by : (front : List KeptPackage) (kept : KeptPackage) (rows : List RowRecord) (row : Option RowRecord) (place : Option ℕ)
      (later : Bool) (old mid part new : List ℕ) → AreRowsFor admits nodes v candidates front rows → later ≡ some_rows rows
      → mid ≡ old ++ rows_in format candidates false rows → LiesIn nodes v kept place
      → part ≡ mid ++ separation format later place → PutsBy part new row → IsRowIf admits nodes v candidates kept row
      → PutsUpTo (front ++ kept ∷ []) (is_later later place) old new
  more_by front kept rows None None later old mid part new are some so_far lies separated put is =
      (rows, none_more admits nodes v candidates front kept rows are is, some, put ∙ append-nil part ∙ separated ∙ append-nil mid ∙ so_far)
  more_by front kept rows (Some row) None later old mid part new are some so_far lies separated put is =
      absurd (true≢false (sym is.0 ∙ lies))
  more_by front kept rows None (Some place) later old mid part new are some so_far lies separated put is =
      absurd (true≢false (sym lies.asked ∙ is))
  more_by front kept rows (Some row) (Some place) later old mid part new are some so_far lies separated put is =
      let shown = row_in format candidates row in
      let before = rows_in format candidates false rows in
      let mark : List ℕ = if some_rows rows then between format else [] in
      let here : part ≡ (old ++ before) ++ mark =
      separated ∙ ap (λ l. mid ++ (if l then between format else [])) some ∙ ap (λ t. t ++ mark) so_far in (
        rows ++ row ∷ [],
        row_more admits nodes v candidates front kept rows row are is,
        sym (some_more rows row),
        put ∙ ap (λ t. t ++ shown) here ∙ append_assoc (old ++ before) mark shown ∙ append_assoc old before (mark ++ shown)
            ∙ ap (λ t. old ++ t) (sym (row_behind false rows row)),
      )

  -- one more row
  pub row_put : (table : List KeptPackage) (i : ℕ) (other : KeptPackage) → i < length table → (place : Option ℕ) (later : Bool)
      (old mid part new : List ℕ) → PutsUpTo (take i table) later old mid → LiesIn nodes v (get_or table i other) place
      → part ≡ mid ++ separation format later place
      → PutsRow format admits nodes v candidates (get_or table i other) part new
      → PutsUpTo (take (i + 1) table) (is_later later place) old new
  row_put table i other below place later old mid part new front lies separated put =
      subst (λ t. PutsUpTo t (is_later later place) old new) (sym (take_more table i other below))
      (more_by (take i table) (get_or table i other) front.0 put.0 place later old mid part new front.1 front.2 front.3 lies separated
      put.2 put.1)

-- pieces are added after the one that separates rows
pub separated_grown : (old new : List (List ℕ)) → Grow old new → HasSeparator old → HasSeparator new
separated_grown old new grow separated = (separated.0 ++ grow.0, grow.1 ∙ ap (λ l. l ++ grow.0) separated.1)

-- ---- tests

module _ (nodes : List NodeRecord) (v : Valuation) (candidates : List Candidate) where
  abbrev most : List KeptPackage → ℕ
  most = most_tests_of nodes v candidates

  in_same : (a b : KeptPackage) → SamePackage a b → most_tests_in nodes v candidates a ≡ most_tests_in nodes v candidates b
  in_same a b s = λ j. most_tests (asked_same nodes v a.lines b.lines s.lines j) (own_candidates candidates (s.name j))

  most_joined : (table : List KeptPackage) (kept : KeptPackage)
      → most (table ++ kept ∷ []) ≡ most table + most_tests_in nodes v candidates kept
  most_joined [] kept = omega arith
  most_joined (p ∷ table) kept = let rest = most_joined table kept in omega (arith, rest)

  most_front : (table : List KeptPackage) (i : ℕ) → most (take i table) ≤ most table
  most_front table zero = omega arith
  most_front [] (suc i) = omega arith
  most_front (p ∷ table) (suc i) = let rest = most_front table i in omega (arith, rest)

  -- where the rows before take no more
  pub tests_front : (first now : List KeptPackage) (i : ℕ) → all_tests now ≤ all_tests first + most (take i first)
      → all_tests now ≤ all_tests first + most first
  tests_front first now i few = let all = most_front first i in omega (arith, few, all)

  -- one more row
  pub tests_more : (first now new : List KeptPackage) (i : ℕ) (other : KeptPackage) → AllZip SamePackage now first → i < length first
      → all_tests now ≤ all_tests first + most (take i first)
      → all_tests new ≤ all_tests now + most_tests_in nodes v candidates (get_or now i other)
      → all_tests new ≤ all_tests first + most (take (i + 1) first)
  tests_more first now new i other same below few more =
      let long = zip_long SamePackage now first same in
      let its = in_same (get_or now i other) (get_or first i other)
      (at_zip SamePackage now first i other other same (omega (arith, below, long))) in
      let sum = ap most (take_more first i other below) ∙ most_joined (take i first) (get_or first i other) in
      omega (arith, few, more, its, sum)
