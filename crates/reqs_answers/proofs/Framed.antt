-- The text of the answers for environments one after another, in each format.
use Rattle.std.proofs.Common.{◌≡◌, ◌∙◌, ◌++◌, ◌+◌, ◌<◌, ◌≤◌, ◌∷◌, [], ℕ, suc, List, Bool, true, false, nat_lt}
use Rattle.std.proofs.Common.{length, take, get_or, codes, ap, refl, sym, subst, arith, append_assoc}
use Rattle.std.proofs.Common.{append-nil, length-append, add-zero}
use Rattle.std.specs.List.{AllZip}
use Rattle.std.specs.Fmt.{decimal}
use Rattle.std.proofs.lemmas.Bool.{lt-ltb}
use Rattle.std.proofs.lemmas.List.{take_all, take_more}
use Rattle.pep508_tree.specs.Meaning.{NodeRecord}
use Rattle.pep508_environment.specs.Environment.{EnvironmentRecord}
use Rattle.pep508_evaluation.specs.Valuations.{valuation_of}
use Rattle.serde_json.specs.Written.{comma_if}
use Rattle.reqtable_candidates.specs.declared.candidates.Candidate.{Candidate}
use Rattle.reqtable_answer.specs.Answer.{RowRecord, IsAnswer, row_text, answer_text}
use Rattle.reqtable_requirements.specs.Asks.{asks_of}
use Rattle.reqtable_requirements.specs.LineReading.{LineRecord}
use Rattle.reqtable_table.specs.Answers.{SamePackage}
use Rattle.reqtable_table.specs.Kept.{KeptPackage, KeepsAll}
use Rattle.reqs_json.specs.declared.format.Format.{Format}
use Rattle.reqs_json.specs.declared.format.Format.TheVariants.{Text, Json}
use Rattle.reqs_json.specs.Lines.{value_text}
use Rattle.reqs_json.specs.Rows.{rows_in, environment_value, environment_values}
use Rattle.reqs_json.proofs.Joined.{items_front, environment_is, whole}
use Rattle.reqs_answers.specs.Check.{on_request}
use Rattle.reqs_answers.specs.Frames.{opening, head, foot, closing}
use Rattle.reqs_answers.specs.Matrix.{AreAnswers, IsMatrixText, IsMatrixIn, environment_line}

pub zip_more : {A B : Type 0} (R : A → B → Type 0) (xs : List A) (ys : List B) (x : A) (y : B) → AllZip R xs ys → R x y
    → AllZip R (xs ++ x ∷ []) (ys ++ y ∷ [])
zip_more R [] [] x y h r = (r, tt)
zip_more R [] (b ∷ ys) x y h r = absurd h
zip_more R (a ∷ xs) [] x y h r = absurd h
zip_more R (a ∷ xs) (b ∷ ys) x y h r = (h.0, zip_more R xs ys x y h.1 r)

-- the answer for an environment with this number, and those for environments that are numbered from it on
abbrev pub framed : Format → List Candidate → ℕ → List RowRecord → List ℕ
framed format candidates number rows = head format number ++ (rows_in format candidates false rows ++ foot format)

abbrev pub all_framed : Format → List Candidate → ℕ → List (List RowRecord) → List ℕ
all_framed format candidates number [] = []
all_framed format candidates number (rows ∷ answers) =
    framed format candidates number rows ++ all_framed format candidates (suc number) answers

-- one more
framed_more : (format : Format) (candidates : List Candidate) (rows : List RowRecord) (number : ℕ) (answers : List (List RowRecord))
    → all_framed format candidates number (answers ++ rows ∷ [])
    ≡ all_framed format candidates number answers ++ framed format candidates (number + length answers) rows
framed_more format candidates rows number [] = rw add-zero (append-nil (framed format candidates number rows))
framed_more format candidates rows number (first ∷ answers) =
    let e : suc number + length answers ≡ number + suc (length answers) = omega arith in
    rw (framed_more format candidates rows (suc number) answers, e) (simp append_assoc)

-- as lines
module _ (extras : List (List ℕ)) (lines : List LineRecord) (candidates : List Candidate) where
  as_lines : (later : Bool) (rows : List RowRecord) → rows_in Text candidates later rows ≡ answer_text candidates rows
  as_lines later [] = refl
  as_lines true (row ∷ rows) = ap (λ t. row_text candidates row ++ t) (as_lines true rows)
  as_lines false (row ∷ rows) = ap (λ t. row_text candidates row ++ t) (as_lines true rows)

  text_is : (number : ℕ) (environments : List EnvironmentRecord) (answers : List (List RowRecord)) (text : List ℕ)
      → AreAnswers on_request extras lines candidates environments answers → text ≡ all_framed Text candidates number answers
      → IsMatrixText on_request extras lines candidates number environments text
  text_is number [] [] text are e = e
  text_is number [] (rows ∷ answers) text are e = absurd are
  text_is number (environment ∷ environments) [] text are e = absurd are
  text_is number (environment ∷ environments) (rows ∷ answers) text are e =
      let line = environment_line number in
      let rest = all_framed Text candidates (suc number) answers in
      let answer = rows_in Text candidates false rows in
      let shown : answer ++ [] ≡ answer_text candidates rows = append-nil answer ∙ as_lines false rows in (
        answer_text candidates rows,
        rest,
        (rows, are.0, refl),
        text_is (suc number) environments answers rest are.1 refl,
        e ∙ ap (λ t. line ++ t ++ rest) shown,
      )

-- as objects
module _ (candidates : List Candidate) where
  object_is : (number : ℕ) (rows : List RowRecord)
      → framed Json candidates number rows ≡ comma_if (nat_lt 1 number) ++ value_text (environment_value candidates number rows)
  object_is number rows =
      let comma = comma_if (nat_lt 1 number) in
      let first : List ℕ = codes "{\"number\":" in
      let second : List ℕ = codes ",\"packages\":[" in
      let behind : List ℕ = rows_in Json candidates false rows ++ codes "]}" in
      append_assoc comma (first ++ (decimal number ++ second)) behind
      ∙ ap (λ t. comma ++ t)
      (append_assoc first (decimal number ++ second) behind ∙ ap (λ t. first ++ t) (append_assoc (decimal number) second behind)
      ∙ environment_is candidates number rows)

  objects_are : (before : ℕ) (answers : List (List RowRecord))
      → all_framed Json candidates (suc before) answers
      ≡ items_front (nat_lt 1 (suc before)) (environment_values candidates (suc before) answers)
  objects_are before [] = refl
  objects_are before (rows ∷ answers) =
      let later : nat_lt 1 (suc (suc before)) ≡ true = lt-ltb 1 (suc (suc before)) (omega arith) in
      let comma = comma_if (nat_lt 1 (suc before)) in
      let shown = value_text (environment_value candidates (suc before) rows) in
      let rest = environment_values candidates (suc (suc before)) answers in
      let behind : all_framed Json candidates (suc (suc before)) answers ≡ items_front true rest =
      objects_are (suc before) answers ∙ ap (λ l. items_front l rest) later in
      ap (λ t. t ++ all_framed Json candidates (suc (suc before)) answers) (object_is (suc before) rows)
      ∙ append_assoc comma shown (all_framed Json candidates (suc (suc before)) answers)
      ∙ ap (λ t. comma ++ (shown ++ t)) behind

-- a text has the answers for the environments before a place
pub record IsBegun (format : Format) (extras : List (List ℕ)) (lines : List LineRecord) (candidates : List Candidate)
    (all : List EnvironmentRecord) (place : ℕ) (text : List ℕ) : Type 0 where
  pub answers : List (List RowRecord)
  pub are : AreAnswers on_request extras lines candidates (take place all) answers
  pub long : length answers ≡ place
  pub is : text ≡ opening format ++ all_framed format candidates 1 answers

-- a table stays what it was, and the text has its answers so far
pub record GoesOn (format : Format) (nodes : List NodeRecord) (extras : List (List ℕ)) (candidates : List Candidate)
    (all : List EnvironmentRecord) (before after : List KeptPackage) (place : ℕ) (text : List ℕ) : Type 0 where
  pub same : AllZip SamePackage after before
  pub answers : (said : List LineRecord) → KeepsAll nodes before said → IsBegun format extras said candidates all place text

module _ (format : Format) (extras : List (List ℕ)) (lines : List LineRecord) (candidates : List Candidate)
    (all : List EnvironmentRecord) where
  -- none yet
  pub begun : (text : List ℕ) → text ≡ opening format → IsBegun format extras lines candidates all 0 text
  begun text e = record { answers = []; are = tt; long = refl; is = e ∙ sym (append-nil (opening format)) }

  -- one more
  pub gone_on : (place : ℕ) (x : EnvironmentRecord) → place < length all → x ≡ get_or all place x
      → (old new : List ℕ) → IsBegun format extras lines candidates all place old
      → (rows : List RowRecord) → IsAnswer on_request (asks_of (valuation_of x extras) lines) candidates rows
      → new ≡ old ++ framed format candidates (place + 1) rows
      → IsBegun format extras lines candidates all (place + 1) new
  gone_on place x below is old new so_far rows answered e =
      let start = opening format in
      let front = all_framed format candidates 1 so_far.answers in
      let long = so_far.long in
      let next : 1 + length so_far.answers ≡ place + 1 = omega (arith, long) in
      let R : EnvironmentRecord → List RowRecord → Type 0 =
      λ environment rows. IsAnswer on_request (asks_of (valuation_of environment extras) lines) candidates rows in
      let more = zip_more R (take place all) so_far.answers x rows so_far.are answered in
      let upto : take (place + 1) all ≡ take place all ++ x ∷ [] =
      take_more all place x below ∙ ap (λ y. take place all ++ y ∷ []) (sym is) in
      let count = length-append so_far.answers (rows ∷ []) in
      let added : front ++ framed format candidates (place + 1) rows ≡ all_framed format candidates 1 (so_far.answers ++ rows ∷ []) =
      ap (λ n. front ++ framed format candidates n rows) (sym next) ∙ sym (framed_more format candidates rows 1 so_far.answers) in
      record {
        answers = so_far.answers ++ rows ∷ [];
        are = subst (λ (some : List EnvironmentRecord). AllZip R some (so_far.answers ++ rows ∷ [])) (sym upto) more;
        long = omega (arith, count, long);
        is = e ∙ ap (λ t. t ++ framed format candidates (place + 1) rows) so_far.is
            ∙ append_assoc start front (framed format candidates (place + 1) rows) ∙ ap (λ t. start ++ t) added;
      }

-- none is left
module _ (extras : List (List ℕ)) (lines : List LineRecord) (candidates : List Candidate) (all : List EnvironmentRecord) where
  pub closed : (format : Format) (place : ℕ) (text new : List ℕ) → length all ≤ place
      → IsBegun format extras lines candidates all place text → new ≡ text ++ closing format
      → IsMatrixIn format on_request extras lines candidates all new
  closed Text place text new past so_far e =
      let R : List EnvironmentRecord → Type 0 = λ some. AreAnswers on_request extras lines candidates some so_far.answers in
      text_is extras lines candidates 1 all so_far.answers new (subst R (take_all place all past) so_far.are)
      (e ∙ append-nil text ∙ so_far.is)
  closed Json place text new past so_far e =
      let R : List EnvironmentRecord → Type 0 = λ some. AreAnswers on_request extras lines candidates some so_far.answers in
      let start = opening Json in
      let front = all_framed Json candidates 1 so_far.answers in
      let end = closing Json in (
        so_far.answers,
        subst R (take_all place all past) so_far.are,
        e ∙ ap (λ t. t ++ end) so_far.is ∙ append_assoc start front end
            ∙ ap (λ t. start ++ (t ++ end)) (objects_are candidates 0 so_far.answers) ∙ whole candidates so_far.answers,
      )
