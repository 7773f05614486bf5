-- A package's row is put after a text.
use Rattle.std.proofs.Common.{◌≡◌, ◌∙◌, ◌⊎◌, ℕ, Bool, List, [], ◌∷◌, ◌++◌, length, get_or, Option, Some, None}
use Rattle.std.proofs.Common.{sym, ap, subst, inl, inr, arith, length-append}
use Rattle.std.proofs.lemmas.List.{get_or_append_left, get_or_at}
use Rattle.std.specs.Borrow.{Bor}
use Rattle.pep440_version.specs.Record.{VersionRecord}
use Rattle.pep508_diagram.specs.Question.{Valuation}
use Rattle.pep508_tree.specs.Meaning.{NodeRecord}
use Rattle.reqtable_candidates.specs.declared.candidates.Candidate.{Candidate}
use Rattle.reqtable_answer.specs.Admission.{Admits, AnswersBy}
use Rattle.reqtable_answer.specs.Answer.{RowRecord}
use Rattle.reqtable_table.specs.Answers.{IsPlaceIn, LiesIn, IsRowFor, SamePackage}
use Rattle.reqtable_table.specs.Kept.{KeptPackage}
use Rattle.reqtable_table.specs.Standing.{HasItsLines}
use Rattle.reqtable_table.proofs.Placed.{one_row, same_back, place_same}
use Rattle.reqtable_table.proofs.Rows.{any_same, row_if_same}
use Rattle.reqs_json.specs.declared.format.Format.{Format}
use Rattle.reqs_json.specs.Rows.{row_in}
use Rattle.reqs_rows.specs.Texts.{IsTextIn, IsPiece, IsKnown, Grow, PutsRow}

module _ (format : Format) (returns : Bor VersionRecord → Bool → Bool → Type 0) (nodes : List NodeRecord)
    (candidates : List Candidate) where
  -- pieces are added
  pub known_grown : (old new : List (List ℕ)) → Grow old new → (kept : KeptPackage) (own : List (Option ℕ))
      → IsKnown format returns nodes candidates old kept own → IsKnown format returns nodes candidates new kept own
  known_grown old new grow kept own known = λ place piece e.
      let is = known place piece e in
      let same : get_or new piece [] ≡ get_or old piece [] = ap (λ l. get_or l piece []) grow.1 ∙ get_or_append_left old grow.0 [] piece is.within in
      let long = ap length grow.1 ∙ length-append old grow.0 in
      let within = is.within in record {
        within = omega (arith, within, long);
        text = λ admits by. subst (IsTextIn format admits nodes candidates kept place) (sym same) (is.text admits by);
      }

  module _ (kept : KeptPackage) (v : Valuation) (place : ℕ) (lies : IsPlaceIn nodes v kept place) where
    -- by a piece that is known
    pub put_known : (texts : List (List ℕ)) (piece : ℕ) → IsPiece format returns nodes candidates texts kept place piece
        → (old new : List ℕ) → new ≡ old ++ get_or texts piece []
        → (admits : Admits) → AnswersBy returns admits → PutsRow format admits nodes v candidates kept old new
    put_known texts piece is old new e admits by =
        let row = is.text admits by v lies in
        (Some row.0, (lies.asked, row.1), e ∙ ap (λ t. old ++ t) row.2)

    -- a piece more is known
    pub known_more : (stands : HasItsLines kept) (row : RowRecord)
        → ((admits : Admits) → AnswersBy returns admits → IsRowFor admits nodes v candidates kept row)
        → (texts new : List (List ℕ)) → new ≡ texts ++ row_in format candidates row ∷ []
        → (own more : List (Option ℕ)) → IsKnown format returns nodes candidates texts kept own
        → ((at found : ℕ) → get_or more at None ≡ Some found → ((at ≡ place) × (length texts ≡ found)) ⊎ (get_or own at None ≡ Some found))
        → IsKnown format returns nodes candidates new kept more
    known_more stands row is texts new grown own more known there = λ at found e.
        elim (there at found e) [
          | inl both ↦
              let here : get_or new found [] ≡ row_in format candidates row =
              ap (λ l. get_or l found []) grown ∙ get_or_at texts (row_in format candidates row) [] [] found both.1 in
              let long = ap length grown ∙ length-append texts (row_in format candidates row ∷ []) in
              let last = both.1 in record {
                within = omega (arith, last, long);
                text = λ admits by.
                    subst (λ p. IsTextIn format admits nodes candidates kept p (get_or new found [])) (sym both.0)
                    (λ u there. (row, one_row nodes v u kept stands place lies there admits candidates row (is admits by), here));
              }
          | inr before ↦
              known_grown texts new (row_in format candidates row ∷ [], grown) kept own known at found before
        ]

  module _ (a b : KeptPackage) (s : SamePackage a b) where
    -- more was asked of the package's lines
    pub known_same : (texts : List (List ℕ)) (own : List (Option ℕ)) → IsKnown format returns nodes candidates texts a own
        → IsKnown format returns nodes candidates texts b own
    known_same texts own known = λ place piece e.
        let is = known place piece e in record {
          within = is.within;
          text = λ admits by v lies.
              let was = place_same nodes v b a (same_back a b s) place lies in
              let row = is.text admits by v was in
              (row.0, (row_if_same admits nodes v candidates a b s (Some row.0) (was.asked, row.1)).1, row.2);
        }

    pub lies_same : (v : Valuation) (place : Option ℕ) → LiesIn nodes v a place → LiesIn nodes v b place
    lies_same v None h = sym (any_same nodes v a.lines b.lines s.lines) ∙ h
    lies_same v (Some place) h = place_same nodes v a b s place h

    pub puts_same : (admits : Admits) (v : Valuation) (old new : List ℕ) → PutsRow format admits nodes v candidates a old new
        → PutsRow format admits nodes v candidates b old new
    puts_same admits v old new put = (put.0, row_if_same admits nodes v candidates a b s put.0 put.1, put.2)
