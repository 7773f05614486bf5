-- What lying in a case says of a package.
use Rattle.std.proofs.Common.{◌≡◌, ◌∙◌, ◌<◌, ℕ, false, List, [], ◌∷◌, length, map, get_or, sym, ap}
use Rattle.std.proofs.Common.{subst}
use Rattle.std.proofs.lemmas.List.{length-map}
use Rattle.std.specs.List.{AllZip}
use Rattle.pep508_diagram.specs.Question.{Valuation}
use Rattle.pep508_tree.specs.Tree.{always}
use Rattle.pep508_tree.specs.Meaning.{NodeRecord, holds}
use Rattle.reqtable_candidates.specs.declared.candidates.Candidate.{Candidate}
use Rattle.reqtable_answer.specs.Admission.{Admits}
use Rattle.reqtable_answer.specs.Answer.{RowRecord, IsRowOf}
use Rattle.pep508_cases.specs.Sets.{marked}
use Rattle.reqtable_table.specs.Answers.{kept_marks, own_candidates, IsRowFor, IsPlaceIn, SameLine}
use Rattle.reqtable_table.specs.Answers.{SamePackage}
use Rattle.reqtable_table.specs.Kept.{KeptLine, KeptCase, KeptPackage, kept_front}
use Rattle.reqtable_table.specs.Standing.{HasItsLines}
use Rattle.reqtable_table.proofs.Rows.{any_same}
use Rattle.reqtable_table.proofs.Same.{marks_same}
use Rattle.reqtable_table.proofs.Told.{one_set, marked_numbers}

some_case : KeptCase
some_case = record { set = []; numbers = []; tree = always; prerelease = false }

module _ (nodes : List NodeRecord) (v u : Valuation) (kept : KeptPackage) (stands : HasItsLines kept) (place : ℕ)
    (here : IsPlaceIn nodes v kept place) (there : IsPlaceIn nodes u kept place) where
  one_marks : kept_marks nodes v kept.lines ≡ kept_marks nodes u kept.lines
  one_marks =
      one_set kept.lines (kept_marks nodes v kept.lines) (kept_marks nodes u kept.lines) stands.rising
      (length-map kept.lines (λ (line : KeptLine). holds nodes line.marker v)) (length-map kept.lines (λ (line : KeptLine). holds nodes line.marker u))
      (sym (here.numbers some_case) ∙ there.numbers some_case)

  -- in one case a package has one row
  pub one_row : (admits : Admits) (candidates : List Candidate) (row : RowRecord) → IsRowFor admits nodes v candidates kept row →
      IsRowFor admits nodes u candidates kept row
  one_row admits candidates row is = record {
    named = is.named;
    its =
        subst (λ m. IsRowOf admits (map kept_front (marked m kept.lines)) (own_candidates candidates kept.name) row) one_marks is.its;
  }

line_back : (a b : KeptLine) → SameLine a b → SameLine b a
line_back a b s = record {
  number = sym s.number;
  extras = sym s.extras;
  marker = sym s.marker;
  url = sym s.url;
  bounded = sym s.bounded;
  members = sym s.members;
}

lines_back : (a b : List KeptLine) → AllZip SameLine a b → AllZip SameLine b a
lines_back [] [] s = tt
lines_back [] (y ∷ b) s = absurd s
lines_back (x ∷ a) [] s = absurd s
lines_back (x ∷ a) (y ∷ b) s = (line_back x y s.0, lines_back a b s.1)

-- what stayed the same was the same
pub same_back : (a b : KeptPackage) → SamePackage a b → SamePackage b a
same_back a b s = record { name = sym s.name; cases = sym s.cases; lines = lines_back a.lines b.lines s.lines }

-- a package of whose lines more was asked lies where it lay
pub place_same : (nodes : List NodeRecord) (v : Valuation) (a b : KeptPackage) → SamePackage a b → (place : ℕ) →
    IsPlaceIn nodes v a place → IsPlaceIn nodes v b place
place_same nodes v a b s place is = record {
  asked = sym (any_same nodes v a.lines b.lines s.lines) ∙ is.asked;
  within = subst (λ cases. place < length cases) s.cases is.within;
  numbers = λ other.
      ap (λ cases. (get_or cases place other).numbers) (sym s.cases) ∙ is.numbers other
      ∙ marked_numbers (kept_marks nodes v a.lines) a.lines b.lines s.lines
      ∙ ap (λ m. map (λ (line : KeptLine). line.number) (marked m b.lines)) (marks_same nodes v a.lines b.lines s.lines);
}
