-- Lists that require the same are answered alike.
use Rattle.std.proofs.Common.{◌≡◌, ◌∙◌, ◌&&◌, ◌||◌, ◌↔◌, ◌+◌, ℕ, Bool, true, false, cond, List, [], ◌∷◌}
use Rattle.std.proofs.Common.{filter, option_map, All, None, refl, sym, ap, subst}
use Rattle.std.specs.List.{list_any, list_all, enumerate_from, AllByRecursion}
use Rattle.std.proofs.lemmas.List.Elements.{All-nil, All-append, All-filter, All-map}
use Rattle.std.proofs.lemmas.List.Elements.{All-from_recursion, recursion_from_All}
use Rattle.version_ranges.specs.Point.{At}
use Rattle.pep440_version.specs.Record.{VersionRecord}
use Rattle.pep508_diagram.specs.Question.{Valuation}
use Rattle.pep508_requirement_text.specs.FrontReading.{Front}
use Rattle.reqtable_candidates.specs.declared.candidates.Candidate.{Candidate}
use Rattle.reqtable_range.specs.Together.{IsPlain}
use Rattle.reqtable_answer.specs.Asks.{specifiers_of, is_of, ask_takes}
use Rattle.reqtable_answer.specs.Asks.{is_candidate, may_be_taken}
use Rattle.reqtable_answer.specs.Answer.{Admits, RowRecord, IsRowOf, IsRow, IsAnswer, IsAnswerText}
use Rattle.reqtable_answer.specs.Answer.{outcome_of, chosen, first_greatest, by_version}
use Rattle.reqtable_answer.specs.declared.answer.Outcome.TheVariants.{Direct}
use Rattle.reqtable_requirements.specs.LineReading.{LineRecord}
use Rattle.reqtable_requirements.specs.Asks.{applies, lines_of, asks_of}
use Rattle.reqtable_cases.specs.Usable.{members_asked, points_of}
use Rattle.reqtable_cases.specs.Requires.{AskAlike, RequireAlike, RequireTheSame}
use Rattle.reqtable_cases.proofs.Alike.{same_back}
use Rattle.reqtable_cases.proofs.Taken.{usable_takes}
use Rattle.reqtable_packages.proofs.Asked.{its_asks}
use Rattle.reqtable_compare.specs.Refusals.{line_refusal}
use Rattle.reqtable_compare.specs.Answered.{IsOfText, AreOfTexts, ArePlain}
use Rattle.reqtable_compare.proofs.Comparable.{IsComparable, AreComparable, both_comparable}
use Rattle.reqtable_compare.proofs.Comparable.{no_urls, are_usable}

-- ---- whether a package is asked for

abbrev has_some : List Front → Bool
has_some [] = false
has_some (ask ∷ asks) = true

some_if : (name : List ℕ) (ask : Front) (asks : List Front) (b : Bool) →
    list_any (is_of name) asks ≡ has_some (filter (is_of name) asks) →
    (b || list_any (is_of name) asks)
    ≡ has_some (cond b (ask ∷ filter (is_of name) asks) (filter (is_of name) asks))
some_if name ask asks true h = refl
some_if name ask asks false h = h

any_some : (name : List ℕ) (asks : List Front) →
    list_any (is_of name) asks ≡ has_some (filter (is_of name) asks)
any_some name [] = refl
any_some name (ask ∷ asks) = some_if name ask asks (is_of name ask) (any_some name asks)

some_alike : (asks others : List Front) → RequireAlike asks others → has_some asks ≡ has_some others
some_alike [] [] h = refl
some_alike [] (other ∷ others) h = absurd h
some_alike (ask ∷ asks) [] h = absurd h
some_alike (ask ∷ asks) (other ∷ others) h = refl

ask_alike : (asks others : List Front) → RequireAlike asks others → AskAlike asks others
ask_alike [] [] h = record { extras = λ extra. refl; points = λ p. refl; prerelease = refl }
ask_alike [] (other ∷ others) h = absurd h
ask_alike (ask ∷ asks) [] h = absurd h
ask_alike (ask ∷ asks) (other ∷ others) h = h

-- ---- what they take of plain versions

abbrev IsOfTexts : Front → Type 0
IsOfTexts ask = All IsOfText (specifiers_of ask.source)

-- asks that can be compared, whose specifiers are as texts say them
pub record AreTold (asks : List Front) : Type 0 where
  pub comparable : AllByRecursion IsComparable asks
  pub said : AllByRecursion IsOfTexts asks

members_said : (asks : List Front) → AllByRecursion IsOfTexts asks → All IsOfText (members_asked asks)
members_said [] h = All-nil IsOfText
members_said (ask ∷ asks) h =
    All-append IsOfText (specifiers_of ask.source) (members_asked asks) h.0 (members_said asks h.1)

takes_points : (asks : List Front) (version : VersionRecord) → AreTold asks → IsPlain version →
    points_of asks (At version) ≡ list_all (ask_takes version) asks
takes_points asks version h plain =
    let said = members_said asks h.said in
    usable_takes asks version (are_usable asks h.comparable) (λ k d within. (said k d within).built)
    (λ k d within. (said k d within).said) plain

take_alike : (asks others : List Front) → AreTold asks → AreTold others → AskAlike asks others →
    (version : VersionRecord) → IsPlain version →
    list_all (ask_takes version) asks ≡ list_all (ask_takes version) others
take_alike asks others h k alike version plain =
    sym (takes_points asks version h plain) ∙ alike.points (At version) ∙ takes_points others version k plain

-- ---- one row

module _ (admits : Admits) (asks others : List Front) (h : AreTold asks) (k : AreTold others)
    (alike : AskAlike asks others) where
  same_kept : (own : List (ℕ × Candidate)) → AllByRecursion (λ c. IsPlain c.1.version) own →
      filter (may_be_taken admits asks) own ≡ filter (may_be_taken admits others) own
  same_kept [] plain = refl
  same_kept (c ∷ own) plain =
      let takes = take_alike asks others h k alike c.1.version plain.0 in
      let admission = ap (admits c.1.version) alike.prerelease in
      let rest = same_kept own plain.1 in
      λ i. cond (takes i && admission i) (c ∷ rest i) (rest i)

  same_outcome : (own : List (ℕ × Candidate)) → AllByRecursion (λ c. IsPlain c.1.version) own →
      outcome_of admits asks own ≡ outcome_of admits others own
  same_outcome own plain =
      let urls = no_urls asks h.comparable ∙ sym (no_urls others k.comparable) in
      let kept = same_kept own plain in
      λ i. cond (urls i) Direct (chosen (option_map (λ c. c.0) (first_greatest by_version (kept i))))

  row_of : (own : List (ℕ × Candidate)) (row : RowRecord) → AllByRecursion (λ c. IsPlain c.1.version) own →
      IsRowOf admits asks own row → IsRowOf admits others own row
  row_of own row plain is = record {
    extras_rise = is.extras_rise;
    extras_are = λ extra. is.extras_are extra ∙ alike.extras extra;
    outcome = is.outcome ∙ same_outcome own plain;
  }

-- ---- the answer

numbered_plain : (n : ℕ) (candidates : List Candidate) → AllByRecursion (λ c. IsPlain c.version) candidates →
    AllByRecursion (λ c. IsPlain c.1.version) (enumerate_from n candidates)
numbered_plain n [] plain = tt
numbered_plain n (c ∷ candidates) plain = (plain.0, numbered_plain (n + 1) candidates plain.1)

module _ (P : Front → Type 0) (v : Valuation) (name : List ℕ) (lines : List LineRecord) where
  its_all : All (λ line. P line.front) lines → AllByRecursion P (filter (is_of name) (asks_of v lines))
  its_all h =
      let front : LineRecord → Front = λ line. line.front in
      recursion_from_All P (filter (is_of name) (asks_of v lines))
      (All-filter (is_of name) P (asks_of v lines)
      (All-map P front (filter (applies v) lines) (All-filter (applies v) (λ line. P line.front) lines h)))

-- a list that can be compared, whose specifiers are as texts say them
pub record IsToldWhole (lines : List LineRecord) : Type 0 where
  pub comparable : AreComparable lines
  pub said : AreOfTexts lines

its_told : (v : Valuation) (name : List ℕ) (lines : List LineRecord) → IsToldWhole lines →
    AreTold (filter (is_of name) (asks_of v lines))
its_told v name lines h = record {
  comparable = its_all IsComparable v name lines h.comparable;
  said = its_all IsOfTexts v name lines h.said;
}

module _ (left right : List LineRecord) (told : IsToldWhole left) (others : IsToldWhole right)
    (same : RequireTheSame left right) (v : Valuation) (admits : Admits) (candidates : List Candidate)
    (plain : ArePlain candidates) where
  abbrev of_left : List ℕ → List Front
  of_left name = filter (is_of name) (asks_of v left)

  abbrev of_right : List ℕ → List Front
  of_right name = filter (is_of name) (asks_of v right)

  named_alike : (name : List ℕ) → RequireAlike (of_left name) (of_right name)
  named_alike name =
      subst (RequireAlike (of_left name)) (sym (its_asks v name right))
      (subst (λ asks. RequireAlike asks (asks_of v (lines_of name right))) (sym (its_asks v name left))
      (same name v))

  own_plain : (name : List ℕ) →
      AllByRecursion (λ c. IsPlain c.1.version) (filter (is_candidate name) (enumerate_from 0 candidates))
  own_plain name =
      let P : ℕ × Candidate → Type 0 = λ c. IsPlain c.1.version in
      let numbered : List (ℕ × Candidate) = enumerate_from 0 candidates in
      recursion_from_All P (filter (is_candidate name) numbered) (All-filter (is_candidate name) P numbered
      (All-from_recursion P numbered
      (numbered_plain 0 candidates (recursion_from_All (λ c. IsPlain c.version) candidates plain))))

  row_kept : (row : RowRecord) → IsRow admits (asks_of v left) candidates row →
      IsRow admits (asks_of v right) candidates row
  row_kept row =
      row_of admits (of_left row.name) (of_right row.name) (its_told v row.name left told)
      (its_told v row.name right others)
      (ask_alike (of_left row.name) (of_right row.name) (named_alike row.name))
      (filter (is_candidate row.name) (enumerate_from 0 candidates)) row (own_plain row.name)

  rows_kept : (rows : List RowRecord) → AllByRecursion (IsRow admits (asks_of v left) candidates) rows →
      AllByRecursion (IsRow admits (asks_of v right) candidates) rows
  rows_kept [] h = tt
  rows_kept (row ∷ rows) h = (row_kept row h.0, rows_kept rows h.1)

  answer_kept : (rows : List RowRecord) → IsAnswer admits (asks_of v left) candidates rows →
      IsAnswer admits (asks_of v right) candidates rows
  answer_kept rows is = record {
    rising = is.rising;
    asked = λ name. is.asked name ∙ any_some name (asks_of v left)
        ∙ some_alike (of_left name) (of_right name) (named_alike name)
        ∙ sym (any_some name (asks_of v right));
    each_row = rows_kept rows is.each_row;
  }

-- ---- both ways

pub rows_alike : (left right : List LineRecord) → line_refusal left right ≡ None → AreOfTexts left →
    AreOfTexts right → RequireTheSame left right → (v : Valuation) (admits : Admits)
    (candidates : List Candidate) → ArePlain candidates → (rows : List RowRecord) →
    IsAnswer admits (asks_of v left) candidates rows ↔ IsAnswer admits (asks_of v right) candidates rows
rows_alike left right none said others same v admits candidates plain rows =
    let both = both_comparable left right none in
    let one : IsToldWhole left = record { comparable = both.0; said = said } in
    let other : IsToldWhole right = record { comparable = both.1; said = others } in (
      answer_kept left right one other same v admits candidates plain rows,
      answer_kept right left other one (same_back left right same) v admits candidates plain rows,
    )

pub text_alike : (left right : List LineRecord) → line_refusal left right ≡ None → AreOfTexts left →
    AreOfTexts right → RequireTheSame left right → (v : Valuation) (admits : Admits)
    (candidates : List Candidate) → ArePlain candidates → (text : List ℕ) →
    IsAnswerText admits (asks_of v left) candidates text
    ↔ IsAnswerText admits (asks_of v right) candidates text
text_alike left right none said others same v admits candidates plain text =
    let alike = rows_alike left right none said others same v admits candidates plain in
    ((λ h. (h.0, (alike h.0).0 h.1, h.2)), (λ h. (h.0, (alike h.0).1 h.1, h.2)))
