-- Rows whose candidates stand in a list of selected ones have the text of the answer, in each format.
use Rattle.std.proofs.Common.{◌≡◌, List, [], ◌∷◌, map, refl, ap, codes}
use Rattle.std.specs.List.{AllZip}
use Rattle.std.specs.Option.{option_map_or}
use Rattle.pep440_version.specs.Print.{version_text}
use Rattle.serde_json.specs.Data.{null, string, array, object, no_members, member}
use Rattle.serde_json.specs.View.{items_of}
use Rattle.reqtable_candidates.specs.declared.candidates.Candidate.{Candidate}
use Rattle.reqtable_answer.specs.declared.answer.Outcome.{Outcome}
use Rattle.reqtable_answer.specs.declared.answer.Outcome.TheVariants.{Taken, Nothing, Direct}
use Rattle.reqtable_answer.specs.Answer.{RowRecord}
use Rattle.reqtable_answer.proofs.Tests.{any_zip}
use Rattle.reqtable_streaming.specs.Selection.{SelectsAs, IsRowAs}
use Rattle.reqtable_streaming.proofs.OneRoad.{text_as}
use Rattle.reqs_json.specs.declared.format.Format.{Format}
use Rattle.reqs_json.specs.declared.format.Format.TheVariants.{Text, Json}
use Rattle.reqs_json.specs.Lines.{array_of, line_of}
use Rattle.reqs_json.specs.Rows.{outcome_word, version_value, package_value, rows_text}
use Rattle.reqs_answers.specs.Strict.{is_nothing, has_none}

module _ (selected candidates : List Candidate) where
  word_as : (a b : Outcome) → SelectsAs selected candidates a b → outcome_word a ≡ outcome_word b
  word_as (Taken place) (Taken other) h = refl
  word_as (Taken place) Nothing h = absurd h
  word_as (Taken place) Direct h = absurd h
  word_as Nothing (Taken other) h = absurd h
  word_as Nothing Nothing h = refl
  word_as Nothing Direct h = absurd h
  word_as Direct (Taken other) h = absurd h
  word_as Direct Nothing h = absurd h
  word_as Direct Direct h = refl

  value_as : (a b : Outcome) → SelectsAs selected candidates a b → version_value selected a ≡ version_value candidates b
  value_as (Taken place) (Taken other) h = ap (λ c. option_map_or (λ x. string (version_text x.version)) c null) h.1
  value_as (Taken place) Nothing h = absurd h
  value_as (Taken place) Direct h = absurd h
  value_as Nothing (Taken other) h = absurd h
  value_as Nothing Nothing h = refl
  value_as Nothing Direct h = absurd h
  value_as Direct (Taken other) h = absurd h
  value_as Direct Nothing h = absurd h
  value_as Direct Direct h = refl

  package_as : (row other : RowRecord) → IsRowAs selected candidates row other → package_value selected row ≡ package_value candidates other
  package_as row other h =
      let word = word_as row.outcome other.outcome h.outcome in
      let value = value_as row.outcome other.outcome h.outcome in
      λ i. object (
      member (codes "extras") (array_of string (h.extras i)) (
      member (codes "name") (string (h.name i)) (
      member (codes "outcome") (string (word i)) (
      member (codes "version") (value i) no_members))))

  packages_as : (rows answer : List RowRecord) → AllZip (IsRowAs selected candidates) rows answer
      → map (package_value selected) rows ≡ map (package_value candidates) answer
  packages_as [] [] h = refl
  packages_as [] (a ∷ answer) h = absurd h
  packages_as (r ∷ rows) [] h = absurd h
  packages_as (r ∷ rows) (a ∷ answer) h =
      let first = package_as r a h.0 in
      let rest = packages_as rows answer h.1 in
      λ i. first i ∷ rest i

  pub rows_as : (format : Format) (rows answer : List RowRecord) → AllZip (IsRowAs selected candidates) rows answer
      → rows_text format selected rows ≡ rows_text format candidates answer
  rows_as Text rows answer h = text_as selected candidates rows answer h
  rows_as Json rows answer h =
      ap (λ values. line_of (object (member (codes "packages") (array (items_of values)) no_members))) (packages_as rows answer h)

  nothing_as : (a b : Outcome) → SelectsAs selected candidates a b → is_nothing a ≡ is_nothing b
  nothing_as (Taken place) (Taken other) h = refl
  nothing_as (Taken place) Nothing h = absurd h
  nothing_as (Taken place) Direct h = absurd h
  nothing_as Nothing (Taken other) h = absurd h
  nothing_as Nothing Nothing h = refl
  nothing_as Nothing Direct h = absurd h
  nothing_as Direct (Taken other) h = absurd h
  nothing_as Direct Nothing h = absurd h
  nothing_as Direct Direct h = refl

  pub none_as : (rows answer : List RowRecord) → AllZip (IsRowAs selected candidates) rows answer
      → has_none rows ≡ has_none answer
  none_as =
      any_zip (IsRowAs selected candidates) (λ row. is_nothing row.outcome) (λ row. is_nothing row.outcome)
      (λ row other h. nothing_as row.outcome other.outcome h.outcome)
