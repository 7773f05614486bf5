-- Values in which no number is a float.
use Rattle.std.proofs.Common.{◌≡◌, ℕ, List, [], ◌∷◌, map, Option, Some, None, false, refl}
use Rattle.std.specs.Option.{option_map_or}
use Rattle.std.specs.List.{slice_get}
use Rattle.pep440_version.specs.Print.{version_text}
use Rattle.serde_json.specs.Data.{Data, null, string}
use Rattle.serde_json.specs.View.{items_of}
use Rattle.serde_json.specs.Written.{has_float, items_have_float}
use Rattle.reqtable_candidates.specs.declared.candidates.Candidate.{Candidate}
use Rattle.reqtable_answer.specs.declared.answer.Outcome.{Outcome}
use Rattle.reqtable_answer.specs.declared.answer.Outcome.TheVariants.{Taken, Nothing, Direct}
use Rattle.reqtable_answer.specs.Answer.{RowRecord}
use Rattle.reqs_json.specs.Faults.{error_value}
use Rattle.reqs_json.specs.Lines.{number_of, value_or_null}
use Rattle.reqs_json.specs.declared.faults.Place.{Place}
use Rattle.reqs_json.specs.Rows.{version_value, package_value, answer_value}

-- those of a list's members, where each has none
pub plain_items : {X : Type 0} (value_of : X → Data) → ((x : X) → has_float (value_of x) ≡ false) → (xs : List X)
    → items_have_float (items_of (map value_of xs)) ≡ false
plain_items value_of plain [] = refl
plain_items value_of plain (x ∷ xs) = rw (plain x) (plain_items value_of plain xs)

pub plain_texts : (texts : List (List ℕ)) → items_have_float (items_of (map string texts)) ≡ false
plain_texts texts = plain_items string (λ text. refl) texts

pub plain_numbers : (numbers : List ℕ) → items_have_float (items_of (map number_of numbers)) ≡ false
plain_numbers numbers = plain_items number_of (λ number. refl) numbers

pub plain_or_null : {X : Type 0} (value_of : X → Data) → ((x : X) → has_float (value_of x) ≡ false) → (o : Option X)
    → has_float (value_or_null value_of o) ≡ false
plain_or_null value_of plain (Some x) = plain x
plain_or_null value_of plain None = refl

plain_found : (found : Option Candidate)
    → has_float (option_map_or (λ c. string (version_text c.version)) found null) ≡ false
plain_found (Some c) = refl
plain_found None = refl

plain_version : (candidates : List Candidate) (outcome : Outcome) → has_float (version_value candidates outcome) ≡ false
plain_version candidates (Taken place) = plain_found (slice_get candidates place)
plain_version candidates Nothing = refl
plain_version candidates Direct = refl

pub plain_package : (candidates : List Candidate) (row : RowRecord) → has_float (package_value candidates row) ≡ false
plain_package candidates row = rw (plain_texts row.extras, plain_version candidates row.outcome) refl

pub plain_answer : (candidates : List Candidate) (rows : List RowRecord)
    → has_float (answer_value candidates rows) ≡ false
plain_answer candidates rows = rw (plain_items (package_value candidates) (plain_package candidates) rows) refl

plain_number : (number : Option ℕ) → has_float (value_or_null number_of number) ≡ false
plain_number = plain_or_null number_of (λ number. refl)

plain_text : (text : Option (List ℕ)) → has_float (value_or_null string text) ≡ false
plain_text = plain_or_null string (λ text. refl)

pub plain_error : (kind message : List ℕ) (path : Option (List ℕ)) (place : Place)
    → has_float (error_value kind message path place) ≡ false
plain_error kind message path place =
    rw (plain_number place.len, plain_number place.line, plain_text path, plain_number place.start) refl
