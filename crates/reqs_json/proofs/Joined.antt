-- The objects of environments and of rows, one after another.
use Rattle.std.proofs.Common.{◌≡◌, ◌++◌, ◌∷◌, ℕ, List, [], map, Bool, true, false}
use Rattle.std.proofs.Common.{codes, ap, refl, append_assoc}
use Rattle.std.specs.Fmt.{decimal}
use Rattle.serde_json.specs.Data.{Items, no_items, item}
use Rattle.serde_json.specs.View.{items_of}
use Rattle.serde_json.specs.Written.{items_text, comma_if}
use Rattle.serde_json.proofs.OnLiterals.{serde_json_on_literals}
use Rattle.reqtable_candidates.specs.declared.candidates.Candidate.{Candidate}
use Rattle.reqtable_answer.specs.Answer.{RowRecord}
use Rattle.reqs_json.specs.Lines.{value_text, line_of}
use Rattle.reqs_json.specs.declared.format.Format.TheVariants.{Json}
use Rattle.reqs_json.specs.Rows.{package_value, rows_in, environment_value, environment_values, answers_value}

-- the items of an array without its closing bracket
abbrev pub items_front : Bool → Items → List ℕ
items_front later no_items = []
items_front later (item d ds) = comma_if later ++ (value_text d ++ items_front true ds)

closed : (later : Bool) (ds : Items) → items_text later ds ≡ items_front later ds ++ 93 ∷ []
unfolding value_text
closed later no_items = refl
closed later (item d ds) = rw (closed true ds) (simp append_assoc)

-- the array's items stand between its brackets
pub whole : (candidates : List Candidate) (answers : List (List RowRecord))
    → codes "{\"environments\":[" ++ (items_front false (environment_values candidates 1 answers) ++ codes "]}\n")
    ≡ line_of (answers_value candidates answers)
unfolding line_of serde_json_on_literals
whole candidates answers = rw (closed false (environment_values candidates 1 answers)) (simp append_assoc)

module _ (candidates : List Candidate) where
  -- the objects of rows
  objects : (later : Bool) (rows : List RowRecord)
      → rows_in Json candidates later rows ≡ items_front later (items_of (map (package_value candidates) rows))
  objects later [] = refl
  objects later (row ∷ rows) =
      ap (λ t. comma_if later ++ (value_text (package_value candidates row) ++ t)) (objects true rows)

  -- an environment's object, by those of its rows
  pub environment_is : (number : ℕ) (rows : List RowRecord)
      → codes "{\"number\":" ++ (decimal number ++ (codes ",\"packages\":[" ++ (rows_in Json candidates false rows ++ codes "]}")))
      ≡ value_text (environment_value candidates number rows)
  unfolding value_text serde_json_on_literals
  environment_is number rows =
      rw (objects false rows, closed false (items_of (map (package_value candidates) rows))) (simp append_assoc)
