-- What is read at the front of a text is written there.
use Rattle.std.proofs.Common.{◌≡◌, ℕ, List, ◌++◌, Ok, ap, subst, ◌∙◌}
use Rattle.std.specs.Str.{chars, skip_leading_whitespace}
use Rattle.pep508_name.specs.Name.{normal_name}
use Rattle.pep508_requirement_text.proofs.Lists.{TextLaw}
use Rattle.pep508_requirement_text.specs.FrontReading.{Source, Front, name_at, extras_at, source_at}
use Rattle.pep508_requirement_text.specs.FrontReading.{with_source, behind_extras, behind_name, front_reading}
use Rattle.pep508_requirement_text.specs.FrontText.{IsFrontText}
use Rattle.pep508_error.proofs.Spaces.{spaces_found}
use Rattle.pep508_requirement_text.proofs.ExtrasTexts.{name_found, extras_found}
use Rattle.pep508_error.proofs.Steps.{ok_same, in_steps}
use Rattle.pep508_requirement_text.proofs.Sources.{source_found}

-- parts one behind the other
module _ (a b c d e f : List ℕ) where
  in_parts : (whole behind_a behind_b behind_c behind_d behind_e rest : List ℕ) → whole ≡ a ++ behind_a
      → behind_a ≡ b ++ behind_b → behind_b ≡ c ++ behind_c → behind_c ≡ d ++ behind_d
      → behind_d ≡ e ++ behind_e
      → behind_e ≡ f ++ rest → whole ≡ a ++ (b ++ (c ++ (d ++ (e ++ (f ++ rest)))))
  in_parts whole behind_a behind_b behind_c behind_d behind_e rest ea eb ec ed ee ef =
      ea ∙ ap (λ xs. a ++ xs) (eb ∙ ap (λ xs. b ++ xs) (ec ∙ ap (λ xs. c ++ xs) (ed ∙ ap (λ xs. d ++ xs)
      (ee ∙ ap (λ xs. e ++ xs) ef))))

pub front_found : (law : TextLaw) (text : List ℕ) (found : Front × List ℕ)
    → front_reading text ≡ Ok found → IsFrontText text found.0 found.1
unfolding front_reading
front_found law text found h =
    let cs : List ℕ = chars text in
    let before = spaces_found cs in
    let first = in_steps (name_at (skip_leading_whitespace cs)) (behind_name cs) found h in
    let parts : List ℕ × List ℕ = first.middle in
    let name = name_found (skip_leading_whitespace cs) parts first.first_is in
    let between = spaces_found parts.1 in
    let from : List ℕ = skip_leading_whitespace parts.1 in
    let second = in_steps (extras_at from) (behind_extras cs parts.0) found first.next_is in
    let read : List (List ℕ) × List ℕ = second.middle in
    let extras = extras_found from read second.first_is in
    let after = spaces_found read.1 in
    let left : List ℕ = skip_leading_whitespace read.1 in
    let third = in_steps (source_at cs parts.0 left) (with_source parts.0 read.0) found second.next_is in
    let last : Source × List ℕ = third.middle in
    let source = source_found law cs parts.0 left last third.first_is in
    let made : Front × List ℕ = (record { name = normal_name parts.0; extras = read.0; source = last.0 }, last.1) in
    let written : IsFrontText text made.0 made.1 = record {
      before = before.spaces;
      written = parts.0;
      behind_name = between.spaces;
      brackets = extras.brackets;
      behind_extras = after.spaces;
      asked = source.asked;
      split =
          in_parts before.spaces parts.0 between.spaces extras.brackets after.spaces source.asked cs
          (skip_leading_whitespace cs) parts.1 from read.1 left last.1 before.split name.split between.split extras.split
          after.split source.split;
      spaces_before = before.are_spaces;
      is_name = name.is_one;
      spaces_behind_name = between.are_spaces;
      are_extras = extras.are_extras;
      spaces_behind_extras = after.are_spaces;
      is_source = source.is_source;
    } in
    subst (λ (p : Front × List ℕ). IsFrontText text p.0 p.1) {x = made} (ok_same made found third.next_is) written
