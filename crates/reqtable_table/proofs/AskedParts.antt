-- Lines that are asked in two parts.
use Rattle.std.proofs.Common.{◌≡◌, ◌∙◌, ◌+◌, ◌&&◌, ℕ, Bool, true, false, List, [], ◌∷◌, ◌++◌, map, length}
use Rattle.std.proofs.Common.{refl, sym, ap, arith}
use Rattle.std.proofs.Math.Bool.{and-false}
use Rattle.std.proofs.Math.Path.{transport}
use Rattle.std.proofs.lemmas.List.{length-append, length-map, map-append}
use Rattle.std.proofs.lemmas.List.Concat.{flat_map-append}
use Rattle.std.proofs.lemmas.List.Folds.{list_all-append}
use Rattle.std.specs.List.{list_all, AllZip}
use Rattle.pep440_version.specs.Record.{VersionRecord}
use Rattle.pep508_requirement_text.specs.FrontReading.{Front}
use Rattle.reqtable_answer.specs.Asks.{specifiers_of, ask_takes}
use Rattle.pep508_cases.specs.Sets.{marked}
use Rattle.reqtable_cases.specs.Usable.{members_asked}
use Rattle.reqtable_table.specs.declared.kept.TableLine.{TableLine}
use Rattle.reqtable_table.specs.Answers.{SameLine}
use Rattle.reqtable_table.specs.Choosing.{case_asks, AskedMore}
use Rattle.reqtable_table.specs.Kept.{KeptLine, kept_front}
use Rattle.reqtable_table.specs.KeptLines.{line_record}
use Rattle.reqtable_table.proofs.AskedLines.{records, none_more, more_within}
use Rattle.reqtable_table.proofs.Counting.{tests_joined}

zip_joined : {A B : Type 0} (R : A → B → Type 0) (xs : List A) (ys : List B) (more : List A) (others : List B) →
    AllZip R xs ys → AllZip R more others → AllZip R (xs ++ more) (ys ++ others)
zip_joined R [] [] more others s t = t
zip_joined R [] (y ∷ ys) more others s t = absurd s
zip_joined R (x ∷ xs) [] more others s t = absurd s
zip_joined R (x ∷ xs) (y ∷ ys) more others s t = (s.0, zip_joined R xs ys more others s.1 t)

marked_joined : {A : Type 0} (front back : List Bool) (xs ys : List A) → length front ≡ length xs →
    marked (front ++ back) (xs ++ ys) ≡ marked front xs ++ marked back ys
marked_joined [] back [] ys e = refl
marked_joined [] back (x ∷ xs) ys e = absurd (omega arith)
marked_joined (b ∷ front) back [] ys e = absurd (omega arith)
marked_joined (true ∷ front) back (x ∷ xs) ys e = ap (λ l. x ∷ l) (marked_joined front back xs ys (omega arith))
marked_joined (false ∷ front) back (x ∷ xs) ys e = marked_joined front back xs ys (omega arith)

more_joined : (j k : ℕ) (front back was_front was_back : List KeptLine) → AskedMore j front was_front →
    AskedMore k back was_back → AskedMore (j + k) (front ++ back) (was_front ++ was_back)
more_joined j k front back was_front was_back one other =
    let a = one.tests in
    let b = other.tests in
    let c = tests_joined front back in
    let d = tests_joined was_front was_back in
    record { same = zip_joined SameLine front was_front back was_back one.same other.same; tests = omega arith }

module _ (marks front_marks back_marks : List Bool) (lines front back : List TableLine)
    (marks_are : marks ≡ front_marks ++ back_marks) (lines_are : lines ≡ front ++ back)
    (same : length front_marks ≡ length front) where
  abbrev front_asks : List Front
  front_asks = case_asks front_marks (records front)

  abbrev back_asks : List Front
  back_asks = case_asks back_marks (records back)

  abbrev all_asks : List Front
  all_asks = case_asks marks (records lines)

  asks_are : all_asks ≡ front_asks ++ back_asks
  asks_are =
      let long = length-map front line_record in
      (λ k. case_asks (marks_are k) ((ap records lines_are ∙ map-append line_record front back) k))
      ∙ ap (map kept_front) (marked_joined front_marks back_marks (records front) (records back) (omega arith))
      ∙ map-append kept_front (marked front_marks (records front)) (marked back_marks (records back))

  members_are : length (members_asked all_asks) ≡ length (members_asked front_asks) + length (members_asked back_asks)
  members_are =
      ap (λ asks. length (members_asked asks)) asks_are
      ∙ ap length (flat_map-append (λ a. specifiers_of a.source) front_asks back_asks)
      ∙ length-append (members_asked front_asks) (members_asked back_asks)

  pub both_asked : (front_now back_now : List TableLine) →
      AskedMore (length (members_asked front_asks)) (records front_now) (records front) →
      AskedMore (length (members_asked back_asks)) (records back_now) (records back) →
      AskedMore (length (members_asked all_asks)) (records (front_now ++ back_now)) (records lines)
  both_asked front_now back_now one other =
      let more =
      more_joined (length (members_asked front_asks)) (length (members_asked back_asks)) (records front_now)
      (records back_now) (records front) (records back) one other in
      let most = sym members_are in
      let was = sym (ap records lines_are ∙ map-append line_record front back) in
      let now = sym (map-append line_record front_now back_now) in
      transport (λ k. AskedMore (most k) (now k) (was k)) more

  pub back_asked : (back_now : List TableLine) →
      AskedMore (length (members_asked back_asks)) (records back_now) (records back) →
      AskedMore (length (members_asked all_asks)) (records (front ++ back_now)) (records lines)
  back_asked back_now other =
      both_asked front back_now
      (more_within 0 (length (members_asked front_asks)) (records front) (records front) (omega arith)
      (none_more 0 (records front))) other

  module _ (version : VersionRecord) where
    answer_of : (a b : Bool) → a ≡ list_all (ask_takes version) front_asks →
        b ≡ list_all (ask_takes version) back_asks → (a && b) ≡ list_all (ask_takes version) all_asks
    answer_of a b one other =
        (λ k. one k && other k)
        ∙ sym (ap (list_all (ask_takes version)) asks_are ∙ list_all-append (ask_takes version) front_asks back_asks)

    pub back_refuses : false ≡ list_all (ask_takes version) back_asks →
        false ≡ list_all (ask_takes version) all_asks
    back_refuses other =
        sym (and-false (list_all (ask_takes version) front_asks))
        ∙ answer_of (list_all (ask_takes version) front_asks) false refl other

    pub both_answer : (a : Bool) → a ≡ list_all (ask_takes version) front_asks →
        true ≡ list_all (ask_takes version) back_asks → a ≡ list_all (ask_takes version) all_asks
    both_answer true one other = answer_of true true one other
    both_answer false one other = answer_of false true one other
