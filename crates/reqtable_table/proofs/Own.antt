-- A package's candidates in order.
use Rattle.std.proofs.Common.{◌≡◌, ◌∙◌, ◌<◌, ◌+◌, ℕ, true, false, cond, Option, List, [], ◌∷◌, filter, find}
use Rattle.std.proofs.Common.{length, option_map, refl, sym, ap, arith}
use Rattle.std.proofs.lemmas.List.Elements.{All-filter, All-from_recursion, recursion_from_All}
use Rattle.std.proofs.lemmas.List.Recursion.{is_sum_by}
use Rattle.std.proofs.lemmas.List.Sorted.{All-permutation, IsPermutation-sym, sum_by-IsPermutation}
use Rattle.std.specs.List.{list_any, sum_by, enumerate_from, AllByRecursion}
use Rattle.pep440_range.specs.Agreement.{IsSaid}
use Rattle.pep508_requirement_text.specs.FrontReading.{Front}
use Rattle.reqtable_candidates.specs.Candidates.{HavePrintableVersions}
use Rattle.reqtable_candidates.specs.Ordered.{AreInOrder}
use Rattle.reqtable_candidates.specs.declared.candidates.Candidate.{Candidate}
use Rattle.reqtable_answer.specs.Admission.{Admits}
use Rattle.reqtable_answer.specs.Answer.{outcome_of, chosen}
use Rattle.reqtable_answer.specs.Asks.{has_url, is_candidate, may_be_taken}
use Rattle.reqtable_answer.specs.declared.answer.Outcome.TheVariants.{Direct}
use Rattle.reqtable_answer.proofs.Ordered.{first_of_package, run_is_of_package}
use Rattle.reqtable_table.specs.Answers.{own_candidates, tests_for, most_tests}
use Rattle.reqtable_table.specs.Choosing.{outcome_in_order}

numbered : (P : Candidate → Type 0) (n : ℕ) (xs : List Candidate) → AllByRecursion P xs →
    AllByRecursion (λ c. P c.1) (enumerate_from n xs)
numbered P n [] h = tt
numbered P n (x ∷ xs) h = (h.0, numbered P (n + 1) xs h.1)

places : (count n : ℕ) (xs : List Candidate) → n + length xs ≡ count → AllByRecursion (λ c. c.0 < count) (enumerate_from n xs)
places count n [] e = tt
places count n (x ∷ xs) e = (omega arith, places count (n + 1) xs (omega arith))

as_sum : (asks : List Front) (cs : List (ℕ × Candidate)) → most_tests asks cs ≡ sum_by (tests_for asks) cs
as_sum asks = is_sum_by (most_tests asks) (tests_for asks) refl (λ c cs. refl)

-- ---- by candidates in order

pub direct_first : (admits : Admits) (asks : List Front) (run : List (ℕ × Candidate)) → list_any has_url asks ≡ true →
    Direct ≡ outcome_in_order admits asks run
direct_first admits asks run e =
    sym (ap (λ b. cond b Direct (chosen (option_map (λ c. c.0) (find (may_be_taken admits asks) run)))) e)

pub found_first : (admits : Admits) (asks : List Front) (run : List (ℕ × Candidate)) (found : Option ℕ) →
    list_any has_url asks ≡ false → found ≡ option_map (λ c. c.0) (find (may_be_taken admits asks) run) →
    chosen found ≡ outcome_in_order admits asks run
found_first admits asks run found none is =
    ap chosen is
    ∙ sym (ap (λ b. cond b Direct (chosen (option_map (λ c. c.0) (find (may_be_taken admits asks) run)))) none)

module _ (candidates : List Candidate) (placed : List (ℕ × Candidate)) (order : AreInOrder candidates placed) (name : List ℕ) where
  abbrev pub run : List (ℕ × Candidate)
  run = filter (is_candidate name) placed

  in_run : (P : ℕ × Candidate → Type 0) → AllByRecursion P (enumerate_from 0 candidates) → AllByRecursion P run
  in_run P h =
      let all : List (ℕ × Candidate) = enumerate_from 0 candidates in
      let turned = IsPermutation-sym placed all order.each in
      recursion_from_All P run (All-filter (is_candidate name) P placed
      (All-permutation P all placed turned (All-from_recursion P all h)))

  pub run_said : HavePrintableVersions candidates → AllByRecursion (λ c. IsSaid c.1.version) run
  run_said printable =
      in_run (λ c. IsSaid c.1.version) (numbered (λ c. IsSaid c.version) 0 candidates
      (recursion_from_All (λ c. IsSaid c.version) candidates
      (λ i c is. record { no_least = (printable i c is).no_least; no_most = (printable i c is).no_most })))

  pub run_below : AllByRecursion (λ c. c.0 < length candidates) run
  run_below = in_run (λ c. c.0 < length candidates) (places (length candidates) 0 candidates (omega arith))

  -- as many tests in order as in the list
  pub run_tests : (asks : List Front) → most_tests asks run ≡ most_tests asks (own_candidates candidates name)
  run_tests asks =
      let own = own_candidates candidates name in
      as_sum asks run
      ∙ sym (sum_by-IsPermutation (tests_for asks) run own (run_is_of_package candidates placed order name))
      ∙ sym (as_sum asks own)

  -- and the same outcome
  pub run_outcome : (admits : Admits) (asks : List Front) →
      outcome_in_order admits asks run ≡ outcome_of admits asks (own_candidates candidates name)
  run_outcome admits asks =
      ap (λ found. cond (list_any has_url asks) Direct (chosen (option_map (λ c. c.0) found)))
      (first_of_package candidates placed order name (may_be_taken admits asks))
