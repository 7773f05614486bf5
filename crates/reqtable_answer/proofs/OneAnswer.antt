-- What is asked has one answer.
use Rattle.std.proofs.Common.{◌≡◌, ℕ, List, [], ◌∷◌, map, filter, sym, ap, refl, ◌∙◌}
use Rattle.std.specs.List.{list_any, enumerate_from, AllByRecursion}
use Rattle.std.specs.List.Sorted.{IsStrictlySortedBy}
use Rattle.std.specs.BTreeSet.{BTreeSet}
use Rattle.std.specs.BTreeMap.{is_at}
use Rattle.std.specs.Ordering.{nat_cmp}
use Rattle.std.specs.Cmp.Lexicographic.{slice_cmp}
use Rattle.std.specs.Str.{bytes_eq}
use Rattle.std.proofs.lemmas.Cmp.{nat_list_cmp_total}
use Rattle.std.proofs.lemmas.Map.Lookups.{btree_set_from_contains, exact_bytes}
use Rattle.std.proofs.lemmas.Map.Text.{is_eq-slice_cmp}
use Rattle.pep508_requirement_text.specs.FrontReading.{Front}
use Rattle.reqtable_candidates.specs.declared.candidates.Candidate.{Candidate}
use Rattle.reqtable_answer.specs.Asks.{is_of, is_candidate}
use Rattle.reqtable_answer.specs.Answer.{Admits, RowRecord, IsRow, IsAnswer, IsAnswerText, answer_text}
use Rattle.reqtable_answer.specs.Answer.{outcome_of}

any_at : (q : List ℕ) (xs : List (List ℕ)) → list_any (is_at (slice_cmp nat_cmp q)) xs ≡ list_any (bytes_eq q) xs
any_at q [] = refl
any_at q (x ∷ xs) = rw (is_eq-slice_cmp q x, any_at q xs) refl

-- strictly rising lists of the same texts are the same list
pub same_texts : (xs ys : List (List ℕ)) → IsStrictlySortedBy (slice_cmp nat_cmp) xs → IsStrictlySortedBy (slice_cmp nat_cmp) ys
    → ((q : List ℕ) → list_any (bytes_eq q) xs ≡ list_any (bytes_eq q) ys) → xs ≡ ys
same_texts xs ys a b same =
    let s : BTreeSet (List ℕ) = record { keys = xs } in
    let t : BTreeSet (List ℕ) = record { keys = ys } in
    btree_set_from_contains nat_list_cmp_total s t a b (λ q. any_at q xs ∙ same q ∙ sym (any_at q ys)) exact_bytes

module _ (admits : Admits) (asks : List Front) (candidates : List Candidate) where
  one_row : (r s : RowRecord) → r.name ≡ s.name → IsRow admits asks candidates r → IsRow admits asks candidates s → r ≡ s
  one_row r s n a b =
      let extras : r.extras ≡ s.extras =
      same_texts r.extras s.extras a.extras_rise b.extras_rise
      (λ q. a.extras_are q ∙ ap (λ m. list_any (λ ask. list_any (bytes_eq q) ask.extras) (filter (is_of m) asks)) n ∙ sym (b.extras_are q)) in
      let outcome : r.outcome ≡ s.outcome = a.outcome ∙ ap (λ m. outcome_of admits (filter (is_of m) asks) (filter (is_candidate m) (enumerate_from 0 candidates))) n ∙ sym b.outcome in
      λ i. record { name = n i; extras = extras i; outcome = outcome i }

  one_list : (rs ss : List RowRecord) → map (λ row. row.name) rs ≡ map (λ row. row.name) ss
      → AllByRecursion (IsRow admits asks candidates) rs → AllByRecursion (IsRow admits asks candidates) ss → rs ≡ ss
  one_list [] [] h p q = refl
  one_list [] (s ∷ ss) h p q = absurd (cc)
  one_list (r ∷ rs) [] h p q = absurd (cc)
  one_list (r ∷ rs) (s ∷ ss) h p q =
      let first : r.name ≡ s.name = cc in
      let others : map (λ row. row.name) rs ≡ map (λ row. row.name) ss = cc in
      let one = one_row r s first p.0 q.0 in
      let rest = one_list rs ss others p.1 q.1 in
      λ i. one i ∷ rest i

  pub one_answer : (rs ss : List RowRecord) → IsAnswer admits asks candidates rs → IsAnswer admits asks candidates ss → rs ≡ ss
  one_answer rs ss a b =
      let names = same_texts (map (λ row. row.name) rs) (map (λ row. row.name) ss) a.rising b.rising (λ q. a.asked q ∙ sym (b.asked q)) in
      one_list rs ss names a.each_row b.each_row

  pub one_text : (a b : List ℕ) → IsAnswerText admits asks candidates a → IsAnswerText admits asks candidates b → a ≡ b
  one_text a b p q = p.2 ∙ ap (answer_text candidates) (one_answer p.0 q.0 p.1 q.1) ∙ sym q.2
