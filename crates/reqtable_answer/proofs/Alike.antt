-- Asks that say the same of each package have the same answers.
use Rattle.std.proofs.Common.{◌≡◌, ℕ, Bool, cond, not, ◌&&◌, List, [], ◌∷◌, filter, option_map, sym, ap}
use Rattle.std.proofs.Common.{subst, ◌∙◌}
use Rattle.std.specs.List.{list_any, list_all, enumerate_from, AllByRecursion}
use Rattle.std.specs.List.Sorted.{IsPermutation}
use Rattle.std.proofs.lemmas.List.Sorted.{list_any-IsPermutation}
use Rattle.reqtable_answer.proofs.Tests.{any_kept, all_any}
use Rattle.pep440_version.specs.Record.{VersionRecord}
use Rattle.pep508_requirement_text.specs.FrontReading.{Front}
use Rattle.reqtable_candidates.specs.declared.candidates.Candidate.{Candidate}
use Rattle.reqtable_answer.specs.Asks.{is_of, has_extra, has_url, ask_takes, has_prerelease, names_prerelease}
use Rattle.reqtable_answer.specs.Asks.{is_candidate}
use Rattle.reqtable_answer.specs.Answer.{Admits, RowRecord, IsRowOf, IsRow, IsAnswer, outcome_of, chosen}
use Rattle.reqtable_answer.specs.Answer.{first_greatest, by_version}
use Rattle.reqtable_answer.specs.declared.answer.Outcome.TheVariants.{Direct}

-- the same of one package
pub record SayTheSame (asks others : List Front) : Type 0 where
  pub extras : (extra : List ℕ) → list_any (has_extra extra) asks ≡ list_any (has_extra extra) others
  pub urls : list_any has_url asks ≡ list_any has_url others
  pub takes : (v : VersionRecord) → list_all (ask_takes v) asks ≡ list_all (ask_takes v) others
  pub prereleases : names_prerelease asks ≡ names_prerelease others

pub record AreAlike (asks others : List Front) : Type 0 where
  pub named : (name : List ℕ) → list_any (is_of name) asks ≡ list_any (is_of name) others
  pub same : (name : List ℕ) → SayTheSame (filter (is_of name) asks) (filter (is_of name) others)

module _ (admits : Admits) (candidates : List Candidate) where
  abbrev numbered : List ℕ → List (ℕ × Candidate)
  numbered name = filter (is_candidate name) (enumerate_from 0 candidates)

  same_outcome : (asks others : List Front) (own : List (ℕ × Candidate)) → SayTheSame asks others
      → outcome_of admits asks own ≡ outcome_of admits others own
  same_outcome asks others own same =
      λ i. cond (same.urls i) Direct (chosen (option_map (λ c. c.0)
      (first_greatest by_version (filter (λ c. same.takes c.1.version i && admits c.1.version (same.prereleases i)) own))))

  pub same_row : (asks others : List Front) → AreAlike asks others → (row : RowRecord)
      → IsRow admits asks candidates row → IsRow admits others candidates row
  same_row asks others alike row is = record {
    extras_rise = is.extras_rise;
    extras_are = λ extra. is.extras_are extra ∙ (alike.same row.name).extras extra;
    outcome = is.outcome ∙ same_outcome (filter (is_of row.name) asks) (filter (is_of row.name) others) (numbered row.name) (alike.same row.name);
  }

  -- a row goes by what is asked of its package
  pub row_by_its_asks : (asks others : List Front) (row : RowRecord)
      → filter (is_of row.name) asks ≡ filter (is_of row.name) others
      → IsRow admits asks candidates row → IsRow admits others candidates row
  row_by_its_asks asks others row same is = subst (λ xs. IsRowOf admits xs (numbered row.name) row) same is

  same_rows : (asks others : List Front) → AreAlike asks others → (rows : List RowRecord)
      → AllByRecursion (IsRow admits asks candidates) rows → AllByRecursion (IsRow admits others candidates) rows
  same_rows asks others alike [] all = tt
  same_rows asks others alike (row ∷ rows) all = (same_row asks others alike row all.0, same_rows asks others alike rows all.1)

  pub same_answer : (asks others : List Front) → AreAlike asks others → (rows : List RowRecord)
      → IsAnswer admits asks candidates rows → IsAnswer admits others candidates rows
  same_answer asks others alike rows is = record {
    rising = is.rising;
    asked = λ name. is.asked name ∙ alike.named name;
    each_row = same_rows asks others alike rows is.each_row;
  }

-- ---- another order

module _ (asks others : List Front) (moved : IsPermutation asks others) where
  any_moved : (f p : Front → Bool) → list_any f (filter p asks) ≡ list_any f (filter p others)
  any_moved f p = any_kept f p asks ∙ list_any-IsPermutation (λ x. p x && f x) asks others moved ∙ sym (any_kept f p others)

  all_moved : (f p : Front → Bool) → list_all f (filter p asks) ≡ list_all f (filter p others)
  all_moved f p = all_any f (filter p asks) ∙ ap not (any_moved (λ x. not (f x)) p) ∙ sym (all_any f (filter p others))

  pub moved_alike : AreAlike asks others
  moved_alike = record {
    named = λ name. list_any-IsPermutation (is_of name) asks others moved;
    same = λ name. record {
      extras = λ extra. any_moved (has_extra extra) (is_of name);
      urls = any_moved has_url (is_of name);
      takes = λ v. all_moved (ask_takes v) (is_of name);
      prereleases = any_moved has_prerelease (is_of name);
    };
  }
