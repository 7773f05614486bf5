-- What becomes of a package, by the tests that are asked of its candidates.
use Rattle.std.proofs.Common.{◌≡◌, ℕ, Bool, true, false, cond, ◌&&◌, List, Option, filter, option_map, sym}
use Rattle.std.proofs.Common.{ap, ◌∙◌}
use Rattle.std.proofs.lemmas.List.Folds.{list_all-map}
use Rattle.std.specs.List.{list_any}
use Rattle.std.specs.Cmp.{IsTotalOrder, on_total}
use Rattle.pep440_version.specs.OrderLaws.{version_cmp_total}
use Rattle.pep508_requirement_text.specs.FrontReading.{Front}
use Rattle.reqtable_candidates.specs.declared.candidates.Candidate.{Candidate}
use Rattle.reqtable_answer.specs.declared.answer.Outcome.TheVariants.{Direct}
use Rattle.reqtable_answer.specs.declared.ask.Ask.{Ask}
use Rattle.reqtable_answer.specs.Asks.{has_url, has_prerelease, ask_takes, may_be_taken}
use Rattle.reqtable_answer.specs.Answer.{Admits, first_greatest, by_version, chosen, outcome_of}
use Rattle.reqtable_answer.specs.Groups.{passes_by}
use Rattle.reqtable_answer.specs.Says.{ask_seen, asks_seen}
use Rattle.reqtable_answer.proofs.Tests.{any_mapped}

pub by_version_total : IsTotalOrder by_version
by_version_total = on_total (λ c. c.1.version) version_cmp_total

-- the tests by asks are those by what is seen of them
pub passes_same : (admits : Admits) (asks : List Ask) (prerelease : Bool)
    → prerelease ≡ list_any (λ ask. has_prerelease (ask_seen ask)) asks → passes_by admits asks prerelease ≡ may_be_taken admits (asks_seen asks)
passes_same admits asks prerelease h =
    let named = h ∙ sym (any_mapped has_prerelease ask_seen asks) in
    λ i c. sym (list_all-map (ask_takes c.1.version) ask_seen asks) i && admits c.1.version (named i)

pub direct_is : (admits : Admits) (asks : List Front) (candidates : List (ℕ × Candidate)) → list_any has_url asks ≡ true
    → Direct ≡ outcome_of admits asks candidates
direct_is admits asks candidates h =
    sym (ap (λ b. cond b Direct (chosen (option_map (λ c. c.0) (first_greatest by_version (filter (may_be_taken admits asks) candidates))))) h)

pub chosen_is : (admits : Admits) (asks : List Front) (candidates : List (ℕ × Candidate)) → list_any has_url asks ≡ false
    → (found : Option (ℕ × Candidate)) → found ≡ first_greatest by_version (filter (may_be_taken admits asks) candidates)
    → chosen (option_map (λ c. c.0) found) ≡ outcome_of admits asks candidates
chosen_is admits asks candidates h found is =
    ap (λ f. chosen (option_map (λ c. c.0) f)) is
    ∙ sym (ap (λ b. cond b Direct (chosen (option_map (λ c. c.0) (first_greatest by_version (filter (may_be_taken admits asks) candidates))))) h)
