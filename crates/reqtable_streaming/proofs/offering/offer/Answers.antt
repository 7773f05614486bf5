use Rattle.std.proofs.Common.{◌≡◌, ◌∙◌, ℕ, List, Some, true, false, sym, ap, subst}
use Rattle.std.specs.List.{list_all}
use Rattle.reqtable_answer.specs.Asks.{ask_takes}
use Rattle.reqtable_answer.specs.Says.{ask_seen}
use Rattle.reqtable_candidates.specs.declared.candidates.Candidate.{Candidate}
use Rattle.reqtable_streaming.specs.Packages.{IsOffered, candidate_with}
use Rattle.reqtable_streaming.proofs.Offered.{kept_by, taken_by}
use Rattle.reqtable_streaming.proofs.offering.offer.Goals as goal

pub returns-then-not-admits-clause-offered : goal.returns-then-not-admits-clause-offered
returns-then-not-admits-clause-offered g c = λ admits by.
    let wanted = c.args.wanted.now in
    let refused : admits c.args.version wanted.prerelease ≡ false =
    sym (c.admits.ensures admits by) ∙ c.if-not-admits.true in
    kept_by admits (candidate_with wanted.name.now c.args.version) wanted refused

pub returns-in_ok-name-clause-offered : goal.returns-in_ok-name-clause-offered
returns-in_ok-name-clause-offered g c = λ admits by.
    let old = c.args.wanted.now in
    let new = c.prepare.new.wanted in
    let version = c.args.version in
    let candidate : Candidate = candidate_with old.name.now version in
    let same = c.in_ok-prepare.ensures.same in
    let admitted : admits version old.prerelease ≡ true = sym (c.admits.ensures admits by) ∙ c.if-not-admits.false in
    let taken = taken_by admits candidate old new same (sym c.is_greater.ensures ∙ c.if-not-is_greater.false)
    (sym (c.in_ok-accept.ensures ∙ ap (list_all (λ ask. ask_takes version (ask_seen ask))) c.deref.ensures.value) ∙ c.if-branch.true)
    admitted in
    let copied : c.in_ok-name.name ≡ old.name.now = c.in_ok-name.ensures ∙ ap (λ n. n.now) same.name in
    let P : List ℕ → Type 0 = λ n. IsOffered admits candidate old (record new { best = Some (candidate_with n version) }) in
    let told = subst P (sym copied) taken in
    record { name = told.name; asks = told.asks; direct = told.direct; best = told.best }
