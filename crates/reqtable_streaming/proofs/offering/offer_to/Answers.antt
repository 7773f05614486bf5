use Rattle.std.proofs.Common.{◌≡◌, ◌∙◌, ℕ, List, Some, false, ap, subst}
use Rattle.std.specs.List.{AllByRecursion}
use Rattle.std.specs.Str.{bytes_eq}
use Rattle.reqtable_streaming.specs.declared.required.Package.{Package}
use Rattle.reqtable_streaming.specs.Packages.{Finds, IsOffered, candidate_with}
use Rattle.reqtable_streaming.proofs.Offered.{not_offered, offered_at, names_kept}
use Rattle.reqtable_streaming.proofs.offering.offer_to.Goals as goal

pub returns-in_default-clause-offered : goal.returns-in_default-clause-offered
returns-in_default-clause-offered g c = λ admits by.
    let name = c.args.name.now.name.now in
    let P : List Package → Type 0 = AllByRecursion (λ p. bytes_eq p.name.now name ≡ false) in
    not_offered admits (candidate_with name c.args.version) c.args.packages.now.items
    (subst P c.deref.ensures.value c.in_default.ensures)

pub returns-clause-names : goal.returns-clause-names
returns-clause-names g c =
    let P : List Package → Type 0 = λ l. Finds l c.args.name.now.name.now (Some c.in-Some.place) in
    let found = subst P c.deref.ensures.value c.in-Some.ensures in
    names_kept c.args.packages.now.items c.in-Some.place c.index_mut.result.now c.offer.new.wanted found.0
    c.index_mut.ensures.value c.in_ok-offer.ensures.name

pub returns-clause-offered : goal.returns-clause-offered
returns-clause-offered g c = λ admits by.
    let P : List Package → Type 0 = λ l. Finds l c.args.name.now.name.now (Some c.in-Some.place) in
    let found = subst P c.deref.ensures.value c.in-Some.ensures in
    let was = c.index_mut.result.now in
    let there = c.index_mut.ensures.value in
    let name = c.args.name.now.name.now in
    let version = c.args.version in
    let named : was.name.now ≡ name = ap (λ (p : Package). p.name.now) there ∙ found.1 was in
    let Q : List ℕ → Type 0 = λ n. IsOffered admits (candidate_with n version) was c.offer.new.wanted in
    offered_at admits (candidate_with name version) c.args.packages.now.items c.in-Some.place was c.offer.new.wanted
    c.requires.rising found.0 there named (subst Q named (c.in_ok-offer.ensures.offered admits by))
