-- A candidate is offered to the package of its name among packages with rising names.
use Rattle.std.proofs.Common.{◌≡◌, ◌∙◌, ℕ, ◌<◌, Bool, true, false, cond, ◌&&◌, Some, List, get_or, set, length, refl, sym, ap, subst}
use Rattle.std.specs.List.{AllByRecursion, AllZip, list_all}
use Rattle.std.specs.Str.{bytes_eq}
use Rattle.std.proofs.lemmas.Slice.Eq.{bytes_eq-Decides}
use Rattle.reqtable_candidates.specs.declared.candidates.Candidate.{Candidate}
use Rattle.reqtable_answer.specs.Admission.{Admits}
use Rattle.reqtable_answer.specs.Asks.{ask_takes}
use Rattle.reqtable_answer.specs.Groups.{exceeds}
use Rattle.reqtable_answer.specs.Says.{ask_seen}
use Rattle.reqtable_streaming.specs.declared.required.Package.{Package}
use Rattle.reqtable_streaming.specs.Packages.{AreRising, IsAsBefore, by_version, IsOffered, IsNextBy, IsNext, names_of}
use Rattle.reqtable_streaming.proofs.Lists.{zip_same, zip_set, names_set}

and_false : (a : Bool) → (a && false) ≡ false
and_false true = refl
and_false false = refl

module _ (admits : Admits) (candidate : Candidate) where
  -- a candidate that is not admitted
  pub kept_by : (wanted : Package) → admits candidate.version wanted.prerelease ≡ false → IsOffered admits candidate wanted wanted
  kept_by wanted refused =
      let above : Bool = exceeds by_version candidate wanted.best in
      let takes : Bool = list_all (λ ask. ask_takes candidate.version (ask_seen ask)) wanted.asks.items in
      record {
        name = refl;
        asks = refl;
        direct = refl;
        best = λ d.
            sym (ap (λ b. cond (above && (takes && b)) (Some candidate) wanted.best) refused
            ∙ ap (λ b. cond (above && b) (Some candidate) wanted.best) (and_false takes)
            ∙ ap (λ b. cond b (Some candidate) wanted.best) (and_false above));
      }

  -- a candidate that is admitted, higher and accepted
  pub taken_by : (old new : Package) → IsAsBefore old new → exceeds by_version candidate old.best ≡ true
      → list_all (λ ask. ask_takes candidate.version (ask_seen ask)) new.asks.items ≡ true
      → admits candidate.version old.prerelease ≡ true
      → IsOffered admits candidate old (record new { best = Some candidate })
  taken_by old new same above takes admitted =
      let asks : list_all (λ ask. ask_takes candidate.version (ask_seen ask)) old.asks.items ≡ true =
      ap (λ a. list_all (λ ask. ask_takes candidate.version (ask_seen ask)) a.items) (sym same.asks) ∙ takes in
      record {
        name = same.name;
        asks = same.asks;
        direct = same.direct;
        best = λ d i. cond (sym above i && (sym asks i && sym admitted i)) (Some candidate) old.best;
      }

  other : (wanted : Package) → bytes_eq wanted.name.now candidate.name ≡ false → IsNext admits candidate wanted wanted
  other wanted h = let P : Bool → Type 0 = λ b. IsNextBy b admits candidate wanted wanted in subst P (sym h) refl

  pub not_offered : (packages : List Package) → AllByRecursion (λ p. bytes_eq p.name.now candidate.name ≡ false) packages
      → AllZip (IsNext admits candidate) packages packages
  not_offered packages h = zip_same (λ p. p.name.now) (IsNext admits candidate) candidate.name other packages h

  pub offered_at : (packages : List Package) (place : ℕ) (was new : Package) → AreRising packages → place < length packages
      → was ≡ get_or packages place was → was.name.now ≡ candidate.name → IsOffered admits candidate was new
      → AllZip (IsNext admits candidate) packages (set packages place new)
  offered_at packages place was new rising within there named offered =
      let key : bytes_eq was.name.now candidate.name ≡ true = (bytes_eq-Decides was.name.now candidate.name).1 named in
      let P : Bool → Type 0 = λ b. IsNextBy b admits candidate was new in
      let Q : Package → Type 0 = λ p. IsNext admits candidate p new in
      zip_set (λ p. p.name.now) (IsNext admits candidate) candidate.name other packages place was new rising within
      (ap (λ (p : Package). p.name.now) (sym there) ∙ named) (subst Q there (subst P (sym key) offered))

pub names_kept : (packages : List Package) (place : ℕ) (was new : Package) → place < length packages
    → was ≡ get_or packages place was → new.name ≡ was.name → names_of (set packages place new) ≡ names_of packages
names_kept packages place was new within there same =
    names_set (λ p. p.name.now) packages place was new within
    (ap (λ n. n.now) same ∙ ap (λ (p : Package). p.name.now) there)
