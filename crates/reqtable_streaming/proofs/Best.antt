-- The best candidate of a package, while candidates are offered to it.
use Rattle.std.proofs.Common.{◌≡◌, ◌∙◌, ℕ, ◌+◌, Bool, true, false, cond, ◌&&◌, List, [], ◌∷◌, ◌++◌, filter, length, Option, Some, None, option_map, append-nil, refl, sym, ap, subst, arith}
use Rattle.std.proofs.lemmas.List.Elements.{filter-append}
use Rattle.std.specs.List.{AllByRecursion, AllZip, enumerate_from}
use Rattle.std.specs.Ordering.{is_gt}
use Rattle.std.specs.Str.{bytes_eq}
use Rattle.pep440_version.specs.Order.{version_cmp}
use Rattle.pep508_requirement_text.specs.FrontReading.{Front}
use Rattle.reqtable_candidates.specs.declared.candidates.Candidate.{Candidate}
use Rattle.reqtable_answer.specs.Admission.{Admits}
use Rattle.reqtable_answer.specs.Answer as answer
use Rattle.reqtable_answer.specs.Asks.{is_of, is_candidate, may_be_taken}
use Rattle.reqtable_answer.specs.Groups.{better_of}
use Rattle.reqtable_answer.specs.Says.{asks_seen}
use Rattle.reqtable_answer.proofs.Greatest.{IsBest, best_better, first_greatest-best}
use Rattle.reqtable_answer.proofs.Passing.{by_version_total, passes_same}
use Rattle.reqtable_streaming.specs.declared.required.Package.{Package}
use Rattle.reqtable_streaming.specs.Packages.{IsSound, IsNew, IsOffered, IsNextBy, IsNext, HasBest, by_version, passes}
use Rattle.reqtable_streaming.proofs.Lists.{all_mapped, all_next}

-- ---- one more candidate of a list

numbered_more : {X : Type 0} (n : ℕ) (xs : List X) (x : X) → enumerate_from n (xs ++ x ∷ []) ≡ enumerate_from n xs ++ (n + length xs, x) ∷ []
numbered_more {X = X} n [] x =
    let same : n ≡ n + 0 = omega arith in
    let one : ℕ → List (ℕ × X) = λ m. (m, x) ∷ [] in
    ap one same
numbered_more {X = X} n (y ∷ ys) x =
    let same : n + 1 + length ys ≡ n + length (y ∷ ys) = omega arith in
    let behind : ℕ → List (ℕ × X) = λ m. (n, y) ∷ (enumerate_from (n + 1) ys ++ (m, x) ∷ []) in
    ap (λ l. (n, y) ∷ l) (numbered_more (n + 1) ys x) ∙ ap behind same

-- the candidates of a package, with their places
abbrev pub of_package : List ℕ → List Candidate → List (ℕ × Candidate)
of_package name candidates = filter (is_candidate name) (enumerate_from 0 candidates)

more : (name : List ℕ) (candidates : List Candidate) (candidate : Candidate) (b : Bool) → bytes_eq name candidate.name ≡ b
    → of_package name (candidates ++ candidate ∷ []) ≡ of_package name candidates ++ cond b ((0 + length candidates, candidate) ∷ []) []
more name candidates candidate b e =
    let n : ℕ × Candidate = (0 + length candidates, candidate) in
    let before : List (ℕ × Candidate) = of_package name candidates in
    ap (filter (is_candidate name)) (numbered_more 0 candidates candidate)
    ∙ filter-append (is_candidate name) (enumerate_from 0 candidates) (n ∷ [])
    ∙ ap (λ k. before ++ cond k (n ∷ []) []) e

-- ---- the best one with its place, and without it

unnumbered : (b : Bool) (n : ℕ × Candidate) (found : Option (ℕ × Candidate))
    → cond b (Some n.1) (option_map (λ f. f.1) found) ≡ option_map (λ f. f.1) (cond b (Some n) found)
unnumbered true n found = refl
unnumbered false n found = refl

better_unnumbered : (t : ℕ × Candidate → Bool) (u : Candidate → Bool) (n : ℕ × Candidate) → u n.1 ≡ t n → (found : Option (ℕ × Candidate))
    → better_of by_version u n.1 (option_map (λ f. f.1) found) ≡ option_map (λ f. f.1) (better_of answer.by_version t n found)
better_unnumbered t u n e None = ap (λ b. cond b (Some n.1) None) e ∙ unnumbered (t n) n None
better_unnumbered t u n e (Some y) =
    let above : Bool = is_gt (version_cmp n.1.version y.1.version) in
    ap (λ b. cond (above && b) (Some n.1) (Some y.1)) e ∙ unnumbered (above && t n) n (Some y)

-- ---- what is kept

module _ (admits : Admits) (all : List Front) where
  abbrev pub IsKept : List Front → List (ℕ × Candidate) → Option Candidate → Type 0
  IsKept asks own best =
      (found : Option (ℕ × Candidate)) × IsBest answer.by_version (filter (may_be_taken admits asks) own) found
      × (best ≡ option_map (λ f. f.1) found)

  -- a package while some candidates were read
  pub record KeepsBest (candidates : List Candidate) (wanted : Package) : Type 0 where
    pub asks : asks_seen wanted.asks.items ≡ filter (is_of wanted.name.now) all
    pub best : wanted.direct ≡ false → IsKept (asks_seen wanted.asks.items) (of_package wanted.name.now candidates) wanted.best

  pub begins : (wanted : Package) → IsNew all wanted → KeepsBest [] wanted
  begins wanted new = record { asks = new.asks; best = λ d. (None, refl, new.best) }

  ended_by : (asks : List Front) (own : List (ℕ × Candidate)) (best : Option Candidate) → IsKept asks own best
      → best ≡ option_map (λ f. f.1) (answer.first_greatest answer.by_version (filter (may_be_taken admits asks) own))
  ended_by asks own best kept =
      kept.2 ∙ ap (option_map (λ f. f.1)) (sym (first_greatest-best by_version_total (filter (may_be_taken admits asks) own) kept.0 kept.1))

  pub ended : (candidates : List Candidate) (wanted : Package) → KeepsBest candidates wanted → HasBest admits all candidates wanted
  ended candidates wanted keeps = record {
    asks = keeps.asks;
    best = λ d. ended_by (asks_seen wanted.asks.items) (of_package wanted.name.now candidates) wanted.best (keeps.best d);
  }

  -- a candidate of the package is offered
  module _ (candidates : List Candidate) (candidate : Candidate) (old new : Package) where
    taken_or_not : IsSound old → IsOffered admits candidate old new → bytes_eq old.name.now candidate.name ≡ true → old.direct ≡ false
        → IsKept (asks_seen old.asks.items) (of_package old.name.now candidates) old.best
        → IsKept (asks_seen old.asks.items) (of_package old.name.now (candidates ++ candidate ∷ [])) new.best
    taken_or_not sound offered named d kept =
        let asks = asks_seen old.asks.items in
        let own = of_package old.name.now candidates in
        let n : ℕ × Candidate = (0 + length candidates, candidate) in
        let test : ℕ × Candidate → Bool = may_be_taken admits asks in
        let next : Option (ℕ × Candidate) = better_of answer.by_version test n kept.0 in
        let same : passes admits old candidate ≡ test n =
        ap (λ (f : ℕ × Candidate → Bool). f (0, candidate)) (passes_same admits old.asks.items old.prerelease sound.prerelease) in (
          next,
          best_better by_version_total test own (of_package old.name.now (candidates ++ candidate ∷ [])) n kept.0 next
              (more old.name.now candidates candidate true named) refl kept.1,
          offered.best d ∙ ap (better_of by_version (passes admits old) candidate) kept.2
              ∙ better_unnumbered test (passes admits old) n same kept.0,
        )

    offered_one : IsSound old → IsOffered admits candidate old new → bytes_eq old.name.now candidate.name ≡ true
        → KeepsBest candidates old → KeepsBest (candidates ++ candidate ∷ []) new
    offered_one sound offered named keeps = record {
      asks =
          ap (λ a. asks_seen a.items) offered.asks ∙ keeps.asks ∙ ap (λ n. filter (is_of n.now) all) (sym offered.name);
      best = λ d.
          let P : List Front → Type 0 = λ asks. IsKept asks (of_package new.name.now (candidates ++ candidate ∷ [])) new.best in
          let Q : List ℕ → Type 0 = λ name. IsKept (asks_seen old.asks.items) (of_package name (candidates ++ candidate ∷ [])) new.best in
          let before : old.direct ≡ false = sym offered.direct ∙ d in
          subst P (sym (ap (λ a. asks_seen a.items) offered.asks))
          (subst Q (sym (ap (λ n. n.now) offered.name)) (taken_or_not sound offered named before (keeps.best before)));
    }

    passed_over : new ≡ old → bytes_eq old.name.now candidate.name ≡ false → KeepsBest candidates old
        → KeepsBest (candidates ++ candidate ∷ []) new
    passed_over e named keeps =
        let grown : of_package old.name.now (candidates ++ candidate ∷ []) ≡ of_package old.name.now candidates =
        more old.name.now candidates candidate false named ∙ append-nil (of_package old.name.now candidates) in
        let P : List (ℕ × Candidate) → Type 0 = λ own. IsKept (asks_seen old.asks.items) own old.best in
        let still : KeepsBest (candidates ++ candidate ∷ []) old =
        record { asks = keeps.asks; best = λ d. subst P (sym grown) (keeps.best d) } in
        subst (KeepsBest (candidates ++ candidate ∷ [])) (sym e) still

    next_by : (b : Bool) → bytes_eq old.name.now candidate.name ≡ b → IsNextBy b admits candidate old new → IsSound old
        → KeepsBest candidates old → KeepsBest (candidates ++ candidate ∷ []) new
    next_by true e next sound keeps = offered_one sound next e keeps
    next_by false e next sound keeps = passed_over next e keeps

  sound_and : (P : Package → Type 0) (packages : List Package) → AllByRecursion IsSound packages → AllByRecursion P packages
      → AllByRecursion (λ p. IsSound p × P p) packages
  sound_and P [] s h = tt
  sound_and P (p ∷ packages) s h = ((s.0, h.0), sound_and P packages s.1 h.1)

  -- a candidate is offered to its package among all
  pub each_next : (candidates : List Candidate) (candidate : Candidate) (old new : List Package) → AllByRecursion IsSound old
      → AllZip (IsNext admits candidate) old new → AllByRecursion (KeepsBest candidates) old
      → AllByRecursion (KeepsBest (candidates ++ candidate ∷ [])) new
  each_next candidates candidate old new sound next keeps =
      all_next (IsNext admits candidate) (λ p. IsSound p × KeepsBest candidates p) (KeepsBest (candidates ++ candidate ∷ []))
      (λ o n r h. next_by candidates candidate o n (bytes_eq o.name.now candidate.name) refl r h.0 h.1) old new next
      (sound_and (KeepsBest candidates) old sound keeps)

  pub all_begin : (packages : List Package) → AllByRecursion (IsNew all) packages → AllByRecursion (KeepsBest []) packages
  all_begin packages h = all_mapped (IsNew all) (KeepsBest []) packages begins h

  pub all_ended : (candidates : List Candidate) (packages : List Package) → AllByRecursion (KeepsBest candidates) packages
      → AllByRecursion (HasBest admits all candidates) packages
  all_ended candidates packages h = all_mapped (KeepsBest candidates) (HasBest admits all candidates) packages (ended candidates) h
