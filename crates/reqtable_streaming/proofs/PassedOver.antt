-- Candidates that are known not to be higher than the best one of their package.
use Rattle.std.proofs.Common.{◌≡◌, ◌∙◌, ℕ, zero, suc, ◌<◌, ◌≤◌, true, false, cond, ◌&&◌, List, [], ◌∷◌, Some, None, Option, get_or, set, length, refl, sym, ap, subst, arith, true≢false, nat_cmp, nat_le, Less, Equal, Greater, Ordering}
use Rattle.std.proofs.lemmas.Bool.Decides.{nat_tests}
use Rattle.std.specs.Cmp.{ranks}
use Rattle.std.specs.List.{AllZip}
use Rattle.std.specs.Ordering.{MatchOrdering, is_gt}
use Rattle.pep440_version.specs.Packing.{packed}
use Rattle.pep440_version.proofs.PackedOrder.{packed_compare}
use Rattle.reqtable_candidates.specs.declared.candidates.Candidate.{Candidate}
use Rattle.reqtable_answer.specs.Admission.{Admits}
use Rattle.reqtable_answer.specs.Groups.{exceeds}
use Rattle.reqtable_streaming.specs.declared.required.Package.{Package}
use Rattle.reqtable_streaming.specs.Packages.{AreRising, IsWordOf, IsSound, IsPassedOver, IsNext, by_version, passes}
use Rattle.reqtable_streaming.proofs.Offered.{offered_at}

pub at_most : (n m : ℕ) → nat_le n m ≡ true → n ≤ m
at_most n m h = grind (arith, nat_tests)

not_gt_by : (o : Ordering) (x y : ℕ) → MatchOrdering o (x < y) (x ≡ y) (y < x) → x ≤ y → is_gt o ≡ false
not_gt_by Less x y m h = refl
not_gt_by Equal x y m h = refl
not_gt_by Greater x y m h = absurd (omega (arith, m, h))

not_above : (candidate : Candidate) (best : Option Candidate) (x y : ℕ) → packed candidate.version ≡ Some x → x ≤ y
    → IsWordOf (Some y) best → exceeds by_version candidate best ≡ false
not_above candidate None x y p h w = absurd w
not_above candidate (Some best) x y p h w =
    ap is_gt (sym (packed_compare candidate.version best.version x y p w)) ∙ not_gt_by (nat_cmp x y) x y (ranks x y) h

pub past_direct : (word : ℕ) (wanted : Package) → wanted.direct ≡ true → IsPassedOver word wanted
past_direct word wanted direct admits candidate p = record {
  name = refl;
  asks = refl;
  direct = refl;
  best = λ d. absurd (true≢false (sym direct ∙ d));
}

pub past_word : (word best : ℕ) (wanted : Package) → IsSound wanted → wanted.word ≡ Some best → word ≤ best
    → IsPassedOver word wanted
past_word word best wanted sound known h admits candidate p =
    let P : Option ℕ → Type 0 = λ w. IsWordOf w wanted.best in
    let below = not_above candidate wanted.best word best p h (subst P known sound.word) in
    record {
      name = refl;
      asks = refl;
      direct = refl;
      best = λ d. sym (ap (λ b. cond (b && passes admits wanted candidate) (Some candidate) wanted.best) below);
    }

set_same : (packages : List Package) (place : ℕ) (was : Package) → place < length packages → was ≡ get_or packages place was
    → set packages place was ≡ packages
set_same [] place was h e = refl
set_same (p ∷ packages) zero was h e = ap (λ q. q ∷ packages) e
set_same (p ∷ packages) (suc place) was h e = ap (λ ps. p ∷ ps) (set_same packages place was (omega (arith, h)) e)

pub past_at : (admits : Admits) (candidate : Candidate) (word : ℕ) (packages : List Package) (place : ℕ) (was : Package)
    → AreRising packages → place < length packages → was ≡ get_or packages place was → was.name.now ≡ candidate.name
    → packed candidate.version ≡ Some word → IsPassedOver word was → AllZip (IsNext admits candidate) packages packages
past_at admits candidate word packages place was rising within there named p over =
    let P : List Package → Type 0 = AllZip (IsNext admits candidate) packages in
    subst P (set_same packages place was within there)
    (offered_at admits candidate packages place was was rising within there named (over admits candidate p))
