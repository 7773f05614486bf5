-- The variables of questions: what two orderings joined say, and which variables have one place.
use Rattle.std.proofs.Common.{◌≡◌, ℕ, ◌<◌, ◌==◌, true, false, cond, List, [], ◌∷◌, refl, sym, ap, ap₂, ◌∙◌}
use Rattle.std.proofs.Common.{true≢false, arith, Ordering, Less, Equal, Greater, is_eq, is_lt, is_gt, nat_cmp}
use Rattle.std.specs.Ordering.{ordering_then, then_cmp, eq_by_cmp}
use Rattle.version_ranges.specs.HashingLaws.{then_equal}
use Rattle.std.specs.Cmp.{IsTotalOrder, alike_right}
use Rattle.std.proofs.lemmas.Cmp.{ranked}
use Rattle.pep508_marker.specs.declared.keys.MarkerValueString.{MarkerValueString}
use Rattle.pep508_marker.specs.declared.keys.MarkerValueString.TheVariants.{ImplementationName, OsName}
use Rattle.pep508_marker.specs.declared.keys.MarkerValueString.TheVariants.{OsNameDeprecated, PlatformMachine}
use Rattle.pep508_marker.specs.declared.keys.MarkerValueString.TheVariants.{PlatformMachineDeprecated}
use Rattle.pep508_marker.specs.declared.keys.MarkerValueString.TheVariants.{PlatformPythonImplementation}
use Rattle.pep508_marker.specs.declared.keys.MarkerValueString.TheVariants.{PlatformPythonImplementationDeprecated}
use Rattle.pep508_marker.specs.declared.keys.MarkerValueString.TheVariants.{PythonImplementationDeprecated}
use Rattle.pep508_marker.specs.declared.keys.MarkerValueString.TheVariants.{PlatformRelease, PlatformSystem}
use Rattle.pep508_marker.specs.declared.keys.MarkerValueString.TheVariants.{PlatformVersion}
use Rattle.pep508_marker.specs.declared.keys.MarkerValueString.TheVariants.{PlatformVersionDeprecated}
use Rattle.pep508_marker.specs.declared.keys.MarkerValueString.TheVariants.{SysPlatform}
use Rattle.pep508_marker.specs.declared.keys.MarkerValueString.TheVariants.{SysPlatformDeprecated}
use Rattle.pep508_marker.specs.Keys.{text_key_rank}
use Rattle.pep508_diagram.specs.declared.variable.VersionVariable.{VersionVariable}
use Rattle.pep508_diagram.specs.declared.variable.VersionVariable.TheVariants.{ImplementationVersion}
use Rattle.pep508_diagram.specs.declared.variable.VersionVariable.TheVariants.{PythonFullVersion}
use Rattle.pep508_diagram.specs.declared.variable.Flag.{Flag}
use Rattle.pep508_diagram.specs.declared.variable.Flag.TheVariants.{In, Contains, Extra, Arbitrary}
use Rattle.pep508_diagram.specs.Text.{text_cmp}
use Rattle.pep508_diagram.specs.Question.{version_rank, flag_rank, flag_text, flag_place}

-- ---- orderings

pub not_less : Equal ≡ Less → ⊥
not_less e = true≢false (ap is_eq e)

pub apart_then : (o p : Ordering) → is_eq o ≡ false → is_eq (ordering_then o p) ≡ false
apart_then Less p free = refl
apart_then Equal p free = absurd (true≢false free)
apart_then Greater p free = refl

pub equal_from : (o : Ordering) → is_eq o ≡ true → o ≡ Equal
equal_from Less e = absurd (true≢false (sym e))
equal_from Equal e = refl
equal_from Greater e = absurd (true≢false (sym e))

-- the first order decides between items that it tells apart
pub less_from : (o p : Ordering) → ordering_then o p ≡ Less → is_eq o ≡ false → o ≡ Less
less_from Less p e free = refl
less_from Equal p e free = absurd (true≢false free)
less_from Greater p e free = e

-- items that the first order does not tell apart are neighbours
module _ {K : Type 0} {R : K → K → Ordering} (S : K → K → Ordering) (total : IsTotalOrder R) where
  pub apart_by : (x y z : K) (o : Ordering) → R y z ≡ o → ordering_then o (S y z) ≡ Less → R x y ≡ Less →
      is_eq (R x z) ≡ false
  apart_by x y z Less e less first = ap is_eq (total.trans x y z first e)
  apart_by x y z Equal e less first = ap is_eq (sym (alike_right total y z x e) ∙ first)
  apart_by x y z Greater e less first = absurd (true≢false (sym (ap is_lt less)))

  pub neighbours : (x y z : K) → then_cmp R S x y ≡ Less → eq_by_cmp R x y ≡ false → then_cmp R S y z ≡ Less →
      eq_by_cmp R x z ≡ false
  neighbours x y z first free second =
      apart_by x y z (R y z) refl second (less_from (R x y) (S x y) first free)

-- ---- texts and ranks

pub numbers_same : (m n : ℕ) → nat_cmp m n ≡ Equal → m ≡ n
numbers_same m n e = ranked m n Equal (sym e)

pub texts_same : (xs ys : List ℕ) → text_cmp xs ys ≡ Equal → xs ≡ ys
texts_same [] [] e = refl
texts_same [] (y ∷ ys) e = absurd (not_less (sym e))
texts_same (x ∷ xs) [] e = absurd (true≢false (ap is_gt e))
texts_same (x ∷ xs) (y ∷ ys) e =
    let parts = then_equal (nat_cmp x y) (text_cmp xs ys) e in
    ap₂ (λ n ns. n ∷ ns) (numbers_same x y parts.0) (texts_same xs ys parts.1)

-- ---- keys and flags

-- the keys by their ranks
abbrev pub version_at : ℕ → VersionVariable
version_at n = cond (n == 0) ImplementationVersion PythonFullVersion

abbrev pub text_at : ℕ → MarkerValueString
text_at n =
    cond (n == 0) ImplementationName (cond (n == 1) OsName (cond (n == 2) OsNameDeprecated
    (cond (n == 3) PlatformMachine (cond (n == 4) PlatformMachineDeprecated
    (cond (n == 5) PlatformPythonImplementation (cond (n == 6) PlatformPythonImplementationDeprecated
    (cond (n == 7) PythonImplementationDeprecated (cond (n == 8) PlatformRelease (cond (n == 9) PlatformSystem
    (cond (n == 10) PlatformVersion (cond (n == 11) PlatformVersionDeprecated
    (cond (n == 12) SysPlatform SysPlatformDeprecated))))))))))))

pub version_at_rank : (k : VersionVariable) → version_at (version_rank k) ≡ k
version_at_rank ImplementationVersion = refl
version_at_rank PythonFullVersion = refl

pub text_at_rank : (k : MarkerValueString) → text_at (text_key_rank k) ≡ k
text_at_rank ImplementationName = refl
text_at_rank k = refl

pub rank_below : (k : MarkerValueString) → text_key_rank k < 14
rank_below ImplementationName = omega arith
rank_below k = omega arith

pub version_rank_below : (k : VersionVariable) → version_rank k < 2
version_rank_below ImplementationVersion = omega arith
version_rank_below PythonFullVersion = omega arith

pub flag_rank_from : (f : Flag) → 15 < flag_rank f
flag_rank_from (In k t) = omega arith
flag_rank_from (Contains k t) = omega arith
flag_rank_from (Extra t) = omega arith
flag_rank_from (Arbitrary t) = omega arith

pub versions_same : (k j : VersionVariable) → version_rank k ≡ version_rank j → k ≡ j
versions_same k j e = sym (version_at_rank k) ∙ ap version_at e ∙ version_at_rank j

pub text_keys_same : (k j : MarkerValueString) → text_key_rank k ≡ text_key_rank j → k ≡ j
text_keys_same k j e = sym (text_at_rank k) ∙ ap text_at e ∙ text_at_rank j

pub flags_same : (f g : Flag) → flag_rank f ≡ flag_rank g → flag_text f ≡ flag_text g → f ≡ g
flags_same (In k t) (In j u) e same = ap₂ In (text_keys_same k j (omega arith)) same
flags_same (In k t) (Contains j u) e same = absurd (omega (arith, rank_below k))
flags_same (In k t) (Extra u) e same = absurd (omega (arith, rank_below k))
flags_same (In k t) (Arbitrary u) e same = absurd (omega (arith, rank_below k))
flags_same (Contains k t) (In j u) e same = absurd (omega (arith, rank_below j))
flags_same (Contains k t) (Contains j u) e same = ap₂ Contains (text_keys_same k j (omega arith)) same
flags_same (Contains k t) (Extra u) e same = absurd (omega (arith, rank_below k))
flags_same (Contains k t) (Arbitrary u) e same = absurd (omega (arith, rank_below k))
flags_same (Extra t) (In j u) e same = absurd (omega (arith, rank_below j))
flags_same (Extra t) (Contains j u) e same = absurd (omega (arith, rank_below j))
flags_same (Extra t) (Extra u) e same = ap Extra same
flags_same (Extra t) (Arbitrary u) e same = absurd (omega arith)
flags_same (Arbitrary t) (In j u) e same = absurd (omega (arith, rank_below j))
flags_same (Arbitrary t) (Contains j u) e same = absurd (omega (arith, rank_below j))
flags_same (Arbitrary t) (Extra u) e same = absurd (omega arith)
flags_same (Arbitrary t) (Arbitrary u) e same = ap Arbitrary same

pub flag_from_place : (f g : Flag) → text_cmp (flag_place f) (flag_place g) ≡ Equal → f ≡ g
flag_from_place f g e =
    let parts = then_equal (nat_cmp (flag_rank f) (flag_rank g)) (text_cmp (flag_text f) (flag_text g)) e in
    flags_same f g (numbers_same (flag_rank f) (flag_rank g) parts.0)
    (texts_same (flag_text f) (flag_text g) parts.1)
