-- Trees that are named alike.
use Rattle.std.proofs.Common.{◌≡◌, ◌↔◌, ◌==◌, ◌&&◌, Bool, true, false, not, IsTrue, ℕ, refl, ap, sym, ◌∙◌}
use Rattle.std.proofs.Common.{arith}
use Rattle.std.proofs.lemmas.Grind.{common_steps}
use Rattle.std.proofs.lemmas.Bool.Decides.{nat_tests}
use mathlib.Core.Bool.{beq}
use Rattle.pep508_tree.specs.Tree.{Tree}

pub bools_alike : (a b : Bool) → beq a b ≡ true → a ≡ b
bools_alike true true e = refl
bools_alike true false e = absurd (cc)
bools_alike false true e = absurd (cc)
bools_alike false false e = refl

pub bools_apart : (a b : Bool) → beq a b ≡ false → b ≡ not a
bools_apart true true e = absurd (cc)
bools_apart true false e = refl
bools_apart false true e = refl
bools_apart false false e = absurd (cc)

both : (a b : Bool) → (a && b) ≡ true → (a ≡ true) × (b ≡ true)
both true b e = (refl, e)
both false b e = absurd (cc)

itself : (n : ℕ) (b : Bool) → ((n == n) && beq b b) ≡ true
itself n true = grind (arith, common_steps)
itself n false = grind (arith, common_steps)

pub same_trees : (a b : Tree) → IsTrue ((a.place == b.place) && beq a.negated b.negated) ↔ (a ≡ b)
same_trees a b = (
  λ h.
      let parts = both (a.place == b.place) (beq a.negated b.negated) h in
      let place : a.place ≡ b.place = grind (arith, nat_tests, parts.0) in
      let negated : a.negated ≡ b.negated = bools_alike a.negated b.negated parts.1 in
      λ i. record { place = place i; negated = negated i },
  λ e. ap (λ (x : Tree). (a.place == x.place) && beq a.negated x.negated) (sym e) ∙ itself a.place a.negated,
)
