-- What is known of markers stays right.
use Rattle.std.proofs.Common.{◌≡◌, ◌∙◌, ◌<◌, ◌⊎◌, ℕ, zero, suc, ◌==◌, if◌then◌else◌, Bool, true, false, List}
use Rattle.std.proofs.Common.{[], ◌∷◌, length, get_or, set, Option, Some, None, refl, sym, ap, subst, inl}
use Rattle.std.proofs.Common.{inr, arith}
use Rattle.std.proofs.lemmas.Bool.Decides.{nat_tests}
use Rattle.version_ranges.specs.Turns.{flips}
use Rattle.pep508_diagram.specs.Question.{Valuation}
use Rattle.pep508_tree.specs.Tree.{Tree}
use Rattle.pep508_tree.specs.Meaning.{NodeRecord, holds}
use Rattle.pep508_tree.specs.Nodes.{turned}
use Rattle.pep508_tree.proofs.Meanings.{holds_turned}
use Rattle.reqtable_marker_cache.specs.declared.known.Said.{Said}
use Rattle.reqtable_marker_cache.specs.Known.{plain, truth_at, AreKnown}

turned_plain : (place : ℕ) (negated : Bool) → turned negated (plain place) ≡ record { place = place; negated = negated }
turned_plain place true = refl
turned_plain place false = refl

-- a marker by the tree at its place
pub by_place : (nodes : List NodeRecord) (t : Tree) (v : Valuation) → holds nodes t v ≡ flips t.negated (holds nodes (plain t.place) v)
by_place nodes t v =
    sym (ap (λ t. holds nodes t v) (turned_plain t.place t.negated)) ∙ holds_turned nodes t.negated (plain t.place) v

twice : (turns b : Bool) → flips turns (flips turns b) ≡ b
twice true true = refl
twice true false = refl
twice false b = refl

-- and that tree by the marker
pub by_marker : (nodes : List NodeRecord) (t : Tree) (v : Valuation) → flips t.negated (holds nodes t v) ≡ holds nodes (plain t.place) v
by_marker nodes t v = ap (flips t.negated) (by_place nodes t v) ∙ twice t.negated (holds nodes (plain t.place) v)

same_some : {X : Type 0} (a b : X) → Some a ≡ Some b → a ≡ b
same_some a b e = cc

-- what is there after one is put there
set_or : {X : Type 0} (xs : List (Option X)) (place at : ℕ) (now found : X) → get_or (set xs place (Some now)) at None ≡ Some found
    → (now ≡ found) ⊎ (get_or xs at None ≡ Some found)
set_or [] place at now found h = inr h
set_or (x ∷ xs) zero zero now found h = inl (same_some now found h)
set_or (x ∷ xs) zero (suc at) now found h = inr h
set_or (x ∷ xs) (suc place) zero now found h = inr h
set_or (x ∷ xs) (suc place) (suc at) now found h = set_or xs place at now found h

-- what is known of a place is so
pub known_at : (nodes : List NodeRecord) (v : Valuation) (known : List (Option Said)) (slot place : ℕ) (truth : Bool) → AreKnown nodes v known
    → truth_at (get_or known slot None) place ≡ Some truth → truth ≡ holds nodes (plain place) v
known_at nodes v known slot place truth are h = by_entry (get_or known slot None) refl h
  where
    by_test : (said : Said) → get_or known slot None ≡ Some said → (b : Bool) → (said.place == place) ≡ b
        → (if b then Some said.holds else None) ≡ Some truth → truth ≡ holds nodes (plain place) v
    by_test said e true t h =
        let same : said.place ≡ place = grind (arith, nat_tests) in
        sym (same_some said.holds truth h) ∙ are slot said e ∙ ap (λ p. holds nodes (plain p) v) same
    by_test said e false t h = absurd (cc)

    by_entry : (entry : Option Said) → get_or known slot None ≡ entry → truth_at entry place ≡ Some truth
        → truth ≡ holds nodes (plain place) v
    by_entry None e h = absurd (cc)
    by_entry (Some said) e h = by_test said e (said.place == place) refl h

-- what is kept for a place is known of it
pub known_there : (place : ℕ) (truth : Bool) → truth_at (Some (record { place = place; holds = truth })) place ≡ Some truth
known_there place truth =
    let same : (place == place) ≡ true = grind (arith, nat_tests) in
    ap (λ b. if b then Some truth else None) same

-- one more is known
pub known_more : (nodes : List NodeRecord) (v : Valuation) (known : List (Option Said)) (slot : ℕ) (said : Said) → AreKnown nodes v known
    → said.holds ≡ holds nodes (plain said.place) v → AreKnown nodes v (set known slot (Some said))
known_more nodes v known slot said are is = λ at found h.
    elim (set_or known slot at said found h) [
      | inl now ↦ subst (λ (s : Said). s.holds ≡ holds nodes (plain s.place) v) now is
      | inr before ↦ are at found before
    ]

-- nothing is known yet
pub none_known : (nodes : List NodeRecord) (v : Valuation) (known : List (Option Said)) → ((slot : ℕ) → get_or known slot None ≡ None)
    → AreKnown nodes v known
none_known nodes v known none = λ slot said h. absurd (not_some said (sym (none slot) ∙ h))
  where
    not_some : (said : Said) → None ≡ Some said → ⊥
    not_some said e = absurd (cc)

pub nothing_known : (nodes : List NodeRecord) (v : Valuation) (known : List (Option Said)) → known ≡ [] → AreKnown nodes v known
nothing_known nodes v known e = none_known nodes v known (λ slot. ap (λ l. get_or l slot None) e)
