-- The project's directory, looked for from variable to variable.
use Rattle.std.proofs.Common.{◌≡◌, ◌∙◌, ◌<◌, ◌≤◌, ◌+◌, ◌∷◌, ℕ, true, false, List, length, map, drop, suc}
use Rattle.std.proofs.Common.{get_or, ap, sym, codes, drop-cons, add-one}
use Rattle.std.proofs.lemmas.List.{drop_all}
use Rattle.reqs_command.specs.Variables.{is_root, root_in}

module _ {A : Type 0} (seen : A → List ℕ × List ℕ) (all : List A) (i : ℕ) where
  module _ (d : A) (below : i < length all) where
    next : root_in (map seen (drop i all)) ≡ root_in (seen (get_or all i d) ∷ map seen (drop (suc i) all))
    next = ap (λ rest. root_in (map seen rest)) (drop-cons all i d below)

    -- a variable that names it is the first that does
    pub found : is_root (seen (get_or all i d)) ≡ true → root_in (map seen (drop i all)) ≡ root_in (map seen all)
        → (seen (get_or all i d)).1 ≡ root_in (map seen all)
    found is before = sym (rw is at next) ∙ before

    -- one that doesn't is passed over
    pub passed : is_root (seen (get_or all i d)) ≡ false → root_in (map seen (drop i all)) ≡ root_in (map seen all)
        → root_in (map seen (drop (i + 1) all)) ≡ root_in (map seen all)
    passed is before = rw (add-one i) (sym (rw is at next) ∙ before)

  -- where none is left, none does
  pub none_left : length all ≤ i → root_in (map seen (drop i all)) ≡ root_in (map seen all)
      → codes "/" ≡ root_in (map seen all)
  none_left past before = sym (ap (λ rest. root_in (map seen rest)) (drop_all i all past)) ∙ before
