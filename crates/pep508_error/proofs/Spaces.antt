-- White space that is skipped at the front.
use Rattle.std.proofs.Common.{◌≡◌, ℕ, Bool, true, false, cond, List, [], ◌∷◌, ◌++◌, refl, ap, sym, ◌∙◌}
use Rattle.std.proofs.lemmas.List.{append-nil}
use Rattle.std.specs.Char.{is_whitespace}
use Rattle.std.specs.List.{AllByRecursion}
use Rattle.std.specs.Str.{skip_leading_whitespace}
use Rattle.pep508_error.specs.Cuts.{begins_by}

-- white space alone
abbrev pub AllSpaces : List ℕ → Type 0
AllSpaces = AllByRecursion (λ c. is_whitespace c ≡ true)

-- no white space stands first
abbrev pub Unspaced : List ℕ → Type 0
Unspaced cs = begins_by is_whitespace cs ≡ false

pub record Skipped (cs : List ℕ) : Type 0 where
  pub spaces : List ℕ
  pub are_spaces : AllSpaces spaces
  pub split : cs ≡ spaces ++ skip_leading_whitespace cs
  pub unspaced : Unspaced (skip_leading_whitespace cs)

skipped_by : (c : ℕ) (cs : List ℕ) (t : Bool) → is_whitespace c ≡ t → Skipped cs → Skipped (c ∷ cs)
skipped_by c cs true e s =
    let skips : skip_leading_whitespace (c ∷ cs) ≡ skip_leading_whitespace cs =
    ap (λ t. cond t (skip_leading_whitespace cs) (c ∷ cs)) e in
    record {
      spaces = c ∷ s.spaces;
      are_spaces = (e, s.are_spaces);
      split = ap (λ ds. c ∷ ds) s.split ∙ ap (λ ds. c ∷ (s.spaces ++ ds)) (sym skips);
      unspaced = ap (begins_by is_whitespace) skips ∙ s.unspaced;
    }
skipped_by c cs false e s =
    let keeps : skip_leading_whitespace (c ∷ cs) ≡ c ∷ cs =
    ap (λ t. cond t (skip_leading_whitespace cs) (c ∷ cs)) e in
    record {
      spaces = [];
      are_spaces = tt;
      split = sym keeps;
      unspaced = ap (begins_by is_whitespace) keeps ∙ e;
    }

pub spaces_found : (cs : List ℕ) → Skipped cs
spaces_found [] = record { spaces = []; are_spaces = tt; split = refl; unspaced = refl }
spaces_found (c ∷ cs) = skipped_by c cs (is_whitespace c) refl (spaces_found cs)

pub unspaced_same : (cs : List ℕ) → Unspaced cs → skip_leading_whitespace cs ≡ cs
unspaced_same [] h = refl
unspaced_same (c ∷ cs) h = ap (λ t. cond t (skip_leading_whitespace cs) (c ∷ cs)) h

pub spaces_again : (spaces rest : List ℕ) → AllSpaces spaces → Unspaced rest
    → skip_leading_whitespace (spaces ++ rest) ≡ rest
spaces_again [] rest h k = unspaced_same rest k
spaces_again (c ∷ cs) rest h k =
    ap (λ t. cond t (skip_leading_whitespace (cs ++ rest)) (c ∷ (cs ++ rest))) h.0 ∙ spaces_again cs rest h.1 k

pub skipped_front : (spaces rest : List ℕ) → AllSpaces spaces
    → skip_leading_whitespace (spaces ++ rest) ≡ skip_leading_whitespace rest
skipped_front [] rest h = refl
skipped_front (c ∷ cs) rest h =
    ap (λ t. cond t (skip_leading_whitespace (cs ++ rest)) (c ∷ (cs ++ rest))) h.0 ∙ skipped_front cs rest h.1

pub only_spaces : (spaces : List ℕ) → AllSpaces spaces → skip_leading_whitespace spaces ≡ []
only_spaces spaces h = ap skip_leading_whitespace (sym (append-nil spaces)) ∙ spaces_again spaces [] h refl
