-- The last of some numbers raised by one.
use Rattle.std.proofs.Common.{◌≡◌, ℕ, List, [], ◌∷◌, ◌++◌, Option, Some, None, refl, ap, sym, ◌∙◌}
use Rattle.std.specs.Option.{option_map}
use Rattle.pep440_text.specs.Releases.{raised, last_raised}

mapped_twice : {A B C : Type 0} (f : A → B) (g : B → C) (x : Option A)
    → option_map g (option_map f x) ≡ option_map (λ a. g (f a)) x
mapped_twice f g (Some a) = refl
mapped_twice f g None = refl

-- numbers that stand before the last are kept
behind_front : (front : List ℕ) (last : ℕ)
    → last_raised (front ++ last ∷ []) ≡ option_map (λ next. front ++ next ∷ []) (raised last)
behind_front [] last = refl
behind_front (number ∷ []) last = mapped_twice (λ next. next ∷ []) (λ later. number ∷ later) (raised last)
behind_front (number ∷ other ∷ front) last =
    ap (option_map (λ later. number ∷ later)) (behind_front (other ∷ front) last)
    ∙ mapped_twice (λ next. (other ∷ front) ++ next ∷ []) (λ later. number ∷ later) (raised last)

-- numbers behind which a last one stands, raised where that one is
pub raised_last : (numbers front : List ℕ) (last : ℕ) (next : Option ℕ) → numbers ≡ front ++ last ∷ []
    → next ≡ raised last
    → last_raised numbers ≡ option_map (λ n. front ++ n ∷ []) next
raised_last numbers front last next e f =
    ap last_raised e ∙ behind_front front last ∙ ap (option_map (λ n. front ++ n ∷ [])) (sym f)
