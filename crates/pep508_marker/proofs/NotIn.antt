-- What follows `not`, by the words of std.
use Rattle.std.proofs.Common.{◌≡◌, Bool, true, false, if◌then◌else◌, eqb, ℕ, List, codes, length, drop}
use Rattle.std.proofs.Common.{Option, Some, None, option_copied, ap, sym, ◌∙◌}
use Rattle.std.specs.Prelude.{MatchOption, IsCharBoundary}
use Rattle.std.specs.Borrow.{Bor}
use Rattle.std.specs.List.{starts_with}
use Rattle.std.specs.Str.Pattern.{FindsTextPrefix, StripsPrefix}
use Rattle.std.proofs.lemmas.Str.Pattern.{starts_text}
use Rattle.pep508_marker.specs.Operators.{behind_not}

behind_by : (text : List ℕ) (starts : Bool) → starts ≡ starts_with eqb text (codes "not")
    → (if starts then Some (drop 3 text) else None) ≡ behind_not text
unfolding behind_not
behind_by text starts e = ap (λ b. if b then Some (drop 3 text) else None) e

-- `strip_prefix` at `not`
pub behind_not_is : (text : List ℕ) (r : Option (Bor (List ℕ)))
    → MatchOption r (FindsTextPrefix (codes "not") text None) (λ x. StripsPrefix (FindsTextPrefix (codes "not")) text x.now)
    → option_copied r ≡ behind_not text
behind_not_is text None h = behind_by text false (starts_text false (codes "not") text h)
behind_not_is text (Some x) h =
    let w : h.0 ≡ 3 = h.1.0 in
    let cut : IsCharBoundary text h.0 = rw w h.1.2 in
    let e : x.now ≡ drop 3 text = h.2 ∙ ap (λ n. drop n text) w in
    ap Some e ∙ behind_by text true (starts_text true (codes "not") text (h.0, h.1, cut))
