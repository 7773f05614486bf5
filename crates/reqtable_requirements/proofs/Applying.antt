-- What the lines that apply ask for, as far as a loop over the lines has come.
use Rattle.std.proofs.Common.{◌≡◌, ◌∙◌, ◌<◌, ◌+◌, ◌++◌, ◌∷◌, [], ℕ, Bool, true, false, cond, List, length}
use Rattle.std.proofs.Common.{map, filter, take, get_or, append-nil, sym, ap}
use Rattle.std.proofs.lemmas.List.{map-append}
use Rattle.std.proofs.lemmas.List.Elements.{filter_more}
use Rattle.pep508_requirement_text.specs.FrontReading.{Front}

-- lines of requirements, of which these apply
module _ {L R : Type 0} (of : L → R) (seen : R → Front) (applies : L → Bool) (lines : List L) (i : ℕ) (line : L)
    (below : i < length lines) (is : line ≡ get_or lines i line) where
  abbrev asked : List L → List Front
  asked some = map seen (map of (filter applies some))

  abbrev with_next : Bool → List Front
  with_next b = asked (take i lines) ++ map seen (map of (cond b (line ∷ []) []))

  more : asked (take (i + 1) lines) ≡ with_next (applies line)
  more =
      ap (λ some. map seen (map of some)) (filter_more applies lines i line below)
      ∙ ap (map seen) (map-append of (filter applies (take i lines)) _)
      ∙ map-append seen (map of (filter applies (take i lines))) _
      ∙ ap (λ l. asked (take i lines) ++ map seen (map of (cond (applies l) (l ∷ []) []))) (sym is)

  pub one_more : (before after : List Front) → applies line ≡ true → before ≡ asked (take i lines)
      → after ≡ before ++ seen (of line) ∷ [] → after ≡ asked (take (i + 1) lines)
  one_more before after h e a =
      a ∙ ap (λ l. l ++ seen (of line) ∷ []) e ∙ ap with_next (sym h) ∙ sym more

  pub passed_over : (before after : List Front) → applies line ≡ false → before ≡ asked (take i lines)
      → after ≡ before → after ≡ asked (take (i + 1) lines)
  passed_over before after h e a =
      a ∙ e ∙ sym (append-nil (asked (take i lines))) ∙ ap with_next (sym h) ∙ sym more
