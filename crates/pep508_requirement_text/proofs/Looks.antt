-- A text has one URL before the extras at its end.
use Rattle.std.proofs.Common.{◌≡◌, ℕ, Bool, false, List, [], ◌∷◌, ◌++◌, length, get_or, inl, inr, ap}
use Rattle.std.proofs.Common.{sym, subst, ◌∙◌, arith, append_assoc, length-append, IsTrue, refl}
use Rattle.std.proofs.Math.Seq.{get_or-append_seam}
use Rattle.std.proofs.lemmas.List.{append_cancel_right}
use Rattle.std.specs.Prelude.{All}
use Rattle.pep508_url.specs.Vars.{Variables}
use Rattle.url.specs.Input.{trim_c0_control_and_space}
use Rattle.pep508_url.specs.Cuts.{cut}
use Rattle.pep508_url.specs.Expansion.{expanded}
use Rattle.pep508_url.specs.Schemes.{scheme_split}
use Rattle.pep508_url.specs.Splits.{is_bracket, IsExtrasSplit}
use Rattle.pep508_requirement_text.specs.Archives.{is_archive}
use Rattle.pep508_requirement_text.specs.Unnamed.{IsBeforeExtras, LooksUnnamed, looks_like_url}

no_opening : (url inside : List ℕ) → All (λ b. is_bracket b ≡ false) (url ++ 91 ∷ inside) → ⊥
no_opening url inside plain =
    let l = length-append url (91 ∷ inside) in
    let here : is_bracket (get_or (url ++ 91 ∷ inside) (length url) 0) ≡ false =
    plain (length url) 0 (omega (arith, l)) in
    absurd (cc (sym (ap is_bracket (get_or-append_seam url 91 inside 0)) ∙ here))

same_url : (a x b y : List ℕ) → All (λ c. is_bracket c ≡ false) x → All (λ c. is_bracket c ≡ false) y
    → a ++ 91 ∷ x ≡ b ++ 91 ∷ y → a ≡ b
same_url [] x [] y p q e = refl
same_url [] x (d ∷ b) y p q e =
    let tail : x ≡ b ++ 91 ∷ y = cc in
    absurd (no_opening b y (subst (All (λ c. is_bracket c ≡ false)) tail p))
same_url (d ∷ a) x [] y p q e =
    let tail : y ≡ a ++ 91 ∷ x = cc in
    absurd (no_opening a x (subst (All (λ c. is_bracket c ≡ false)) tail q))
same_url (d ∷ a) x (d' ∷ b) y p q e =
    let head : d ≡ d' = cc in
    let tail : a ++ 91 ∷ x ≡ b ++ 91 ∷ y = cc in
    ap (λ (c : ℕ). c ∷ a) head ∙ ap (λ (xs : List ℕ). d' ∷ xs) (same_url a x b y p q tail)

whole_is : (text url extras : List ℕ) (split : IsExtrasSplit text url extras)
    → text ≡ (url ++ 91 ∷ split.inside) ++ 93 ∷ []
whole_is text url extras split =
    split.whole ∙ ap (λ xs. url ++ xs) split.brackets ∙ sym (append_assoc url (91 ∷ split.inside) (93 ∷ []))

one_url : (text a x b y : List ℕ) → IsExtrasSplit text a x → IsExtrasSplit text b y → a ≡ b
one_url text a x b y s t =
    same_url a s.inside b t.inside s.plain t.plain
    (append_cancel_right (a ++ 91 ∷ s.inside) (b ++ 91 ∷ t.inside) (93 ∷ [])
    (sym (whole_is text a x s) ∙ whole_is text b y t))

-- what stands before the extras is one
pub one_before : (text a b : List ℕ) → IsBeforeExtras text a → IsBeforeExtras text b → a ≡ b
one_before text a b (inl s) (inl t) = one_url text a s.0 b t.0 s.1 t.1
one_before text a b (inl s) (inr t) = absurd (t.1 a s.0 s.1)
one_before text a b (inr s) (inl t) = absurd (s.1 b t.0 t.1)
one_before text a b (inr s) (inr t) = s.0 ∙ sym t.0

-- an answer about the text before the extras is one about the text
pub looks_are : (vars : Variables) (text full url : List ℕ) (answer : Bool) → full ≡ expanded vars text
    → IsBeforeExtras full url → answer ≡ looks_like_url url
    → (IsTrue answer → LooksUnnamed vars text) × (LooksUnnamed vars text → IsTrue answer)
looks_are vars text full url answer e before is = (
  λ h. record {
    url = url;
    before_extras = subst (λ (t : List ℕ). IsBeforeExtras t url) e before;
    looks = subst IsTrue is h;
  },
  λ h.
      let same : h.url ≡ url =
      one_before (expanded vars text) h.url url h.before_extras (subst (λ (t : List ℕ). IsBeforeExtras t url) e before) in
      subst IsTrue (ap looks_like_url same ∙ sym is) h.looks,
)

-- ---- the empty text

nothing_like_url : looks_like_url [] ≡ false
unfolding looks_like_url scheme_split cut trim_c0_control_and_space is_archive
nothing_like_url = refl

nothing_expanded : (vars : Variables) → expanded vars [] ≡ []
unfolding expanded
nothing_expanded vars = refl

nothing_before : (text url : List ℕ) → text ≡ [] → IsBeforeExtras text url → url ≡ []
nothing_before text url e (inr plain) = plain.0 ∙ e
nothing_before text url e (inl split) =
    let none = ap length (sym e ∙ split.1.whole) in
    let all = length-append url split.0 in
    let some = ap length split.1.brackets in
    absurd (omega (arith, none, all, some))

pub nothing_looks : (vars : Variables) (text : List ℕ) → text ≡ [] → LooksUnnamed vars text → ⊥
nothing_looks vars text e h =
    let none : h.url ≡ [] =
    nothing_before (expanded vars text) h.url (ap (expanded vars) e ∙ nothing_expanded vars) h.before_extras in
    absurd (cc (sym (ap looks_like_url none ∙ nothing_like_url) ∙ h.looks))
