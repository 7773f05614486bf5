-- Texts that are written one behind another.
use Rattle.std.proofs.Common.{◌≡◌, ◌∙◌, ℕ, List, [], ◌∷◌, ◌++◌, Option, Some, None, refl, sym, ap, subst}
use Rattle.std.proofs.Common.{append_assoc, append-nil, arith, length-append}
use Rattle.std.specs.Io.KnownBytes.{Appends}
use Rattle.reqs_io.specs.Front.{WritesWhole, AppendsFront}
use Rattle.reqs_pieces.specs.Waiting.{IsWaiting}

appends_both : (old mid new : Option (List ℕ)) (a b : List ℕ) → Appends old mid a → Appends mid new b
    → Appends old new (a ++ b)
appends_both None mid new a b p q = tt
appends_both (Some xs) None new a b p q = absurd p
appends_both (Some xs) (Some ys) None a b p q = absurd q
appends_both (Some xs) (Some ys) (Some zs) a b p q = q ∙ ap (λ l. l ++ b) p ∙ append_assoc xs a b

appends_none : (held : Option (List ℕ)) → Appends held held []
appends_none None = tt
appends_none (Some xs) = sym (append-nil xs)

none_first : (a b : List ℕ) → a ++ b ≡ [] → a ≡ []
none_first [] b e = refl
none_first (x ∷ a) b e = absurd (cc)

none_second : (a b : List ℕ) → a ++ b ≡ [] → b ≡ []
none_second [] b e = e
none_second (x ∷ a) b e = absurd (cc)

module _ {W : Type 0} (contents : W → Option (List ℕ)) where
  -- nothing is written yet
  pub all_waits : (old : W) (text : List ℕ) → IsWaiting contents old old text text
  all_waits old text = record { written = []; is_text = refl; held = appends_none (contents old); untouched = λ e. refl }

  -- nothing waits any more
  pub none_waits : (old now : W) (text : List ℕ) → WritesWhole contents old now text → IsWaiting contents old now [] text
  none_waits old now text h = record { written = text; is_text = append-nil text; held = h.0; untouched = h.1 }

  pub all_written : (old now : W) (text : List ℕ) → IsWaiting contents old now [] text → WritesWhole contents old now text
  all_written old now text h =
      let e : h.written ≡ text = sym (append-nil h.written) ∙ h.is_text in
      let P : List ℕ → Type 0 = λ t. Appends (contents old) (contents now) t in
      (subst P e h.held, h.untouched)

  module _ (old mid new : W) (waiting front : List ℕ) (so_far : IsWaiting contents old mid waiting front) (text : List ℕ) where
    joined : (rest : List ℕ) → so_far.written ++ (waiting ++ rest) ≡ front ++ rest
    joined rest = sym (append_assoc so_far.written waiting rest) ∙ ap (λ l. l ++ rest) so_far.is_text

    -- one more text
    pub waits_more : (left : List ℕ) → IsWaiting contents mid new left (waiting ++ text) → IsWaiting contents old new left (front ++ text)
    waits_more left next = record {
      written = so_far.written ++ next.written;
      is_text = append_assoc so_far.written next.written left ∙ ap (λ l. so_far.written ++ l) next.is_text ∙ joined text;
      held = appends_both (contents old) (contents mid) (contents new) so_far.written next.written so_far.held next.held;
      untouched = λ e.
          let empty = none_first front text e in
          let none = none_second so_far.written waiting (so_far.is_text ∙ empty) in
          next.untouched (ap (λ l. l ++ text) none ∙ none_second front text e) ∙ so_far.untouched empty;
    }

    -- a front of it
    pub front_behind : AppendsFront (contents mid) (contents new) (waiting ++ text)
        → AppendsFront (contents old) (contents new) (front ++ text)
    front_behind h = (
      so_far.written ++ h.0,
      h.1,
      append_assoc so_far.written h.0 h.1 ∙ ap (λ l. so_far.written ++ l) h.2 ∙ joined text,
      h.3,
      appends_both (contents old) (contents mid) (contents new) so_far.written h.0 so_far.held h.4,
    )

-- a front of a text is one of a longer text
pub front_of_more : (old new : Option (List ℕ)) (text rest : List ℕ) → AppendsFront old new text → AppendsFront old new (text ++ rest)
front_of_more old new text rest h = (
  h.0,
  h.1 ++ rest,
  sym (append_assoc h.0 h.1 rest) ∙ ap (λ l. l ++ rest) h.2,
  omega (arith, length-append h.1 rest, h.3),
  h.4,
)

module _ {W : Type 0} (contents : W → Option (List ℕ)) (old mid new : W) (waiting text : List ℕ) (so_far : IsWaiting contents old mid waiting text) where
  -- what waits is written
  pub whole_written : WritesWhole contents mid new waiting → WritesWhole contents old new text
  whole_written h =
      let P : List ℕ → Type 0 = λ t. IsWaiting contents mid new [] t in
      let Q : List ℕ → Type 0 = λ t. IsWaiting contents old new [] t in
      all_written contents old new text
      (subst Q (append-nil text)
      (waits_more contents old mid new waiting text so_far [] []
      (subst P (sym (append-nil waiting)) (none_waits contents mid new waiting h))))

  -- or a front of it
  pub front_written : AppendsFront (contents mid) (contents new) waiting → AppendsFront (contents old) (contents new) text
  front_written h =
      let P : List ℕ → Type 0 = λ t. AppendsFront (contents mid) (contents new) t in
      let Q : List ℕ → Type 0 = λ t. AppendsFront (contents old) (contents new) t in
      subst Q (append-nil text)
      (front_behind contents old mid new waiting text so_far [] (subst P (sym (append-nil waiting)) h))
