-- What the refusal of a front shows.
use Rattle.std.proofs.Common.{◌≡◌, ◌==◌, ℕ, Bool, true, false, List, [], ◌∷◌, length}
use Rattle.std.proofs.Common.{Option, Some, None, Result, Ok, Err, IfErr, refl, sym, ap, subst, ◌∙◌, arith}
use Rattle.std.proofs.Common.{inl, inr}
use Rattle.std.proofs.Common.{IsTrue}
use Rattle.std.proofs.lemmas.List.{length-drop}
use Rattle.std.specs.Str.{skip_leading_whitespace}
use Rattle.pep508_url.specs.Vars.{Variables}
use Rattle.pep508_name.specs.Name.{is_name, is_alphanumeric_at}
use Rattle.pep508_error.specs.declared.cursor.Cursor.{Cursor}
use Rattle.pep508_error.specs.declared.refusal.Refusal.{Refusal}
use Rattle.pep508_error.specs.declared.refusal.RefusalKind.TheVariants.{Memory}
use Rattle.pep508_error.specs.Cursors.{rest_of, behind, IsBehind}
use Rattle.pep508_error.specs.Cuts.{begins_by, cut_around, encoded_cut}
use Rattle.pep508_requirement_text.specs.FrontReading.{Refused, name_at, extras_at, begins_operator}
use Rattle.pep508_requirement_text.specs.FrontOutcome.{Tells}
use Rattle.pep508_requirement_text.specs.FrontSpans.{IfTold, ShowsTrimmed}
use Rattle.pep508_requirement_text.specs.FrontSpans.{ShowsSource, IsAsked, ShowsFront}
use Rattle.pep508_requirement_text.specs.FrontText.{IsBeforeMarker}

-- ---- an empty field

-- a place that the whole text follows
pub begins_at : (place : Cursor) → rest_of place ≡ place.input.now → place.position ≡ 0
begins_at place e =
    let l = length-drop place.position place.input.now in
    let same = ap length e in
    let within = place.between.0 in
    omega (arith, l, same, within)

pub no_text : (test : ℕ → Bool) (cs text rest : List ℕ) → (text, rest) ≡ encoded_cut test cs → cs ≡ [] → text ≡ []
no_text test cs text rest e none =
    ap (λ (p : List ℕ × List ℕ). p.0) e ∙ ap (λ (xs : List ℕ). (encoded_cut test xs).0) none

pub no_name : (text : List ℕ) → text ≡ [] → is_name text ≡ true → ⊥
no_name text e h = absurd (cc (sym (ap is_name e) ∙ h))

pub no_first : (text : List ℕ) → text ≡ [] → is_alphanumeric_at text 0 ≡ true → ⊥
no_first text e h = absurd (cc (sym (ap (λ (t : List ℕ). is_alphanumeric_at t 0) e) ∙ h))

-- ---- what follows a name

abbrev pub inside_of : Option (List ℕ × List ℕ) → List ℕ
inside_of None = []
inside_of (Some parts) = parts.0

-- what is told of one refusal is told so
pub told_as : {X : Type 0} {P Q : Refusal → Type 0} → ((refusal : Refusal) → P refusal → Q refusal)
    → (result : Result X Refusal) → IfErr result (IfTold P) → IfErr result (IfTold Q)
told_as f (Ok x) h = tt
told_as f (Err refusal) h = λ told. f refusal (h told)

module _ (whole place inner : Cursor) (c : ℕ) (at : behind place ≡ c ∷ behind inner) (is : c ≡ 40) where
  not_alone : IsBeforeMarker (behind place) → ⊥
  not_alone (inl none) = absurd (cc (sym at ∙ none))
  not_alone (inr begins) =
      let fails : (40 == 59) ≡ false = refl in
      let test : (c == 59) ≡ true = sym (ap (begins_by (λ d. d == 59)) at) ∙ begins in
      absurd (cc (sym fails ∙ (sym (ap (λ (d : ℕ). d == 59) is) ∙ test)))

  not_bare : IsTrue (begins_by begins_operator (behind place)) → ⊥
  not_bare begins =
      let fails : begins_operator 40 ≡ false = refl in
      let test : begins_operator c ≡ true = sym (ap (begins_by begins_operator) at) ∙ begins in
      absurd (cc (sym fails ∙ (sym (ap begins_operator is) ∙ test)))

  shows_bracket : IsBehind place inner → (refusal : Refusal)
      → ((inside later : List ℕ) → cut_around 41 (behind inner) ≡ Some (inside, later)
      → ShowsTrimmed inner.input.now inner.position inside refusal) → ShowsSource whole place refusal
  shows_bracket after refusal h = record {
    alone = λ before. absurd (not_alone before);
    bare = λ begins. absurd (not_bare begins);
    enclosed = λ cs inside later e cut.
        let both : c ∷ behind inner ≡ 40 ∷ cs = sym at ∙ e in
        let others : behind inner ≡ cs = cc in (
          inner,
          after,
          others,
          h inside later (ap (cut_around 41) others ∙ cut),
        );
  }

  -- what is shown of a list in brackets
  pub bracket_as : {X : Type 0} → IsBehind place inner → (result : Result X Refusal)
      → ((inside later : List ℕ) → cut_around 41 (behind inner) ≡ Some (inside, later)
      → IfErr result (IfTold (ShowsTrimmed inner.input.now inner.position inside)))
      → IfErr result (IfTold (ShowsSource whole place))
  bracket_as after (Ok x) h = tt
  bracket_as after (Err refusal) h =
      λ told. shows_bracket after refusal (λ inside later cut. h inside later cut told)

-- ---- the front

pub behind_on : (a b c : Cursor) → IsBehind a b → IsBehind b c → IsBehind a c
behind_on a b c h k =
    let first = h.ordered in
    let second = k.ordered in record { input = k.input ∙ h.input; ordered = omega (arith, first, second) }

abbrev behind_of : Result (List ℕ × List ℕ) Refused → List ℕ
behind_of (Ok parts) = parts.1
behind_of (Err refused) = []

abbrev behind_them : Result (List (List ℕ) × List ℕ) Refused → List ℕ
behind_them (Ok parts) = parts.1
behind_them (Err refused) = []

-- where something is read and a refusal tells of that, it is want of memory
lacks : {Y : Type 0} (vars : Variables) (refusal : Refusal) (reading : Result Y Refused) (y : Y)
    → Tells vars refusal.kind reading → reading ≡ Ok y → refusal.kind ≡ Memory
lacks {Y} vars refusal reading y h e = subst (Tells vars refusal.kind) e h

module _ (vars : Variables) (whole named : Cursor) (refusal : Refusal)
    (at : behind named ≡ skip_leading_whitespace (behind whole)) where
  module _ (extras_place : Cursor) (name after : List ℕ) (is_named : name_at (behind named) ≡ Ok (name, after))
      (some : behind named ≡ [] → ⊥) (extras_at_place : behind extras_place ≡ skip_leading_whitespace after) where
    same_behind : (cs : List ℕ) (follows : IsAsked (rest_of whole) cs) → follows.behind_name ≡ after
    same_behind cs follows = ap behind_of (sym follows.is_name ∙ (ap name_at (sym at) ∙ is_named))

    extras_read : (cs : List ℕ) (follows : IsAsked (rest_of whole) cs)
        → extras_at (behind extras_place) ≡ Ok (follows.extras, follows.behind_extras)
    extras_read cs follows =
        ap extras_at (extras_at_place ∙ ap skip_leading_whitespace (sym (same_behind cs follows))) ∙ follows.are_extras

    -- the extras are refused
    pub shows_extras : Tells vars refusal.kind (extras_at (behind extras_place)) → IfTold (ShowsFront whole) refusal
    shows_extras h = λ told. record {
      empty = λ none. absurd (some (at ∙ none));
      asked = λ cs follows.
          absurd
          (told
          (lacks vars refusal (extras_at (behind extras_place)) (follows.extras, follows.behind_extras) h
          (extras_read cs follows)));
    }

    -- what follows them is refused
    pub shows_behind : (place : Cursor) (extras : List (List ℕ)) (later : List ℕ)
        → extras_at (behind extras_place) ≡ Ok (extras, later) → behind place ≡ skip_leading_whitespace later
        → IsBehind whole place → IfTold (ShowsSource whole place) refusal → IfTold (ShowsFront whole) refusal
    shows_behind place extras later are_extras at_place after h = λ told. record {
      empty = λ none. absurd (some (at ∙ none));
      asked = λ cs follows.
          let same : follows.behind_extras ≡ later =
          ap behind_them (sym (extras_read cs follows) ∙ are_extras) in (
            place,
            after,
            at_place ∙ (ap skip_leading_whitespace (sym same) ∙ follows.asked),
            h told,
          );
    }
