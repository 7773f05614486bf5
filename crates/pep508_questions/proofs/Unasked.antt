-- What a diagram is of which no question passes a test.
use Rattle.std.proofs.Common.{◌≡◌, ◌≢◌, ◌↔◌, ℕ, ◌<◌, ◌==◌, ◌^◌, ◌||◌, Bool, true, false, not, nat_lt, List}
use Rattle.std.proofs.Common.{[], ◌∷◌, Option, Some, None, refl, ap, ◌∙◌, true≢false, chars, is_some}
use Rattle.std.proofs.lemmas.Bool.{ltb-true, lt-ltb}
use Rattle.std.proofs.lemmas.List.Elements.{All-from_recursion}
use Rattle.std.proofs.lemmas.List.Folds.{list_any_none}
use Rattle.std.specs.Cmp.{unsigned_Decides}
use Rattle.std.specs.List.{list_any, AllByRecursion}
use Rattle.version_ranges.specs.declared.boundary.Boundary.TheVariants.{At, JustAbove}
use Rattle.pep440_text.specs.Record.{Segment, VersionRecord, release_record}
use Rattle.pep440_version.specs.Changes.{has_segments}
use Rattle.pep508_diagram.specs.declared.variable.Flag.TheVariants.{In, Contains, Extra, Arbitrary}
use Rattle.pep508_diagram.specs.Diagram.{Diagram, Leaf, Test}
use Rattle.pep508_diagram.specs.Question.{Question, VersionBelow, TextBelow, IsSet}
use Rattle.pep508_marker_text_laws.specs.ReleaseBounds.{IsPlainRelease, AsksOfReleases, HasReleasesAlone}
use Rattle.pep508_diagram.specs.Questions.{AllQuestions}
use Rattle.pep508_reading_back.specs.Readable.{IsUnquoted}
use Rattle.pep508_reading_back.specs.Unquoted.{AsksUnquoted, AsksOfModernKey, IsPlainDiagram}
use Rattle.pep508_reading_back.specs.Unquoted.{IsUnquotedDiagram}
use Rattle.pep508_questions.specs.Asks.{asks_any, is_quoted, has_quote, is_of_deprecated_key}
use Rattle.pep508_questions.specs.Asks.{is_other_version, is_other_bound}

neither : (a b : Bool) → (a || b) ≡ false → (a ≡ false) × (b ≡ false)
neither true b e = absurd (true≢false e)
neither false b e = (refl, e)

nor : (a b : Bool) → a ≡ false → b ≡ false → (a || b) ≡ false
nor a b e f = ap (λ x. x || b) e ∙ f

module _ (test : Question → Bool) (P : Question → Type 0)
    (exactly : (q : Question) → (test q ≡ false) ↔ P q) where
  all_asked : (d : Diagram Question) → asks_any test d ≡ false → AllQuestions P d
  all_asked (Leaf b) e = tt
  all_asked (Test q low high) e =
      let later = neither (test q || asks_any test low) (asks_any test high) e in
      let first = neither (test q) (asks_any test low) later.0 in
      ((exactly q).0 first.0, all_asked low first.1, all_asked high later.1)

  none_asked : (d : Diagram Question) → AllQuestions P d → asks_any test d ≡ false
  none_asked (Leaf b) all = refl
  none_asked (Test q low high) all =
      nor (test q || asks_any test low) (asks_any test high)
      (nor (test q) (asks_any test low) ((exactly q).1 all.0) (none_asked low all.1))
      (none_asked high all.2)

  asked_exactly : (d : Diagram Question) → (asks_any test d ≡ false) ↔ AllQuestions P d
  asked_exactly d = (all_asked d, none_asked d)

-- ---- single quotes

each_fails : (p : ℕ → Bool) (xs : List ℕ) → list_any p xs ≡ false → AllByRecursion (λ x. p x ≡ false) xs
each_fails p [] e = tt
each_fails p (x ∷ xs) e = let parts = neither (p x) (list_any p xs) e in (parts.0, each_fails p xs parts.1)

text_exactly : (text : List ℕ) → (is_quoted text ≡ false) ↔ IsUnquoted text
text_exactly text = (
  λ e. All-from_recursion (λ c. (c == 39) ≡ false) (chars text) (each_fails (λ c. c == 39) (chars text) e),
  λ all. list_any_none (λ c. c == 39) (chars text) all,
)

quote_exactly : (q : Question) → (has_quote q ≡ false) ↔ AsksUnquoted q
quote_exactly (VersionBelow key boundary) = (λ e. tt, λ h. refl)
quote_exactly (TextBelow key (At text)) = text_exactly text
quote_exactly (TextBelow key (JustAbove text)) = text_exactly text
quote_exactly (IsSet (In key text)) = text_exactly text
quote_exactly (IsSet (Contains key text)) = text_exactly text
quote_exactly (IsSet (Extra name)) = (λ e. tt, λ h. refl)
quote_exactly (IsSet (Arbitrary text)) = text_exactly text

pub unquoted : (d : Diagram Question) → (asks_any has_quote d ≡ false) ↔ IsUnquotedDiagram d
unquoted = asked_exactly has_quote AsksUnquoted quote_exactly

-- ---- old names of keys

key_exactly : (q : Question) → (is_of_deprecated_key q ≡ false) ↔ AsksOfModernKey q
key_exactly (VersionBelow key boundary) = (λ e. tt, λ h. refl)
key_exactly (TextBelow key boundary) = (λ e. e, λ h. h)
key_exactly (IsSet (In key text)) = (λ e. e, λ h. h)
key_exactly (IsSet (Contains key text)) = (λ e. e, λ h. h)
key_exactly (IsSet (Extra name)) = (λ e. tt, λ h. refl)
key_exactly (IsSet (Arbitrary text)) = (λ e. tt, λ h. refl)

pub modern : (d : Diagram Question) →
    (asks_any is_of_deprecated_key d ≡ false) ↔ AllQuestions AsksOfModernKey d
modern = asked_exactly is_of_deprecated_key AsksOfModernKey key_exactly

-- ---- versions that are no releases of epoch 0

not_some : {T : Type 0} (o : Option T) → is_some o ≡ false → o ≡ None
not_some None e = refl
not_some (Some x) e = absurd (true≢false e)

no_segments : (segments : List Segment) → has_segments segments ≡ false → segments ≡ []
no_segments [] e = refl
no_segments (segment ∷ segments) e = absurd (true≢false e)

is_true : (b : Bool) → not b ≡ false → b ≡ true
is_true true e = refl
is_true false e = absurd (true≢false e)

each_small : (numbers : List ℕ) → list_any (λ number. not (nat_lt number (2 ^ 64))) numbers ≡ false →
    AllByRecursion (λ number. number < 2 ^ 64) numbers
each_small [] e = tt
each_small (number ∷ numbers) e =
    let parts = neither (not (nat_lt number (2 ^ 64))) (list_any (λ n. not (nat_lt n (2 ^ 64))) numbers) e in
    (ltb-true number (2 ^ 64) (is_true (nat_lt number (2 ^ 64)) parts.0), each_small numbers parts.1)

none_large : (numbers : List ℕ) → AllByRecursion (λ number. number < 2 ^ 64) numbers →
    list_any (λ number. not (nat_lt number (2 ^ 64))) numbers ≡ false
none_large [] all = refl
none_large (number ∷ numbers) all =
    nor (not (nat_lt number (2 ^ 64))) (list_any (λ n. not (nat_lt n (2 ^ 64))) numbers)
    (ap not (lt-ltb number (2 ^ 64) all.0)) (none_large numbers all.1)

same_version : (v : VersionRecord) →
    v.epoch ≡ 0 → v.pre ≡ None → v.post ≡ None → v.dev ≡ None → v.local ≡ [] →
    v.least ≡ None → v.most ≡ None → v ≡ release_record v.release
same_version v epoch pre post dev local least most = λ i. record {
  epoch = epoch i;
  release = v.release;
  pre = pre i;
  post = post i;
  dev = dev i;
  local = local i;
  least = least i;
  most = most i;
}

version_exactly : (v : VersionRecord) → (is_other_version v ≡ false) ↔ IsPlainRelease v
version_exactly v = (plain_from, plain_to)
  where
    plain_from : is_other_version v ≡ false → IsPlainRelease v
    plain_from e =
        let large = neither _ _ e in
        let most = neither _ _ large.0 in
        let least = neither _ _ most.0 in
        let local = neither _ _ least.0 in
        let dev = neither _ _ local.0 in
        let post = neither _ _ dev.0 in
        let pre = neither _ _ post.0 in (
          same_version v ((unsigned_Decides v.epoch 0).0 (is_true (v.epoch == 0) pre.0))
              (not_some v.pre pre.1)
              (not_some v.post post.1)
              (not_some v.dev dev.1)
              (no_segments v.local local.1)
              (not_some v.least least.1)
              (not_some v.most most.1),
          each_small v.release large.1,
        )

    plain_to : IsPlainRelease v → is_other_version v ≡ false
    plain_to h = ap is_other_version h.0 ∙ none_large v.release h.1

bound_exactly : (q : Question) → (is_other_bound q ≡ false) ↔ AsksOfReleases q
bound_exactly (VersionBelow key (At version)) = version_exactly version
bound_exactly (VersionBelow key (JustAbove version)) = version_exactly version
bound_exactly (TextBelow key boundary) = (λ e. tt, λ h. refl)
bound_exactly (IsSet flag) = (λ e. tt, λ h. refl)

pub releases : (d : Diagram Question) → (asks_any is_other_bound d ≡ false) ↔ HasReleasesAlone d
releases d = asked_exactly is_other_bound AsksOfReleases bound_exactly d

-- ---- none of the three

pub plain : (d : Diagram Question) →
    ((asks_any has_quote d ≡ false) × (asks_any is_of_deprecated_key d ≡ false)
    × (asks_any is_other_bound d ≡ false) × (d ≢ Leaf false)) ↔ IsPlainDiagram d
plain d = (
  λ h. record {
    unquoted = (unquoted d).0 h.0;
    releases = (releases d).0 h.2;
    keys = (modern d).0 h.1;
    sometimes = h.3;
  },
  λ h. ((unquoted d).1 h.unquoted, (modern d).1 h.keys, (releases d).1 h.releases, h.sometimes),
)
