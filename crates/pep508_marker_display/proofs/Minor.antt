-- Versions that equal a release are releases alone.
use Rattle.std.proofs.Common.{◌≡◌, ◌↔◌, ℕ, ◌&&◌, Bool, true, false, List, [], ◌∷◌, Option, Some, None, inl}
use Rattle.std.proofs.Common.{inr, refl, sym, ap, ◌∙◌, true≢false}
use Rattle.std.proofs.lemmas.Bool.{cases_Bool}
use Rattle.std.specs.Prelude.{IsTrue}
use Rattle.pep440_text.specs.declared.Prerelease.{Prerelease}
use Rattle.pep440_text.specs.Record.{Segment, VersionRecord, release_record}
use Rattle.pep440_version.specs.Order.{key_of, stripped, class_of, pre_key, post_key, absent_first}
use Rattle.pep440_version.specs.Order.{absent_last, local_key, version_eq}
use Rattle.pep440_version.specs.OrderLaws.{same_key}
use Rattle.pep440_specifier.specs.Bounds.{next_minor, equals_release}
use Rattle.pep508_marker_text_laws.specs.Terms.{is_minor_of}

plain_fields : (numbers release : List ℕ) (epoch class : ℕ) (pre : Option Prerelease) (post dev least most : Option ℕ)
    (local : List Segment) →
    (0 ∷ []) ∷ numbers ∷ (5 ∷ []) ∷ [] ∷ [] ∷ [] ∷ (1 ∷ []) ∷ []
    ≡ (epoch ∷ []) ∷ stripped release ∷ (class ∷ []) ∷ pre_key pre ∷ post_key post most ∷ absent_first least
    ∷ absent_last dev ∷ local_key local →
    record { epoch = epoch; release = release; pre = pre; post = post; dev = dev; local = local; least = least; most = most }
    ≡ release_record release
plain_fields numbers release epoch class None None None None None [] e =
    let zero_is : epoch ≡ 0 = cc in ap (λ (n : ℕ). record (release_record release) { epoch = n }) zero_is
plain_fields numbers release epoch class (Some x) post dev least most local e = absurd (cc)
plain_fields numbers release epoch class None post dev least (Some n) local e = absurd (cc)
plain_fields numbers release epoch class None (Some n) dev least None local e = absurd (cc)
plain_fields numbers release epoch class None None dev (Some n) None local e = absurd (cc)
plain_fields numbers release epoch class None None (Some n) None None local e = absurd (cc)
plain_fields numbers release epoch class None None None None None (s ∷ ss) e = absurd (cc)

equal_release_is : (numbers : List ℕ) (v : VersionRecord) → version_eq (release_record numbers) v ≡ true →
    v ≡ release_record v.release
unfolding key_of
equal_release_is numbers v e =
    plain_fields (stripped numbers) v.release v.epoch (class_of v) v.pre v.post v.dev v.least v.most v.local
    (same_key (release_record numbers) v e)

never_next : (numbers : Option (List ℕ)) (upper : VersionRecord) → (upper ≡ release_record upper.release → ⊥) →
    equals_release numbers upper ≡ false
never_next None upper other = refl
never_next (Some numbers) upper other = elim (cases_Bool (version_eq (release_record numbers) upper)) [
  | inl e ↦ absurd (other (equal_release_is numbers upper e))
  | inr apart ↦ apart
]

pub no_minor : (numbers : List ℕ) (lower upper : VersionRecord) (only : Bool) →
    IsTrue only ↔ (upper ≡ release_record upper.release) → only ≡ false → false ≡ is_minor_of lower upper numbers
no_minor numbers lower upper only exactly not_only =
    sym (ap (λ b. version_eq (release_record numbers) lower && b)
    (never_next (next_minor numbers) upper (λ is. true≢false (sym (exactly.1 is) ∙ not_only)))
    ∙ and_false (version_eq (release_record numbers) lower))
  where
    and_false : (b : Bool) → (b && false) ≡ false
    and_false true = refl
    and_false false = refl
