-- Versions in bytes, and bytes that are none.
use Rattle.std.proofs.Common.{◌≡◌, ◌∙◌, ◌⊎◌, ℕ, ℤ, pos, negsuc, inl, inr, option_map, true, false, List}
use Rattle.std.proofs.Common.{length, Option, Some, None, Ok, Err, string_bytes, ap, refl, sym, subst}
use Rattle.std.specs.Str.{is_utf8, IsUtf8}
use Rattle.std.proofs.lemmas.Str.{is_utf8-from_IsUtf8}
use Rattle.read_outcome.specs.Outcome.{Tells}
use Rattle.pep440_version.specs.Record.{VersionRecord}
use Rattle.pep440_version.specs.Reading.{version_of}
use Rattle.pep440_version.specs.VersionReading.{VersionFault, Wildcard, NumberTooBig, NoLeadingNumber}
use Rattle.pep440_version.specs.VersionReading.{LocalEmpty, UnexpectedEnd}
use Rattle.pep440_version.specs.VersionReading.{version_reading, told_version}
use Rattle.pep440_version.specs.ErrorPrints.{version_error_text}
use Rattle.pep440_version.specs.declared.parse_error.VersionParseError.{VersionParseError}
use Rattle.pep440_version.specs.declared.parse_error.VersionParseError.TheVariants as errors
use Rattle.pep440_version.proofs.Found.{is_version}
use Rattle.pep440_key.specs.Key.{version_bytes}
use Rattle.reqs_c_reply.specs.Endings.{span, written}
use Rattle.reqs_c_reply.proofs.Ends.{is_utf8-false}
use Rattle.reqs_c_versions.specs.Versions.{version_in, IsNoVersion, IsWritten, KeyGiven}

-- bytes that are no text are no version's
pub no_text : (bytes : List ℕ) → (IsUtf8 bytes → ⊥) → version_in bytes ≡ None
unfolding version_in
no_text bytes h = let e : is_utf8 bytes ≡ false = is_utf8-false bytes h in rw e

-- those that are one are its version
pub same_version : (bytes text : List ℕ) → IsUtf8 bytes → text ≡ bytes → version_in bytes ≡ version_of text
unfolding version_in
same_version bytes text h is =
    let e : is_utf8 bytes ≡ true = is_utf8-from_IsUtf8 bytes h in rw e (ap version_of (sym is))

-- those that are one are the version that is read of it
pub in_text : (bytes text : List ℕ) (version : VersionRecord) → is_utf8 bytes ≡ true → text ≡ bytes
    → version_reading text ≡ Ok version → version_in bytes ≡ Some version
unfolding version_in
in_text bytes text version e is reading =
    rw e (is_version bytes version (ap version_reading (sym is) ∙ reading))

-- an error that is not want of memory tells a fault
told : (error : VersionParseError) → (error ≡ errors.Memory → ⊥)
    → (fault : VersionFault) × (told_version error ≡ Some fault)
told errors.Memory plain = absurd (plain refl)
told errors.Wildcard plain = (Wildcard, refl)
told (errors.NumberTooBig number) plain = (NumberTooBig (string_bytes number), refl)
told errors.NoLeadingNumber plain = (NoLeadingNumber, refl)
told errors.LocalEmpty plain = (LocalEmpty, refl)
told (errors.UnexpectedEnd version remaining) plain =
    (UnexpectedEnd (string_bytes version) (string_bytes remaining), refl)

-- that of the text
pub no_version : (input : ℕ) (bytes text : List ℕ) (error : VersionParseError) → is_utf8 bytes ≡ true → text ≡ bytes
    → (error ≡ errors.Memory → ⊥) → Tells (told_version error) (version_reading text)
    → IsNoVersion input bytes (span input 0 (length bytes)) (version_error_text error)
no_version input bytes text error e is plain tells =
    let says = told error plain in
    let reading : version_reading text ≡ Err says.0 =
    subst (λ (f : Option VersionFault). Tells f (version_reading text)) says.1 tells in record {
      fault = says.0;
      error = error;
      is_utf8_text = e;
      reading = ap version_reading (sym is) ∙ reading;
      tells = says.1;
      stands = refl;
      says = refl;
    }

-- ---- keys

-- what was written of a key is that of the version
pub key_given : (version : Option VersionRecord) (key old new : List ℕ) (code : ℤ)
    → Some key ≡ option_map version_bytes version → IsWritten key old new code
    → ((code ≡ negsuc 2) × (new ≡ old)) ⊎ KeyGiven version old new code
key_given None key old new code e h = absurd (cc)
key_given (Some version) key old new code e (inl none) = inl none
key_given (Some version) key old new code e (inr wrote) =
    let is : key ≡ version_bytes version = cc in
    inr (wrote.0 ∙ ap (λ k. pos (length k)) is, wrote.1 ∙ ap (λ k. written k old) is)

-- and where there is no key there is no version
pub no_key : (version : Option VersionRecord) (old : List ℕ) → None ≡ option_map version_bytes version
    → ((negsuc 1 ≡ negsuc 2) × (old ≡ old)) ⊎ KeyGiven version old old (negsuc 1)
no_key None old e = inr (refl, refl)
no_key (Some version) old e = absurd (cc)
