-- Calls on the texts of versions have one ending.
use Rattle.std.proofs.Common.{◌≡◌, ◌≢◌, ℕ, inl, inr, true, false, List, Some, None, Err}
use Rattle.std.specs.Str.{is_utf8}
use Rattle.pep440_version.specs.Record.{VersionRecord}
use Rattle.pep440_version.specs.Reading.{version_of}
use Rattle.pep440_version.specs.VersionReading.{VersionFault, version_reading, told_version}
use Rattle.pep440_version.proofs.Found.{is_no_version}
use Rattle.reqs_c_reply.specs.declared.place.Place.{Place}
use Rattle.reqs_c_reply.specs.Endings.{Ending, OutOfMemory, IsNotText}
use Rattle.reqs_c_versions.specs.Versions.{version_in, IsNormalText, IsNoVersion, RefusesVersion, VersionEnds}
use Rattle.reqs_c_versions.specs.Versions.{IsOrder, RefusesVersions, OrderEnds}
use Rattle.reqs_c_versions.proofs.Messages.{one_version_message}
use Rattle.reqs_c_versions.proofs.OneEnding.{one_ending, one_not_text}

module _ (input : ℕ) (bytes : List ℕ) where
  one_normal_text : (text other : List ℕ) → IsNormalText bytes text → IsNormalText bytes other → text ≡ other
  one_normal_text text other h k = cc

  -- ---- refusals

  one_fault : (place there : Place) (message other : List ℕ) → IsNoVersion input bytes place message
      → IsNoVersion input bytes there other → (place ≡ there) × (message ≡ other)
  one_fault place there message other h k =
      let told : told_version h.error ≡ told_version k.error = cc in
      let prints = one_version_message h.error k.error told in (cc, cc)

  no_text_or_fault : (place there : Place) (message other : List ℕ) → IsNotText input bytes place message
      → IsNoVersion input bytes there other → ⊥
  no_text_or_fault place there message other h k = cc

  one_refusal : (place there : Place) (message other : List ℕ) → RefusesVersion input bytes place message
      → RefusesVersion input bytes there other → (place ≡ there) × (message ≡ other)
  one_refusal place there message other (inl h) (inl k) = one_not_text input bytes place there message other h k
  one_refusal place there message other (inl h) (inr k) =
      absurd (no_text_or_fault place there message other h k)
  one_refusal place there message other (inr h) (inl k) =
      absurd (no_text_or_fault there place other message k h)
  one_refusal place there message other (inr h) (inr k) = one_fault place there message other h k

  -- ---- not both

  version_or_no_text : (version : VersionRecord) → version_in bytes ≡ Some version → is_utf8 bytes ≡ false → ⊥
  unfolding version_in
  version_or_no_text version is e = let none : None ≡ Some version = rw e at is in cc

  version_or_fault : (version : VersionRecord) (fault : VersionFault) → version_in bytes ≡ Some version
      → is_utf8 bytes ≡ true → version_reading bytes ≡ Err fault → ⊥
  unfolding version_in
  version_or_fault version fault is e reading =
      let found : version_of bytes ≡ Some version = rw e at is in
      let none : version_of bytes ≡ None = is_no_version bytes fault reading in cc

  -- a version isn't refused
  none_refused : (version : VersionRecord) (place : Place) (message : List ℕ) → version_in bytes ≡ Some version
      → RefusesVersion input bytes place message → ⊥
  none_refused version place message is (inl k) = version_or_no_text version is (cc)
  none_refused version place message is (inr k) = version_or_fault version k.fault is (cc) (cc)

  not_both : (text : List ℕ) (place : Place) (message : List ℕ) → IsNormalText bytes text
      → RefusesVersion input bytes place message → ⊥
  not_both text place message h k = none_refused h.version place message h.is_version k

pub one_version_ending : (bytes : List ℕ) (one other : Ending) → VersionEnds bytes one → VersionEnds bytes other
    → one ≢ OutOfMemory → other ≢ OutOfMemory → one ≡ other
one_version_ending bytes =
    one_ending (IsNormalText bytes) (RefusesVersion 1 bytes) (one_normal_text 1 bytes) (one_refusal 1 bytes)
    (not_both 1 bytes)

-- ---- two versions

module _ (left right : List ℕ) where
  one_order : (text other : List ℕ) → IsOrder left right text → IsOrder left right other → text ≡ other
  one_order text other h k = cc

  refused_once : (place there : Place) (message other : List ℕ) → RefusesVersions left right place message
      → RefusesVersions left right there other → (place ≡ there) × (message ≡ other)
  refused_once place there message other (inl h) (inl k) = one_refusal 1 left place there message other h k
  refused_once place there message other (inl h) (inr k) =
      absurd (none_refused 1 left k.version place message k.is_version h)
  refused_once place there message other (inr h) (inl k) =
      absurd (none_refused 1 left h.version there other h.is_version k)
  refused_once place there message other (inr h) (inr k) =
      one_refusal 2 right place there message other h.refuses k.refuses

  ordered_or_refused : (text : List ℕ) (place : Place) (message : List ℕ) → IsOrder left right text
      → RefusesVersions left right place message → ⊥
  ordered_or_refused text place message h (inl k) = none_refused 1 left h.first place message h.is_first k
  ordered_or_refused text place message h (inr k) =
      none_refused 2 right h.second place message h.is_second k.refuses

  pub one_order_ending : (one other : Ending) → OrderEnds left right one → OrderEnds left right other
      → one ≢ OutOfMemory → other ≢ OutOfMemory → one ≡ other
  one_order_ending = one_ending (IsOrder left right) (RefusesVersions left right) one_order refused_once ordered_or_refused
