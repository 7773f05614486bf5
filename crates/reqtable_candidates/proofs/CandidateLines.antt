-- What is read of a candidate line is in the grammar, and what is in the grammar is read.
use Rattle.std.proofs.Common.{◌≡◌, ◌↔◌, ℕ, List, Option, Some, None, Result, Ok, Err, refl, ap, sym, subst}
use Rattle.std.proofs.Common.{◌∙◌}
use Rattle.std.specs.Str.{encode_utf8_all, IsUtf8, trim}
use Rattle.pep440_version.specs.Record.{VersionRecord}
use Rattle.pep440_version.specs.Reading.{version_of}
use Rattle.pep440_version.specs.Text.{IsVersionText}
use Rattle.pep508_name.specs.Name.{name_of}
use Rattle.reqtable_candidates.specs.declared.candidates.Candidate.{Candidate}
use Rattle.reqtable_candidates.specs.declared.candidates.CandidateFault.{CandidateFault}
use Rattle.reqtable_candidates.specs.declared.candidates.CandidateFault.TheVariants.{Shape, Name, Version}
use Rattle.reqtable_candidates.specs.CandidateLine.{parts_in, candidate_by, candidate_in, candidate_of}
use Rattle.reqtable_candidates.specs.CandidateText.{AreItsParts, IsCandidateLine, IsCandidateFault}
use Rattle.reqtable_candidates.proofs.CandidateParts.{parts_found, parts_again}

-- what pep440_text says of versions and their texts
abbrev pub VersionLaw : Type 0
VersionLaw = (text : List ℕ) (version : VersionRecord) → (version_of text ≡ Some version) ↔ IsVersionText text version

both_read : (name : Option (List ℕ)) (version : Option VersionRecord) (candidate : Candidate)
    → candidate_by name version ≡ Ok candidate → (name ≡ Some candidate.name) × (version ≡ Some candidate.version)
both_read None version candidate h = absurd (cc)
both_read (Some n) None candidate h = absurd (cc)
both_read (Some n) (Some v) candidate h =
    let same : record { name = n; version = v } ≡ candidate = cc in
    (ap (λ (c : Candidate). Some c.name) same, ap (λ (c : Candidate). Some c.version) same)

found_by : VersionLaw → (line : List ℕ) (candidate : Candidate) (parts : Option (List ℕ × List ℕ)) → IsUtf8 line
    → parts_in (trim line) ≡ parts → candidate_in parts ≡ Ok candidate → IsCandidateLine line candidate
found_by law line candidate None u e h = absurd (cc)
found_by law line candidate (Some parts) u e h =
    let f = parts_found line parts u e in
    let both = both_read (name_of parts.0) (version_of parts.1) candidate h in
    record {
      name = f.0;
      version = f.1;
      are_parts = f.2;
      is_name = ap name_of (sym f.3) ∙ both.0;
      is_version = (law (encode_utf8_all f.1) candidate.version).0 (ap version_of (sym f.4) ∙ both.1);
    }

pub candidate_found : VersionLaw → (line : List ℕ) (candidate : Candidate) → IsUtf8 line
    → candidate_of line ≡ Ok candidate → IsCandidateLine line candidate
unfolding candidate_of
candidate_found law line candidate u h = found_by law line candidate (parts_in (trim line)) u refl h

pub candidate_again : VersionLaw → (line : List ℕ) (candidate : Candidate) → IsUtf8 line
    → IsCandidateLine line candidate → candidate_of line ≡ Ok candidate
unfolding candidate_of
candidate_again law line candidate u r =
    ap candidate_in (parts_again line r.name r.version u r.are_parts)
    ∙ ap (λ n. candidate_by n (version_of (encode_utf8_all r.version))) r.is_name
    ∙ ap (candidate_by (Some candidate.name)) ((law (encode_utf8_all r.version) candidate.version).1 r.is_version)

one_read : (read : Result Candidate CandidateFault) (candidate other : Candidate) → read ≡ Ok candidate → read ≡ Ok other
    → candidate ≡ other
one_read read candidate other h k = cc

-- a line is that of at most one candidate
pub one_candidate : VersionLaw → (line : List ℕ) (candidate other : Candidate) → IsUtf8 line
    → IsCandidateLine line candidate → IsCandidateLine line other → candidate ≡ other
one_candidate law line candidate other u h k =
    one_read (candidate_of line) candidate other (candidate_again law line candidate u h) (candidate_again law line other u k)

-- ---- faults

no_version : VersionLaw → (text : List ℕ) → version_of text ≡ None → (read : VersionRecord) → IsVersionText text read → ⊥
no_version law text e read h =
    let some : version_of text ≡ Some read = (law text read).1 h in cc

version_fault_by : VersionLaw → (line name version normal : List ℕ) (read : Option VersionRecord) (cause : CandidateFault)
    → AreItsParts line name version → name_of (encode_utf8_all name) ≡ Some normal → version_of (encode_utf8_all version) ≡ read
    → candidate_by (Some normal) read ≡ Err cause → IsCandidateFault line cause
version_fault_by law line name version normal (Some v) cause p n e h = absurd (cc)
version_fault_by law line name version normal None cause p n e h =
    let same : Version ≡ cause = cc in
    subst (IsCandidateFault line) same (record {
      name = name;
      version = version;
      normal = normal;
      are_parts = p;
      is_name = n;
      is_none = no_version law (encode_utf8_all version) e;
    })

name_fault_by : VersionLaw → (line name version : List ℕ) (read : Option (List ℕ)) (cause : CandidateFault)
    → AreItsParts line name version → name_of (encode_utf8_all name) ≡ read
    → candidate_by read (version_of (encode_utf8_all version)) ≡ Err cause → IsCandidateFault line cause
name_fault_by law line name version (Some normal) cause p n h =
    version_fault_by law line name version normal (version_of (encode_utf8_all version)) cause p n refl h
name_fault_by law line name version None cause p n h =
    let same : Name ≡ cause = cc in
    subst (IsCandidateFault line) same (record { name = name; version = version; are_parts = p; is_none = n })

fault_by : VersionLaw → (line : List ℕ) (cause : CandidateFault) (parts : Option (List ℕ × List ℕ)) → IsUtf8 line
    → parts_in (trim line) ≡ parts → candidate_in parts ≡ Err cause → IsCandidateFault line cause
fault_by law line cause None u e h =
    let same : Shape ≡ cause = cc in
    subst (IsCandidateFault line) same (λ name version p. let some = sym e ∙ parts_again line name version u p in cc)
fault_by law line cause (Some parts) u e h =
    let f = parts_found line parts u e in
    name_fault_by law line f.0 f.1 (name_of (encode_utf8_all f.0)) cause f.2 refl
    (ap (λ t. candidate_by (name_of t) (version_of (encode_utf8_all f.1))) (sym f.3)
    ∙ ap (λ t. candidate_by (name_of parts.0) (version_of t)) (sym f.4) ∙ h)

pub cause_found : VersionLaw → (line : List ℕ) (cause : CandidateFault) → IsUtf8 line
    → candidate_of line ≡ Err cause → IsCandidateFault line cause
unfolding candidate_of
cause_found law line cause u h = fault_by law line cause (parts_in (trim line)) u refl h

shape_again : (line : List ℕ) (parts : Option (List ℕ × List ℕ)) → IsUtf8 line → parts_in (trim line) ≡ parts
    → ((name version : List ℕ) → AreItsParts line name version → ⊥) → candidate_in parts ≡ Err Shape
shape_again line None u e h = refl
shape_again line (Some parts) u e h = let f = parts_found line parts u e in absurd (h f.0 f.1 f.2)

version_none : VersionLaw → (text : List ℕ) (read : Option VersionRecord) → version_of text ≡ read
    → ((v : VersionRecord) → IsVersionText text v → ⊥) → read ≡ None
version_none law text None e h = refl
version_none law text (Some v) e h = absurd (h v ((law text v).0 e))

pub cause_again : VersionLaw → (line : List ℕ) (cause : CandidateFault) → IsUtf8 line
    → IsCandidateFault line cause → candidate_of line ≡ Err cause
unfolding candidate_of
cause_again law line Shape u h = shape_again line (parts_in (trim line)) u refl h
cause_again law line Name u r =
    ap candidate_in (parts_again line r.name r.version u r.are_parts)
    ∙ ap (λ n. candidate_by n (version_of (encode_utf8_all r.version))) r.is_none
cause_again law line Version u r =
    ap candidate_in (parts_again line r.name r.version u r.are_parts)
    ∙ ap (λ n. candidate_by n (version_of (encode_utf8_all r.version))) r.is_name
    ∙ ap (candidate_by (Some r.normal)) (version_none law (encode_utf8_all r.version) (version_of (encode_utf8_all r.version)) refl r.is_none)
