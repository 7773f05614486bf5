-- What was read, line by line.
use Rattle.std.proofs.Common.{◌≡◌, ◌∙◌, ℕ, ◌+◌, Bool, true, false, List, [], ◌∷◌, ◌++◌, Some, Result, Ok, Err, IsTrue, refl, sym, ap, subst}
use Rattle.std.specs.Borrow.{Bor}
use Rattle.std.specs.List.{AllByRecursion, AllZip}
use Rattle.std.specs.Option.{option_map_or}
use Rattle.std.specs.Str.{trim}
use Rattle.read_outcome.specs.Outcome.{Tells}
use Rattle.pep440_version.specs.Packing.{packed}
use Rattle.pep440_version.specs.Reading.{version_of}
use Rattle.pep440_version.specs.Record.{VersionRecord}
use Rattle.pep508_name.specs.Name.{is_name, name_of}
use Rattle.pep508_requirement_text.specs.FrontReading.{Front}
use Rattle.reqtable_candidates.specs.TextLines.{without_comment, is_blank, each_line}
use Rattle.reqtable_candidates.specs.CandidateLine.{candidate_by, candidate_in, candidate_of, has_name}
use Rattle.reqtable_candidates.specs.Candidates.{at_line, candidate_at, told_candidates}
use Rattle.reqtable_candidates.specs.declared.candidates.Candidate.{Candidate}
use Rattle.reqtable_candidates.specs.declared.candidates.CandidatesError.{CandidatesError}
use Rattle.reqtable_candidates.proofs.Lines.{lines_of, numbered, seen, lines_more_kept, lines_more_blank, each_more}
use Rattle.reqtable_answer.specs.Admission.{Admits}
use Rattle.reqtable_streaming.specs.declared.required.Package.{Package}
use Rattle.reqtable_streaming.specs.LinesRead.{text_of, OffersRead}
use Rattle.reqtable_streaming.specs.Packages.{AreSound, IsNew, IsNext, candidate_with}
use Rattle.reqtable_streaming.specs.PlainLines.{ArePlainParts}
use Rattle.reqtable_streaming.proofs.Best.{KeepsBest, each_next}
use Rattle.reqtable_streaming.proofs.NormalForms.{is_named}

-- what reading returns, by what it is the reading of
pub offers_same : {X : Type 0} (Offered : Candidate → Type 0) (result : Result X CandidatesError)
    (inner outer : Result Candidate CandidatesError) → outer ≡ inner → OffersRead Offered result inner
    → OffersRead Offered result outer
offers_same Offered (Ok x) inner outer e h = (h.0, e ∙ h.1, h.2)
offers_same Offered (Err error) inner outer e h =
    let P : Result Candidate CandidatesError → Type 0 = λ r. Tells (told_candidates error) r in subst P (sym e) h

pub never : (b : Bool) → (b ≡ true → ⊥) → b ≡ false
never true h = absurd (h refl)
never false h = refl

-- ---- a line in the common form

module _ (line name version form : List ℕ) (are : ArePlainParts line name version) (is : name_of name ≡ Some form) where
  pub plain_reading : (number : ℕ)
      → candidate_at number (without_comment line) ≡ at_line number (candidate_by (Some form) (version_of version))
  unfolding candidate_of
  plain_reading number =
      ap (λ parts. at_line number (candidate_in parts)) are.parts
      ∙ ap (λ n. at_line number (candidate_by n (version_of version))) is

  pub plain_named : IsTrue (has_name (trim (without_comment line)))
  plain_named =
      ap (λ parts. option_map_or (λ (p : List ℕ × List ℕ). is_name p.0) parts false) are.parts ∙ is_named name form is

-- ---- a version with a word

pub over_read : (word : ℕ) (text name : List ℕ) (number : ℕ) (packages : List Package)
    → (version : VersionRecord) × (version_of text ≡ Some version) × (packed version ≡ Some word)
    → ((admits : Admits) (version : VersionRecord) → packed version ≡ Some word
    → AllZip (IsNext admits (candidate_with name version)) packages packages)
    → (candidate : Candidate) × (at_line number (candidate_by (Some name) (version_of text)) ≡ Ok candidate)
    × ((admits : Admits) → AllZip (IsNext admits candidate) packages packages)
over_read word text name number packages read over = (
  candidate_with name read.0,
  ap (λ version. at_line number (candidate_by (Some name) version)) read.1,
  λ admits. over admits read.0 read.2,
)

-- ---- all lines so far

module _ (Lawful : Admits → Type 0) (first : List Package) where
  -- the candidates of some lines were offered to the packages
  abbrev pub HaveRead : List (ℕ × List ℕ) → List Package → Type 0
  HaveRead lines packages =
      (candidates : List Candidate) × (each_line candidate_at lines ≡ Ok candidates)
      × ((admits : Admits) (all : List Front) → Lawful admits → AllByRecursion (IsNew all) first
      → AllByRecursion (KeepsBest admits all candidates) packages)

  module _ (parts : List (ℕ × Bor (List ℕ))) (part : ℕ × Bor (List ℕ)) (old new : List Package) where
    abbrev Offered : Type 0
    Offered =
        (candidate : Candidate) × (candidate_at (part.0 + 1) (text_of part.1.now) ≡ Ok candidate)
        × ((admits : Admits) → Lawful admits → AllZip (IsNext admits candidate) old new)

    past_blank : HaveRead (lines_of parts) old → is_blank (text_of part.1.now) ≡ true → new ≡ old
        → HaveRead (lines_of (parts ++ part ∷ [])) new
    past_blank read h same =
        let P : List (ℕ × List ℕ) → Type 0 = λ lines. HaveRead lines old in
        subst (HaveRead (lines_of (parts ++ part ∷ []))) (sym same) (subst P (sym (lines_more_blank parts part h)) read)

    past_offered : AreSound old → HaveRead (lines_of parts) old → is_blank (text_of part.1.now) ≡ false → Offered
        → HaveRead (lines_of (parts ++ part ∷ [])) new
    past_offered sound read h offered = (
      read.0 ++ offered.0 ∷ [],
      ap (each_line candidate_at) (lines_more_kept parts part h)
          ∙ each_more candidate_at (lines_of parts) read.0 (numbered (seen part)) offered.0 read.1 offered.1,
      λ admits all by is_new.
          each_next admits all read.0 offered.0 old new sound (offered.2 admits by) (read.2 admits all by is_new),
    )

    past_by : (b : Bool) → is_blank (text_of part.1.now) ≡ b → AreSound old → HaveRead (lines_of parts) old
        → (is_blank (text_of part.1.now) ≡ true → new ≡ old) → (is_blank (text_of part.1.now) ≡ false → Offered)
        → HaveRead (lines_of (parts ++ part ∷ [])) new
    past_by true e sound read blank offered = past_blank read e (blank e)
    past_by false e sound read blank offered = past_offered sound read e (offered e)

    pub past_line : AreSound old → HaveRead (lines_of parts) old → (is_blank (text_of part.1.now) ≡ true → new ≡ old)
        → (is_blank (text_of part.1.now) ≡ false → Offered) → HaveRead (lines_of (parts ++ part ∷ [])) new
    past_line sound read blank offered = past_by (is_blank (text_of part.1.now)) refl sound read blank offered
