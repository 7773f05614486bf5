-- Lines that were asked stay the same ones, with some tests more.
use Rattle.std.proofs.Common.{◌≡◌, ◌∙◌, ◌≤◌, ◌<◌, ◌+◌, ◌-◌, ◌^◌, ℕ, zero, suc, nat_lt, Bool, true, false}
use Rattle.std.proofs.Common.{cond, List, [], ◌∷◌, map, length, set, get_or, refl, sym, ap, subst, arith}
use Rattle.std.proofs.Common.{Result, Ok, Err, OnOk, OnErr}
use Rattle.std.proofs.lemmas.Bool.Decides.{nat_tests}
use Rattle.std.proofs.lemmas.List.{length-append}
use Rattle.std.specs.List.{AllZip}
use Rattle.pep440_version.specs.Record.{VersionRecord}
use Rattle.pep440_specifier.specs.Matching.{SpecifierRecord, takes}
use Rattle.pep440_specifier_list.specs.Lists.{CountedRecord, asked, counted}
use Rattle.pep440_specifier_list.specs.Refusals.{IsRefusal}
use Rattle.reqtable_table.specs.declared.kept.TableLine.{TableLine}
use Rattle.reqtable_table.specs.Answers.{SameLine}
use Rattle.reqtable_table.specs.Choosing.{AskedMore}
use Rattle.reqtable_table.specs.Kept.{KeptLine, kept_source, kept_front}
use Rattle.reqtable_table.specs.KeptLines.{line_record}

abbrev pub records : List TableLine → List KeptLine
records lines = map line_record lines

-- ---- one line

same_line : (line : KeptLine) → SameLine line line
same_line line = record {
  number = refl;
  extras = refl;
  marker = refl;
  url = refl;
  bounded = refl;
  members = refl;
}

same_then : (a b c : KeptLine) → SameLine a b → SameLine b c → SameLine a c
same_then a b c s t = record {
  number = s.number ∙ t.number;
  extras = s.extras ∙ t.extras;
  marker = s.marker ∙ t.marker;
  url = s.url ∙ t.url;
  bounded = s.bounded ∙ t.bounded;
  members = s.members ∙ t.members;
}

same_front : (a b : KeptLine) → SameLine a b → kept_front a ≡ kept_front b
same_front a b s =
    λ i. record { name = []; extras = s.extras i; source = kept_source (s.url i) (s.members i) }

asked_by : (b : Bool) (rest most : ℕ) → rest ≤ most → cond b (1 + rest) 1 ≤ suc most
asked_by true rest most le = omega arith
asked_by false rest most le = omega arith

asked_few : (members : List SpecifierRecord) (version : VersionRecord) →
    asked members version ≤ length members
asked_few [] version = omega arith
asked_few (member ∷ members) version =
    asked_by (takes version member) (asked members version) (length members) (asked_few members version)

refusal_few : (members : List SpecifierRecord) (version : VersionRecord) (k : ℕ) →
    IsRefusal members version k → k ≤ length members
refusal_few members version k refusal =
    let long = ap length refusal.split ∙ length-append refusal.before (refusal.member ∷ refusal.after) in
    let counts = refusal.counts in
    omega arith

counted_by : (b : Bool) (n most : ℕ) → nat_lt n (2 ^ 64) ≡ b → n ≤ most → cond b n (2 ^ 64 - 1) ≤ most
counted_by true n most e le = le
counted_by false n most e le = grind (arith, nat_tests)

counted_few : (old new : CountedRecord) (k most : ℕ) → k ≤ most → new ≡ counted old k →
    new.tests ≤ old.tests + most
counted_few old new k most le e =
    subst (λ c. c.tests ≤ old.tests + most) (sym e)
    (counted_by (nat_lt (old.tests + k) (2 ^ 64)) (old.tests + k) (old.tests + most) refl (omega arith))

counted_either : {E P Q R : Type 0} (r : Result Bool E) → OnOk r P → OnErr r Q → (P → R) → (Q → R) → R
counted_either (Ok b) p q f g = f p
counted_either (Err e) p q f g = g q

-- what is asked of a list, answered or refused
pub counted_list : {E : Type 0} (r : Result Bool E) (old new : CountedRecord) (version : VersionRecord) →
    OnOk r (new ≡ counted old (asked old.members version)) →
    OnErr r ((k : ℕ) × IsRefusal old.members version k × (new ≡ counted old k)) →
    (new.members ≡ old.members) × (new.tests ≤ old.tests + length old.members)
counted_list r old new version ok err =
    counted_either r ok err
    (λ e. (
      ap (λ c. c.members) e,
      counted_few old new (asked old.members version) (length old.members) (asked_few old.members version) e,
    ))
    (λ q. (
      ap (λ c. c.members) q.2,
      counted_few old new q.0 (length old.members) (refusal_few old.members version q.0 q.1) q.2,
    ))

-- ---- many lines

pub same_all : (lines : List KeptLine) → AllZip SameLine lines lines
same_all [] = tt
same_all (line ∷ lines) = (same_line line, same_all lines)

pub same_on : (a b c : List KeptLine) → AllZip SameLine a b → AllZip SameLine b c → AllZip SameLine a c
same_on [] [] c s t = t
same_on [] (y ∷ b) c s t = absurd s
same_on (x ∷ a) [] c s t = absurd s
same_on (x ∷ a) (y ∷ b) [] s t = absurd t
same_on (x ∷ a) (y ∷ b) (z ∷ c) s t = (same_then x y z s.0 t.0, same_on a b c s.1 t.1)

pub same_fronts : (a b : List KeptLine) → AllZip SameLine a b → map kept_front a ≡ map kept_front b
same_fronts [] [] s = refl
same_fronts [] (y ∷ b) s = absurd s
same_fronts (x ∷ a) [] s = absurd s
same_fronts (x ∷ a) (y ∷ b) s =
    let here = same_front x y s.0 in
    let rest = same_fronts a b s.1 in
    λ i. here i ∷ rest i

pub none_more : (k : ℕ) (lines : List KeptLine) → AskedMore k lines lines
none_more k lines = record { same = same_all lines; tests = omega arith }

pub more_on : (j k : ℕ) (before lines later : List KeptLine) → AskedMore j lines before →
    AskedMore k later lines → AskedMore (j + k) later before
more_on j k before lines later first then =
    let a = first.tests in
    let b = then.tests in
    record { same = same_on later lines before then.same first.same; tests = omega arith }

pub more_within : (j k : ℕ) (before lines : List KeptLine) → j ≤ k → AskedMore j lines before →
    AskedMore k lines before
more_within j k before lines le more =
    let a = more.tests in
    record { same = more.same; tests = omega arith }

-- one of them is asked
pub more_at : (lines : List TableLine) (i : ℕ) (line new : TableLine) (k : ℕ) → i < length lines →
    line ≡ get_or lines i line → SameLine (line_record new) (line_record line) →
    new.specifiers.tests ≤ line.specifiers.tests + k → AskedMore k (records (set lines i new)) (records lines)
more_at [] i line new k within is same most = absurd (omega arith)
more_at (x ∷ lines) zero line new k within is same most =
    let few = subst (λ l. new.specifiers.tests ≤ l.specifiers.tests + k) is most in
    record {
      same = (subst (λ l. SameLine (line_record new) (line_record l)) is same, same_all (records lines));
      tests = omega arith;
    }
more_at (x ∷ lines) (suc i) line new k within is same most =
    let rest = more_at lines i line new k (omega arith) is same most in
    let few = rest.tests in
    record { same = (same_line (line_record x), rest.same); tests = omega arith }
