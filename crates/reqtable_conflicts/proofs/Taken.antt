-- Where just the lines of a conflict apply, no plain version is taken.
use Rattle.std.proofs.Common.{◌≡◌, ◌∙◌, ◌&&◌, ◌+◌, ℕ, Bool, true, false, cond, not, List, [], ◌∷◌, map}
use Rattle.std.proofs.Common.{filter}
use Rattle.std.proofs.Common.{All, None, Some, option_map, refl, sym, ap, subst, true≢false}
use Rattle.std.specs.List.{list_any, list_all, enumerate_from, AllByRecursion}
use Rattle.std.specs.List.Sorted.{IsStrictlySortedBy}
use Rattle.std.specs.Ordering.{nat_cmp}
use Rattle.std.specs.Str.{bytes_eq}
use Rattle.std.proofs.lemmas.List.Elements.{All-nil, All-append, All-filter, All-map}
use Rattle.std.proofs.lemmas.List.Elements.{All-from_recursion, recursion_from_All}
use Rattle.std.proofs.lemmas.Slice.Eq.{bytes_eq-Decides}
use Rattle.pep440_version.specs.Record.{VersionRecord}
use Rattle.pep440_specifier.specs.Matching.{SpecifierRecord}
use Rattle.pep440_specifier.specs.SpecifierReading.{specifier_of}
use Rattle.pep440_specifier_list.specs.ListReading.{IsReadFromText}
use Rattle.pep440_range.proofs.Lists.{both_true}
use Rattle.pep508_diagram.specs.Question.{Valuation}
use Rattle.pep508_requirement_text.specs.FrontReading.{Front}
use Rattle.pep508_cases.specs.Cases.{Marks, IsRealised}
use Rattle.reqtable_candidates.specs.declared.candidates.Candidate.{Candidate}
use Rattle.reqtable_range.specs.Together.{IsPlain}
use Rattle.reqtable_answer.specs.declared.answer.Outcome.TheVariants.{Direct, Nothing}
use Rattle.reqtable_answer.specs.Asks.{specifiers_of, is_of, has_url, ask_takes, names_prerelease}
use Rattle.reqtable_answer.specs.Asks.{is_candidate, may_be_taken}
use Rattle.reqtable_answer.specs.Answer.{Admits, RowRecord, IsRow, outcome_of, chosen, first_greatest}
use Rattle.reqtable_answer.specs.Answer.{by_version}
use Rattle.reqtable_requirements.specs.Asks.{applies, lines_of, asks_of}
use Rattle.reqtable_requirements.specs.LineReading.{LineRecord}
use Rattle.reqtable_requirements.proofs.Specifiers.{BuiltLaw}
use Rattle.reqtable_cases.specs.Lines.{line_marks, numbers_of, asked_by}
use Rattle.reqtable_cases.specs.Usable.{members_asked, is_ranged}
use Rattle.reqtable_cases.specs.Conflicts.{IsConflict, told_of, AreConflicts}
use Rattle.reqtable_cases.proofs.Taken.{conflicts_take_none}
use Rattle.reqtable_packages.proofs.Asked.{its_asks}
use Rattle.reqtable_conflicts.specs.Contradictions.{ConflictRecord, told_under}
use Rattle.reqtable_conflicts.specs.NothingTaken.{ApplySomewhere, TakesNoPlain, HasNothing, EachFound}
use Rattle.reqtable_conflicts.proofs.Numbered.{number_of, Rise, rise_kept, same_marked, applying_marked}
use Rattle.reqtable_conflicts.proofs.Numbered.{numbers_alike}
use Rattle.reqtable_conflicts.proofs.Conflicting.{told_by}
use Rattle.reqtable_conflicts.proofs.ReadFrom.{said_read}

-- ---- each conflict by itself

-- what is said of a conflict's numbers, whatever is told beside them
abbrev OfNumbers : (List ℕ → Type 0) → List ℕ × Bool → Type 0
OfNumbers P one = P one.0

-- numbers are those of a set of lines that contradict each other
record AreOfConflict (lines : List LineRecord) (numbers : List ℕ) : Type 0 where
  set : Marks
  realised : IsRealised (line_marks lines) set
  conflict : IsConflict (asked_by set lines)
  are : numbers ≡ numbers_of set lines

each_set : (lines : List LineRecord) (sets : List Marks) →
    AllByRecursion (IsRealised (line_marks lines)) sets →
    AllByRecursion (λ set. IsConflict (asked_by set lines)) sets →
    AllByRecursion (OfNumbers (AreOfConflict lines)) (map (λ set. told_of set lines) sets)
each_set lines [] realised conflicts = tt
each_set lines (set ∷ sets) realised conflicts = (
  record { set = set; realised = realised.0; conflict = conflicts.0; are = refl },
  each_set lines sets realised.1 conflicts.1,
)

of_conflicts : (lines : List LineRecord) (found : List (List ℕ × Bool)) → AreConflicts lines found →
    AllByRecursion (OfNumbers (AreOfConflict lines)) found
of_conflicts lines found are =
    subst (AllByRecursion (OfNumbers (AreOfConflict lines))) (sym are.told)
    (each_set lines are.sets are.realised are.conflicts)

own_by : (P : List ℕ → Type 0) (b : Bool) (c : ConflictRecord) (cs : List ConflictRecord) → b ≡ true →
    AllByRecursion (OfNumbers P) (map told_by (cond b (c ∷ cs) cs)) → P c.numbers
own_by P true c cs e h = h.0
own_by P false c cs e h = absurd (true≢false (sym e))

behind_by : (P : List ℕ → Type 0) (b : Bool) (c : ConflictRecord) (cs : List ConflictRecord) →
    AllByRecursion (OfNumbers P) (map told_by (cond b (c ∷ cs) cs)) →
    AllByRecursion (OfNumbers P) (map told_by cs)
behind_by P true c cs h = h.1
behind_by P false c cs h = h

-- what holds of the numbers under each name holds of each
each_named : (P : List ℕ → List ℕ → Type 0) (found : List ConflictRecord) →
    ((name : List ℕ) → AllByRecursion (OfNumbers (P name)) (told_under name found)) →
    AllByRecursion (λ c. P c.name c.numbers) found
each_named P [] h = tt
each_named P (c ∷ found) h = (
  own_by (P c.name) (bytes_eq c.name c.name) c (filter (λ o. bytes_eq c.name o.name) found)
      ((bytes_eq-Decides c.name c.name).1 refl) (h c.name),
  each_named P found (λ name.
      behind_by (P name) (bytes_eq name c.name) c (filter (λ o. bytes_eq name o.name) found) (h name)),
)

-- ---- what its lines take

abbrev pub EndsLaw : Type 0
EndsLaw = (text : List ℕ) (specifier : SpecifierRecord) → specifier_of text ≡ Some specifier →
    (specifier.version.least ≡ None) × (specifier.version.most ≡ None)

abbrev IsReadAsk : Front → Type 0
IsReadAsk ask = All IsReadFromText (specifiers_of ask.source)

members_read : (asks : List Front) → AllByRecursion IsReadAsk asks → All IsReadFromText (members_asked asks)
members_read [] h = All-nil IsReadFromText
members_read (ask ∷ asks) h =
    All-append IsReadFromText (specifiers_of ask.source) (members_asked asks) h.0 (members_read asks h.1)

plain_each : (n : ℕ) (candidates : List Candidate) → AllByRecursion (λ c. IsPlain c.version) candidates →
    AllByRecursion (λ c. IsPlain c.1.version) (enumerate_from n candidates)
plain_each n [] plain = tt
plain_each n (c ∷ candidates) plain = (plain.0, plain_each (n + 1) candidates plain.1)

none_kept : (admits : Admits) (asks : List Front) (own : List (ℕ × Candidate)) →
    AllByRecursion (λ c. list_all (ask_takes c.1.version) asks ≡ false) own →
    filter (may_be_taken admits asks) own ≡ []
none_kept admits asks [] h = refl
none_kept admits asks (c ∷ own) h =
    let kept = filter (may_be_taken admits asks) own in
    ap (λ b. cond (b && admits c.1.version (names_prerelease asks)) (c ∷ kept) kept) h.0
    ∙ none_kept admits asks own h.1

no_url : (b : Bool) → not b ≡ true → b ≡ false
no_url true h = absurd (true≢false (sym h))
no_url false h = refl

module _ (built : BuiltLaw) (ends : EndsLaw) (said : List LineRecord) (rise : Rise said)
    (read : All (λ line. All IsReadFromText (specifiers_of line.front.source)) said) (name : List ℕ)
    (numbers : List ℕ) (own : AreOfConflict (lines_of name said) numbers) where
  abbrev its : List LineRecord
  its = lines_of name said

  its_rise : Rise its
  its_rise = rise_kept (λ line. is_of name line.front) said rise

  abbrev AreAlone : Valuation → Type 0
  AreAlone v = map number_of (filter (applies v) its) ≡ numbers

  met_somewhere : (v : Valuation) × AreAlone v
  met_somewhere =
      let v = own.realised.0 in (
        v,
        ap (map number_of) (applying_marked v its) ∙ ap (λ set. numbers_of set its) own.realised.1 ∙ sym own.are,
      )

  its_conflict : (v : Valuation) → AreAlone v → IsConflict (asks_of v its)
  its_conflict v alone =
      let marks = line_marks its v in
      let same = same_marked its own.set marks its_rise
      (sym own.are ∙ sym alone ∙ ap (map number_of) (applying_marked v its)) in
      subst IsConflict (ap (map (λ line. line.front)) (same ∙ sym (applying_marked v its))) own.conflict

  its_read : (v : Valuation) → All IsReadFromText (members_asked (asks_of v its))
  its_read v =
      let front : LineRecord → Front = λ line. line.front in
      let IsReadLine : LineRecord → Type 0 = λ line. All IsReadFromText (specifiers_of line.front.source) in
      members_read (asks_of v its) (recursion_from_All IsReadAsk (asks_of v its)
      (All-map IsReadAsk front (filter (applies v) its) (All-filter (applies v) IsReadLine its
      (All-filter (λ line. is_of name line.front) IsReadLine said read))))

  takes_none : (v : Valuation) (version : VersionRecord) → AreAlone v → IsPlain version →
      list_all (ask_takes version) (asks_of v its) ≡ false
  takes_none v version alone plain =
      let texts = its_read v in
      conflicts_take_none (asks_of v its) version (its_conflict v alone)
      (λ k d within. let one = texts k d within in built one.0 _ one.1)
      (λ k d within. let one = texts k d within in let none = ends one.0 _ one.1 in
      record { no_least = none.0; no_most = none.1 }) plain

  each_refused : (v : Valuation) → AreAlone v → (own : List (ℕ × Candidate)) →
      AllByRecursion (λ c. IsPlain c.1.version) own →
      AllByRecursion (λ c. list_all (ask_takes c.1.version) (asks_of v its) ≡ false) own
  each_refused v alone [] plain = tt
  each_refused v alone (c ∷ own) plain = (takes_none v c.1.version alone plain.0, each_refused v alone own plain.1)

  nothing_there : (v : Valuation) (admits : Admits) (own : List (ℕ × Candidate)) → AreAlone v →
      AllByRecursion (λ c. IsPlain c.1.version) own → outcome_of admits (asks_of v its) own ≡ Nothing
  nothing_there v admits own alone plain =
      let asks = asks_of v its in
      let usable = both_true (not (list_any has_url asks)) (list_all is_ranged (members_asked asks))
      (its_conflict v alone).usable in
      let here = no_url (list_any has_url asks) usable.0 in
      let kept = none_kept admits asks own (each_refused v alone own plain) in
      λ i. cond (here i) Direct (chosen (option_map (λ c. c.0) (first_greatest by_version (kept i))))

  own_plain : (candidates : List Candidate) → All (λ c. IsPlain c.version) candidates →
      AllByRecursion (λ c. IsPlain c.1.version) (filter (is_candidate name) (enumerate_from 0 candidates))
  own_plain candidates plain =
      let P : ℕ × Candidate → Type 0 = λ c. IsPlain c.1.version in
      let numbered : List (ℕ × Candidate) = enumerate_from 0 candidates in
      recursion_from_All P (filter (is_candidate name) numbered) (All-filter (is_candidate name) P numbered
      (All-from_recursion P numbered
      (plain_each 0 candidates (recursion_from_All (λ c. IsPlain c.version) candidates plain))))

  has_nothing : (v : Valuation) (admits : Admits) (candidates : List Candidate) (row : RowRecord) →
      AreAlone v → All (λ c. IsPlain c.version) candidates → IsRow admits (asks_of v said) candidates row →
      row.name ≡ name → row.outcome ≡ Nothing
  has_nothing v admits candidates row alone plain is named =
      is.outcome
      ∙ ap (λ q. outcome_of admits (filter (is_of q) (asks_of v said))
      (filter (is_candidate q) (enumerate_from 0 candidates))) named
      ∙ ap (λ asks. outcome_of admits asks (filter (is_candidate name) (enumerate_from 0 candidates)))
      (its_asks v name said)
      ∙ nothing_there v admits (filter (is_candidate name) (enumerate_from 0 candidates)) alone
      (own_plain candidates plain)

-- ---- and all that are found

from_each : (P : List LineRecord → List ℕ → List ℕ → Type 0) →
    ((said : List LineRecord) → Rise said →
    All (λ line. All IsReadFromText (specifiers_of line.front.source)) said → (name numbers : List ℕ) →
    AreOfConflict (lines_of name said) numbers → P said name numbers) →
    EachFound (λ said c. P said c.name c.numbers)
from_each P each vars nodes requirements said limit found read stand finds =
    let rise = subst (IsStrictlySortedBy nat_cmp) (numbers_alike vars nodes requirements said stand) read.rising in
    let texts = said_read vars nodes requirements said stand read.read in
    All-from_recursion (λ (c : ConflictRecord). P said c.name c.numbers) found (each_named (P said) found (λ name.
    given_each said name rise texts (told_under name found)
    (of_conflicts (lines_of name said) (told_under name found) (finds.2 name))))
  where
    given_each : (said : List LineRecord) (name : List ℕ) → Rise said →
        All (λ line. All IsReadFromText (specifiers_of line.front.source)) said →
        (found : List (List ℕ × Bool)) → AllByRecursion (OfNumbers (AreOfConflict (lines_of name said))) found →
        AllByRecursion (OfNumbers (P said name)) found
    given_each said name rise texts [] own = tt
    given_each said name rise texts (one ∷ found) own =
        (each said rise texts name one.0 own.0, given_each said name rise texts found own.1)

module _ (built : BuiltLaw) (ends : EndsLaw) where
  pub each_somewhere : EachFound ApplySomewhere
  each_somewhere =
      from_each (λ said name numbers. (v : Valuation) × (map number_of (filter (applies v) (lines_of name said)) ≡ numbers))
      (λ said rise texts name numbers own. met_somewhere built ends said rise texts name numbers own)

  pub each_takes : EachFound TakesNoPlain
  each_takes =
      from_each (λ said name numbers. (v : Valuation) (version : VersionRecord) →
      map number_of (filter (applies v) (lines_of name said)) ≡ numbers → IsPlain version →
      list_all (ask_takes version) (asks_of v (lines_of name said)) ≡ false)
      (λ said rise texts name numbers own. takes_none built ends said rise texts name numbers own)

  pub each_has_nothing : EachFound HasNothing
  each_has_nothing =
      from_each (λ said name numbers. (v : Valuation) (admits : Admits) (candidates : List Candidate)
      (row : RowRecord) → map number_of (filter (applies v) (lines_of name said)) ≡ numbers →
      All (λ c. IsPlain c.version) candidates → IsRow admits (asks_of v said) candidates row → row.name ≡ name →
      row.outcome ≡ Nothing)
      (λ said rise texts name numbers own. has_nothing built ends said rise texts name numbers own)
