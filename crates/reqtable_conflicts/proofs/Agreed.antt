-- Lines that agree have no conflict, and a package of such lines has few cases.
use Rattle.std.proofs.Common.{◌≡◌, ◌∙◌, ◌&&◌, ◌||◌, ◌↔◌, ℕ, Bool, true, false, not, IsTrue, List, [], ◌∷◌, Some}
use Rattle.std.proofs.Common.{map, refl, sym, ap, true≢false, inl, inr, arith, subst}
use Rattle.std.proofs.lemmas.Bool.{cases_Bool}
use Rattle.std.proofs.lemmas.List.Folds.{list_all-append}
use Rattle.std.specs.List.{list_any, list_all, flat_map, AllZip}
use Rattle.std.specs.Str.{bytes_eq}
use Rattle.version_ranges.specs.Point.{Point}
use Rattle.version_ranges.specs.Held.{holds_at}
use Rattle.pep440_version.specs.Record.{VersionRecord}
use Rattle.pep440_version.specs.Order.{version_cmp}
use Rattle.pep440_specifier.specs.Matching.{SpecifierRecord}
use Rattle.pep440_range.specs.Ranges.{range_of, range_holds, all_hold}
use Rattle.pep508_diagram.specs.Question.{Valuation}
use Rattle.pep508_cases.specs.Cases.{Marks}
use Rattle.pep508_tree.specs.Meaning.{NodeRecord}
use Rattle.pep508_url.specs.Vars.{Variables}
use Rattle.pep508_requirement_text.specs.FrontReading.{Front}
use Rattle.reqtable_answer.specs.Asks.{is_of, specifiers_of}
use Rattle.reqtable_requirements.specs.Asks.{lines_of}
use Rattle.reqtable_requirements.specs.LineReading.{LineRecord}
use Rattle.reqtable_requirements.specs.LineSpecifiers.{specifiers_in}
use Rattle.reqtable_requirements.specs.Requirements.{StandsFor}
use Rattle.reqtable_requirements.specs.declared.requirements.Line.{Line}
use Rattle.reqtable_cases.specs.Lines.{line_marks, asked_by, HasTooMany}
use Rattle.reqtable_cases.specs.Usable.{members_asked, IsRangeOfMembers}
use Rattle.reqtable_cases.specs.Conflicts.{IsConflict}
use Rattle.reqtable_table.specs.Given.{is_under}
use Rattle.reqtable_conflicts.specs.Agreeing.{Agree, AreDoubtful, Meet}
use Rattle.reqtable_packages.specs.Packages.{lines_under}
use Rattle.reqtable_packages.proofs.Few.{few_cases}
use Rattle.reqtable_packages.proofs.Passing.{Rise}
use Rattle.reqtable_packages.proofs.Standing.{asked_all, under, unnamed, named_alike}

both : (a b : Bool) → (a && b) ≡ true → (a ≡ true) × (b ≡ true)
both true b h = (refl, h)
both false b h = absurd (true≢false (sym h))

from_both : (a b : Bool) → a ≡ true → b ≡ true → (a && b) ≡ true
from_both a b h k = ap (λ x. x && b) h ∙ k

module _ (p : Point VersionRecord) where
  abbrev test : SpecifierRecord → Bool
  test s = range_holds (range_of s) p

  abbrev fronts : List LineRecord → List Front
  fronts said = map (λ one. one.front) said

  held : (members : List SpecifierRecord) → all_hold (map range_of members) p ≡ list_all test members
  held [] = refl
  held (s ∷ members) = ap (λ b. test s && b) (held members)

  all_said : (vars : Variables) (nodes : List NodeRecord) (lines : List Line) (said : List LineRecord) →
      AllZip (StandsFor vars nodes) lines said →
      list_all test (members_asked (fronts said)) ≡ list_all test (flat_map specifiers_in lines)
  all_said vars nodes [] [] h = refl
  all_said vars nodes [] (one ∷ said) h = absurd h
  all_said vars nodes (line ∷ lines) [] h = absurd h
  all_said vars nodes (line ∷ lines) (one ∷ said) h =
      let first = asked_all vars test one.front.source line.requirement.version_or_url h.0.asks in
      let rest = all_said vars nodes lines said h.1 in
      list_all-append test (specifiers_of one.front.source) (members_asked (fronts said))
      ∙ (λ i. first i && rest i)
      ∙ sym (list_all-append test (specifiers_in line) (flat_map specifiers_in lines))

  fewer_hold : (set : Marks) (said : List LineRecord) → list_all test (members_asked (fronts said)) ≡ true →
      list_all test (members_asked (asked_by set said)) ≡ true
  fewer_hold [] said h = refl
  fewer_hold (b ∷ set) [] h = refl
  fewer_hold (true ∷ set) (one ∷ said) h =
      let own = specifiers_of one.front.source in
      let parts = both (list_all test own) (list_all test (members_asked (fronts said)))
      (sym (list_all-append test own (members_asked (fronts said))) ∙ h) in
      list_all-append test own (members_asked (asked_by set said))
      ∙ from_both (list_all test own) (list_all test (members_asked (asked_by set said))) parts.0
      (fewer_hold set said parts.1)
  fewer_hold (false ∷ set) (one ∷ said) h =
      let own = specifiers_of one.front.source in
      fewer_hold set said
      (both (list_all test own) (list_all test (members_asked (fronts said)))
      (sym (list_all-append test own (members_asked (fronts said))) ∙ h)).1

  outside : (set : Marks) (said : List LineRecord) → IsConflict (asked_by set said) →
      list_all test (members_asked (fronts said)) ≡ false
  outside set said conflict = elim (cases_Bool (list_all test (members_asked (fronts said)))) [
    | inl h ↦
        absurd (true≢false (sym (fewer_hold set said h) ∙ sym (held (members_asked (asked_by set said))) ∙ conflict.none p))
    | inr h ↦ h
  ]

meeting : (vars : Variables) (nodes : List NodeRecord) (lines : List Line) (said : List LineRecord) (set : Marks) →
    AllZip (StandsFor vars nodes) lines said → Meet lines → IsConflict (asked_by set said) → ⊥
meeting vars nodes lines said set stand meet conflict =
    meet
    (λ p. held p (flat_map specifiers_in lines) ∙ sym (all_said p vars nodes lines said stand) ∙ outside p set said conflict)

-- ---- packages that aren't doubtful

pub empty_has_none : (lines : List LineRecord) (v : Valuation) → lines ≡ [] → IsConflict (asked_by (line_marks lines v) lines) → ⊥
empty_has_none [] v e conflict = omega (arith, conflict.some)
empty_has_none (one ∷ lines) v e conflict = absurd (cc)

module _ (vars : Variables) (nodes : List NodeRecord) (limit : ℕ) (lines : List Line) (said : List LineRecord)
    (names : List (List ℕ)) (stand : AllZip (StandsFor vars nodes) lines said)
    (are : AreDoubtful limit lines names) where
  pub no_conflict : (q : List ℕ) → list_any (bytes_eq q) names ≡ false → (v : Valuation) →
      IsConflict (asked_by (line_marks (lines_of q said) v) (lines_of q said)) → ⊥
  no_conflict q not v conflict = elim (cases_Bool (list_any (is_under q) lines)) [
    | inl e ↦
        meeting vars nodes (lines_under q lines) (lines_of q said) (line_marks (lines_of q said) v)
        (under vars nodes q lines said stand) (are.others q not e).meet conflict
    | inr e ↦
        empty_has_none (lines_of q said) v
        (unnamed (λ one. is_of q one.front) said (sym (named_alike vars nodes lines said q stand) ∙ e)) conflict
  ]

  pub few_others : (q : List ℕ) → list_any (bytes_eq q) names ≡ false → HasTooMany limit said q → ⊥
  few_others q not too =
      few_cases vars nodes limit q lines said stand
      (are.others q not (named_alike vars nodes lines said q stand ∙ too.named)).few too

-- ---- as they are found

pub are_doubtful : (limit : ℕ) (lines : List Line) (names names' some : List (List ℕ)) (own : List ℕ → List Line) →
    ((q : List ℕ) → own q ≡ lines_under q lines) → names' ≡ names →
    ((q : List ℕ) → list_any (bytes_eq q) names ≡ (list_any (is_under q) lines || false)) → Rise some →
    ((q : List ℕ) → list_any (bytes_eq q) names' ≡ true → list_any (bytes_eq q) some ≡ false → Agree limit (own q)) →
    AreDoubtful limit lines some
are_doubtful limit lines names names' some own are_own same are rise agree = record {
  rising = rise;
  others = λ q not there.
      subst (Agree limit) (are_own q)
      (agree q (ap (list_any (bytes_eq q)) same ∙ are q ∙ ap (λ b. b || false) there) not);
}

not_both : (b : Bool) → b ≡ true → not b ≡ true → ⊥
not_both true h k = absurd (true≢false (sym k))
not_both false h k = absurd (true≢false (sym h))

pub some_point : (members : List SpecifierRecord) (set : List (Point VersionRecord)) (lines : List Line)
    (nothing : Bool) → members ≡ flat_map specifiers_in lines → IsRangeOfMembers members (Some set) →
    IsTrue nothing ↔ ((p : Point VersionRecord) → holds_at version_cmp set p ≡ false) → IsTrue (not nothing) →
    Meet lines
some_point members set lines nothing same of exactly some none =
    not_both nothing
    (exactly.1 (λ p. of.1 p ∙ ap (λ (ms : List SpecifierRecord). all_hold (map range_of ms) p) same ∙ none p)) some

pub doubtful_at : (limit : ℕ) (lines lines' : List Line) (names names' : List (List ℕ)) → lines ≡ lines' →
    names ≡ names' → AreDoubtful limit lines names → AreDoubtful limit lines' names'
doubtful_at limit lines lines' names names' same named are =
    subst (λ ls. AreDoubtful limit ls names') same (subst (AreDoubtful limit lines) named are)
