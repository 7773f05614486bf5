-- What holds of the lines that a table keeps, by what holds of those that it was built of.
use Rattle.std.proofs.Common.{◌≡◌, ◌∙◌, ℕ, Bool, true, false, cond, List, [], ◌∷◌, map, filter, All, Option}
use Rattle.std.proofs.Common.{Some, None, refl, sym, ap, subst, true≢false, Less}
use Rattle.std.proofs.lemmas.List.Elements.{recursion_from_All}
use Rattle.std.specs.List.{AllZip, AllByRecursion}
use Rattle.std.specs.List.Sorted.{IsStrictlySortedBy}
use Rattle.std.specs.Ordering.{nat_cmp}
use Rattle.pep440_specifier.specs.Building.{IsBuilt}
use Rattle.pep440_specifier.specs.Matching.{SpecifierRecord}
use Rattle.pep440_specifier.specs.SpecifierReading.{specifier_of}
use Rattle.pep440_specifier_list.specs.ListReading.{IsReadFromText}
use Rattle.pep440_range.specs.Agreement.{IsSaid}
use Rattle.pep508_tree.specs.Meaning.{NodeRecord}
use Rattle.pep508_url.specs.UrlTexts.{Verbatim}
use Rattle.pep508_url.specs.declared.url_error.VerbatimUrlError.{VerbatimUrlError}
use Rattle.pep508_requirement.specs.declared.version_or_url.VersionOrUrl.{VersionOrUrl}
use Rattle.pep508_requirement.specs.declared.version_or_url.VersionOrUrl.TheVariants.{VersionSpecifier, Url}
use Rattle.reqtable_requirements.specs.LineSpecifiers.{specifiers_by, specifiers_in}
use Rattle.reqtable_requirements.specs.ReadLines.{AreRead}
use Rattle.reqtable_requirements.specs.declared.requirements.Line.{Line}
use Rattle.reqtable_groups.specs.declared.lines_by_package.Group.{Group}
use Rattle.reqtable_table.specs.Building.{IsPackageOf}
use Rattle.reqtable_groups.specs.Given.{given_by, is_url_by, is_under, AreGrouped}
use Rattle.reqtable_table.specs.Kept.{KeptLine, KeptPackage, kept_under, names_in}
use Rattle.reqtable_table.specs.KeptLines.{kept_by}
use Rattle.reqtable_table.specs.Standing.{HasItsFlags, IsOfTexts, HasItsLines, IsTable}
use Rattle.reqtable_table.proofs.Built.{names_alike, under_alike}
use Rattle.reqtable_table.proofs.Rising.{name_cmp}
use Rattle.reqtable_table.proofs.RowsOfLines.{own_lines}

-- ---- one line

no_specifiers : (what : Option (VersionOrUrl Verbatim VerbatimUrlError)) → is_url_by what ≡ true → specifiers_by what ≡ []
no_specifiers None e = absurd (true≢false (sym e))
no_specifiers (Some (VersionSpecifier list)) e = absurd (true≢false (sym e))
no_specifiers (Some (Url url)) e = refl

abbrev kept_of : Line → KeptLine
kept_of line = kept_by (given_by line)

flags_of : (line : Line) → HasItsFlags (kept_of line)
flags_of line = record { bounded = refl; direct = no_specifiers line.requirement.version_or_url }

module _ (built : (text : List ℕ) (s : SpecifierRecord) → specifier_of text ≡ Some s → IsBuilt s)
    (ends : (text : List ℕ) (s : SpecifierRecord) → specifier_of text ≡ Some s → (s.version.least ≡ None) × (s.version.most ≡ None)) where
  said_of : (members : List SpecifierRecord) → AllByRecursion IsReadFromText members →
      AllByRecursion (λ s. IsBuilt s × IsSaid s.version) members
  said_of [] h = tt
  said_of (s ∷ members) h =
      let none = ends h.0.0 s h.0.1 in
      ((built h.0.0 s h.0.1, record { no_least = none.0; no_most = none.1 }), said_of members h.1)

  texts_of : (line : Line) → All IsReadFromText (specifiers_in line) → IsOfTexts (kept_of line)
  texts_of line h = said_of (specifiers_in line) (recursion_from_All IsReadFromText (specifiers_in line) h)

  -- ---- the lines of a package

  flags_if : (b : Bool) (line : Line) (lines : List Line) → AllByRecursion HasItsFlags (map kept_of lines) →
      AllByRecursion HasItsFlags (map kept_of (cond b (line ∷ lines) lines))
  flags_if true line lines h = (flags_of line, h)
  flags_if false line lines h = h

  all_flags : (test : Line → Bool) (lines : List Line) → AllByRecursion HasItsFlags (map kept_of (filter test lines))
  all_flags test [] = tt
  all_flags test (line ∷ lines) = flags_if (test line) line (filter test lines) (all_flags test lines)

  texts_if : (b : Bool) (line : Line) (lines : List Line) → IsOfTexts (kept_of line) → AllByRecursion IsOfTexts (map kept_of lines) →
      AllByRecursion IsOfTexts (map kept_of (cond b (line ∷ lines) lines))
  texts_if true line lines h rest = (h, rest)
  texts_if false line lines h rest = rest

  all_texts : (test : Line → Bool) (lines : List Line) → AllByRecursion (λ line. All IsReadFromText (specifiers_in line)) lines →
      AllByRecursion IsOfTexts (map kept_of (filter test lines))
  all_texts test [] h = tt
  all_texts test (line ∷ lines) h =
      texts_if (test line) line (filter test lines) (texts_of line h.0) (all_texts test lines h.1)

  abbrev numbers : List Line → List ℕ
  numbers lines = map (λ (line : Line). line.number) lines

  abbrev AllAbove : ℕ → List Line → Type 0
  AllAbove n lines = AllByRecursion (λ m. nat_cmp n m ≡ Less) (numbers lines)

  above_if : (n : ℕ) (b : Bool) (line : Line) (lines : List Line) → nat_cmp n line.number ≡ Less → AllAbove n lines →
      AllAbove n (cond b (line ∷ lines) lines)
  above_if n true line lines h rest = (h, rest)
  above_if n false line lines h rest = rest

  some_above : (n : ℕ) (test : Line → Bool) (lines : List Line) → AllAbove n lines → AllAbove n (filter test lines)
  some_above n test [] h = tt
  some_above n test (line ∷ lines) h = above_if n (test line) line (filter test lines) h.0 (some_above n test lines h.1)

  rising_if : (b : Bool) (line : Line) (lines : List Line) → AllAbove line.number lines → IsStrictlySortedBy nat_cmp (numbers lines) →
      IsStrictlySortedBy nat_cmp (numbers (cond b (line ∷ lines) lines))
  unfolding IsStrictlySortedBy
  rising_if true line lines h rest = (h, rest)
  rising_if false line lines h rest = rest

  some_rising : (test : Line → Bool) (lines : List Line) → IsStrictlySortedBy nat_cmp (numbers lines) →
      IsStrictlySortedBy nat_cmp (numbers (filter test lines))
  unfolding IsStrictlySortedBy
  some_rising test [] h = tt
  some_rising test (line ∷ lines) h =
      rising_if (test line) line (filter test lines) (some_above line.number test lines h.0) (some_rising test lines h.1)

  same_numbers : (lines : List Line) → map (λ (l : KeptLine). l.number) (map kept_of lines) ≡ numbers lines
  same_numbers [] = refl
  same_numbers (line ∷ lines) = ap (λ l. line.number ∷ l) (same_numbers lines)

  twice : (lines : List Line) → map kept_by (map given_by lines) ≡ map kept_of lines
  twice [] = refl
  twice (line ∷ lines) = ap (λ l. kept_of line ∷ l) (twice lines)

  its_lines : (lines : List Line) → AreRead lines → (test : Line → Bool) (kept : KeptPackage) →
      kept.lines ≡ map kept_of (filter test lines) → HasItsLines kept
  its_lines lines read test kept is = record {
    rising =
        subst (IsStrictlySortedBy nat_cmp) (sym (ap (map (λ (l : KeptLine). l.number)) is ∙ same_numbers (filter test lines)))
        (some_rising test lines read.rising);
    flags = subst (AllByRecursion HasItsFlags) (sym is) (all_flags test lines);
    read = subst (AllByRecursion IsOfTexts) (sym is)
        (all_texts test lines (recursion_from_All (λ (line : Line). All IsReadFromText (specifiers_in line)) lines read.read));
  }

  -- ---- the table

  module _ (limit : ℕ) (nodes : List NodeRecord) (lines : List Line) (read : AreRead lines) (groups : List Group)
      (are : AreGrouped lines groups) (table : List KeptPackage) (made : AllZip (IsPackageOf limit nodes) groups table) where
    each : (some : List KeptPackage) → AllByRecursion (λ p. kept_under p.name table ≡ p.lines) some → AllByRecursion HasItsLines some
    each [] own = tt
    each (p ∷ some) own = (
      its_lines lines read (is_under p.name) p
          (sym own.0 ∙ under_alike limit nodes p.name groups table made ∙ ap (map kept_by) (are.each p.name)
          ∙ twice (filter (is_under p.name) lines)),
      each some own.1,
    )

    names_rise : IsStrictlySortedBy name_cmp (names_in table)
    names_rise = subst (IsStrictlySortedBy name_cmp) (sym (names_alike limit nodes groups table made)) are.rising

    pub is_table : IsTable table
    is_table = record { rising = names_rise; lines = each table (own_lines table names_rise) }
