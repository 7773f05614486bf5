-- The lists of specifiers of marked lines accept what these lines ask for.
use Rattle.std.proofs.Common.{◌≡◌, ◌∙◌, ◌<◌, ◌+◌, ◌&&◌, ℕ, Bool, true, false, cond, List, [], ◌∷◌, ◌++◌, map, take}
use Rattle.std.proofs.Common.{◌≤◌, length, get_or, not, refl, sym, ap, subst, None, IfSome, true≢false, arith}
use Rattle.std.proofs.lemmas.List.{map-append, take_all}
use Rattle.std.proofs.lemmas.List.Folds.{list_all-append}
use Rattle.std.specs.List.{list_all}
use Rattle.pep440_version.specs.Record.{VersionRecord}
use Rattle.pep440_specifier.specs.Matching.{SpecifierRecord}
use Rattle.pep440_specifier_list.specs.Lists.{matches_all}
use Rattle.pep440_range.proofs.Lists.{both_true}
use Rattle.pep508_requirement_text.specs.FrontReading.{Front}
use Rattle.reqtable_range.specs.Together.{all_take}
use Rattle.reqtable_answer.specs.Asks.{ask_takes, specifiers_of}
use Rattle.pep508_cases.specs.Sets.{marked}
use Rattle.reqtable_table.specs.declared.kept.TableLine.{TableLine}
use Rattle.reqtable_table.specs.declared.sieving.Asking.{Asking}
use Rattle.reqtable_table.specs.Choosing.{case_asks}
use Rattle.reqtable_table.specs.Kept.{kept_front, kept_source}
use Rattle.reqtable_table.specs.KeptLines.{line_record}
use Rattle.reqtable_table.specs.Sieving.{HoldsTaken, Knows}
use Rattle.reqtable_table.proofs.AskedLines.{records}
use Rattle.reqtable_table.proofs.Marking.{marked_more, marked_map}

abbrev pub asks_in : List Bool → List TableLine → List Front
asks_in marks lines = map kept_front (records (marked marks lines))

-- what the marked lines accept together, the lists do too
abbrev pub AcceptAll : List Bool → List TableLine → List (List SpecifierRecord) → Type 0
AcceptAll marks lines lists =
    (version : VersionRecord) → list_all (ask_takes version) (asks_in marks lines) ≡ true → all_take lists version ≡ true

pub asks_are : (marks : List Bool) (lines : List TableLine) → case_asks marks (records lines) ≡ asks_in marks lines
asks_are marks lines = ap (map kept_front) (marked_map line_record marks lines)

both_parts : (version : VersionRecord) (xs ys : List Front) → list_all (ask_takes version) (xs ++ ys) ≡ true →
    (list_all (ask_takes version) xs ≡ true) × (list_all (ask_takes version) ys ≡ true)
both_parts version xs ys e =
    both_true (list_all (ask_takes version) xs) (list_all (ask_takes version) ys)
    (sym (list_all-append (ask_takes version) xs ys) ∙ e)

module _ (marks : List Bool) (lines : List TableLine) (i : ℕ) (line : TableLine) (same : length marks ≡ length lines)
    (within : i < length lines) (is : line ≡ get_or lines i line) (lists : List (List SpecifierRecord))
    (so_far : AcceptAll (take i marks) (take i lines) lists) where
  more : (mark : Bool) → get_or marks i false ≡ mark →
      asks_in (take (i + 1) marks) (take (i + 1) lines)
      ≡ asks_in (take i marks) (take i lines) ++ map kept_front (records (cond mark (line ∷ []) []))
  more mark m =
      ap (λ l. map kept_front (records l)) (marked_more marks lines i mark false line same within m is)
      ∙ ap (map kept_front) (map-append line_record (marked (take i marks) (take i lines)) (cond mark (line ∷ []) []))
      ∙ map-append kept_front (records (marked (take i marks) (take i lines))) (records (cond mark (line ∷ []) []))

  -- a line that isn't marked, or has a URL, adds no list
  pub passed_over : AcceptAll (take (i + 1) marks) (take (i + 1) lines) lists
  passed_over version e =
      let mark = get_or marks i false in
      so_far version
      (both_parts version (asks_in (take i marks) (take i lines)) (map kept_front (records (cond mark (line ∷ []) [])))
      (sym (ap (list_all (ask_takes version)) (more mark refl)) ∙ e)).0

  -- one that is adds its own
  pub pushed : get_or marks i false ≡ true → line.is_url ≡ false →
      AcceptAll (take (i + 1) marks) (take (i + 1) lines) (lists ++ line.specifiers.members ∷ [])
  pushed m url version e =
      let parts =
      both_parts version (asks_in (take i marks) (take i lines)) (kept_front (line_record line) ∷ [])
      (sym (ap (list_all (ask_takes version)) (more true m)) ∙ e) in
      let asked = both_true (ask_takes version (kept_front (line_record line))) true parts.1 in
      let own : matches_all line.specifiers.members version ≡ true =
      ap (λ u. matches_all (specifiers_of (kept_source u line.specifiers.members)) version) (sym url) ∙ asked.0 in
      let front = so_far version parts.0 in
      list_all-append (λ list. matches_all list version) lists (line.specifiers.members ∷ [])
      ∙ (λ k. front k && (own k && true))

-- where nothing was made, nothing is known
pub knows_nothing : (asks : List Front) (asking : Asking) → asking.sieve ≡ None → Knows asks asking
knows_nothing asks asking e = subst (λ sieve. IfSome sieve (HoldsTaken asks)) (sym e) tt

-- a line has a list where it is marked and has no URL
pub has_list : (mark url : Bool) → (mark && not url) ≡ true → (mark ≡ true) × (url ≡ false)
has_list true false e = (refl, refl)
has_list true true e = absurd (true≢false (sym e))
has_list false url e = absurd (true≢false (sym e))

-- the lists of all marked lines
pub at_end : (marks : List Bool) (lines : List TableLine) (i : ℕ) (lists : List (List SpecifierRecord)) →
    length marks ≡ length lines → length lines ≤ i → AcceptAll (take i marks) (take i lines) lists →
    (version : VersionRecord) → list_all (ask_takes version) (case_asks marks (records lines)) ≡ true →
    all_take lists version ≡ true
at_end marks lines i lists same past h version e =
    let marks_are : take i marks ≡ marks = take_all i marks (omega arith) in
    let lines_are : take i lines ≡ lines = take_all i lines past in
    h version
    (ap (list_all (ask_takes version)) ((λ k. asks_in (marks_are k) (lines_are k)) ∙ sym (asks_are marks lines)) ∙ e)

-- what the ranges don't hold is rejected
pub not_held : (held all : Bool) → (all ≡ true → held ≡ true) → not held ≡ true → all ≡ false
not_held held false h e = refl
not_held true true h e = absurd (true≢false (sym e))
not_held false true h e = absurd (true≢false (sym (h refl)))
