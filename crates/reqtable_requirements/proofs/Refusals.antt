-- Why a line is refused, by the grammar, and which line of a text.
use Rattle.std.proofs.Common.{◌≡◌, ◌∙◌, ◌↔◌, ◌⊎◌, inl, inr, ℕ, ◌==◌, Bool, true, false, if◌then◌else◌, List}
use Rattle.std.proofs.Common.{[], ◌∷◌, ◌++◌, Result, Ok, Err, refl, ap, sym}
use Rattle.std.specs.Str.{IsUtf8, skip_leading_whitespace}
use Rattle.pep440_specifier.specs.SpecifierText.{AreSpaces}
use Rattle.pep508_url.specs.Vars.{Variables}
use Rattle.pep508_url.specs.UrlFaults.{UrlFault}
use Rattle.pep508_url.specs.UrlTexts.{Verbatim}
use Rattle.pep508_marker_parser.specs.SideReading as markers
use Rattle.pep508_marker_parser.specs.MarkerReading.{Marker, marker_at}
use Rattle.pep508_requirement_text.specs.FrontReading.{Source, Front, Refused, front_reading}
use Rattle.pep508_requirement_text.specs.FrontReading.Source.{Any, Specifiers, Url}
use Rattle.pep508_error.proofs.Tests.{the_same}
use Rattle.pep508_error.proofs.Spaces.{spaces_found, spaces_again}
use Rattle.pep508_requirement.specs.MarkerBehind.{marker_behind}
use Rattle.pep508_requirement.proofs.Behind.{FoundLaw, AgainLaw}
use Rattle.pep508_requirement.proofs.Requirements.{FrontFound, FrontAgain}
use Rattle.reqtable_candidates.specs.TextLines.{text_lines}
use Rattle.reqtable_candidates.proofs.Lines.{FirstFault, fault_found, fault_again, all_zip_map}
use Rattle.reqtable_candidates.proofs.Texts.{text_is_read, text_found}
use Rattle.reqtable_requirements.specs.LineReading.{LineRecord, LinesFault, NotText, NoRequirement}
use Rattle.reqtable_requirements.specs.LineReading.{NumberAtEnd, url_of, with_marker, with_url}
use Rattle.reqtable_requirements.specs.LineReading.{with_source, with_front, line_of}
use Rattle.reqtable_requirements.specs.LineText.{HasItsUrl, IsRequirementLine, IsNumberedLine}
use Rattle.reqtable_requirements.specs.FirstRefused.{HasNumberAtEnd, IsNoRequirement, IsFirstRefused}
use Rattle.reqtable_requirements.specs.Requirements.{requirements_of}
use Rattle.reqtable_requirements.proofs.Grammar.{line_found, line_again, source_again, at_found, at_again}

abbrev refused_so : LinesFault → Result LineRecord LinesFault
refused_so fault = Err fault

same_fault : (fault other : LinesFault) → refused_so fault ≡ Err other → other ≡ fault
same_fault fault other h = cc

-- ---- what is told of a line that is refused

-- it is none, or its marker has such a number
abbrev ToldOf : ℕ → LinesFault → Type 0 → Type 0
ToldOf number fault IsAtEnd = (fault ≡ NoRequirement number) ⊎ ((fault ≡ NumberAtEnd number) × IsAtEnd)

marker_told : (number : ℕ) (front : Front) (read : Result Marker markers.Refused) (fault : LinesFault)
    → with_marker number front read ≡ Err fault → ToldOf number fault (read ≡ Err markers.AtEnd)
marker_told number front (Ok marker) fault h = absurd (cc)
marker_told number front (Err markers.Malformed) fault h = inl (same_fault (NoRequirement number) fault h)
marker_told number front (Err markers.TooDeep) fault h = inl (same_fault (NoRequirement number) fault h)
marker_told number front (Err markers.AtEnd) fault h = inr (same_fault (NumberAtEnd number) fault h, refl)

-- what stands behind a front is a marker with such a number
record IsBehindAtEnd (rest : List ℕ) : Type 0 where
  spaces : List ℕ
  marker : List ℕ
  split : rest ≡ spaces ++ 59 ∷ marker
  are_spaces : AreSpaces spaces
  at_end : marker_at marker ≡ Err markers.AtEnd

abbrev marker_if : List ℕ → Bool → Result Marker markers.Refused
marker_if cs t = if t then marker_at cs else Err markers.Malformed

mark_at_end : (c : ℕ) (cs : List ℕ) (t : Bool) → (c == 59) ≡ t → marker_if cs t ≡ Err markers.AtEnd
    → (c ≡ 59) × (marker_at cs ≡ Err markers.AtEnd)
mark_at_end c cs true e h = (the_same c 59 e, h)
mark_at_end c cs false e h = absurd (cc)

behind_by : (rest spaces left : List ℕ) → rest ≡ spaces ++ left → AreSpaces spaces
    → marker_behind left ≡ Err markers.AtEnd → IsBehindAtEnd rest
behind_by rest spaces [] split are_spaces h = absurd (cc)
behind_by rest spaces (c ∷ cs) split are_spaces h =
    let mark = mark_at_end c cs (c == 59) refl h in
    record {
      spaces = spaces;
      marker = cs;
      split = split ∙ ap (λ d. spaces ++ d ∷ cs) mark.0;
      are_spaces = are_spaces;
      at_end = mark.1;
    }

behind_found : (rest : List ℕ) → marker_behind (skip_leading_whitespace rest) ≡ Err markers.AtEnd → IsBehindAtEnd rest
behind_found rest h =
    let skipped = spaces_found rest in
    behind_by rest skipped.spaces (skip_leading_whitespace rest) skipped.split skipped.are_spaces h

module _ (vars : Variables) (number : ℕ) (front : Front) (rest : List ℕ) where
  abbrev AtEndBehind : Source → Type 0
  AtEndBehind source = HasItsUrl vars source × (marker_behind (skip_leading_whitespace rest) ≡ Err markers.AtEnd)

  url_told_by : (fault : LinesFault) (text : List ℕ) (url : Verbatim) → url_of vars text ≡ Ok url
      → ToldOf number fault (marker_behind (skip_leading_whitespace rest) ≡ Err markers.AtEnd)
      → ToldOf number fault (AtEndBehind (Url text))
  url_told_by fault text url e (inl h) = inl h
  url_told_by fault text url e (inr h) = inr (h.0, ((url, e), h.1))

  url_told : (text : List ℕ) (read : Result Verbatim UrlFault) (fault : LinesFault) → url_of vars text ≡ read
      → with_url number front rest read ≡ Err fault → ToldOf number fault (AtEndBehind (Url text))
  url_told text (Ok url) fault e h =
      url_told_by fault text url e (marker_told number front (marker_behind (skip_leading_whitespace rest)) fault h)
  url_told text (Err wrong) fault e h = inl (same_fault (NoRequirement number) fault h)

  plain_told_by : (fault : LinesFault) (IsAtEnd : Type 0) → ToldOf number fault IsAtEnd
      → ToldOf number fault (Unit {0} × IsAtEnd)
  plain_told_by fault IsAtEnd (inl h) = inl h
  plain_told_by fault IsAtEnd (inr h) = inr (h.0, (tt, h.1))

  source_told : (source : Source) (fault : LinesFault) → with_source vars number front rest source ≡ Err fault
      → ToldOf number fault (AtEndBehind source)
  source_told Any fault h =
      plain_told_by fault (marker_behind (skip_leading_whitespace rest) ≡ Err markers.AtEnd)
      (marker_told number front (marker_behind (skip_leading_whitespace rest)) fault h)
  source_told (Specifiers given) fault h =
      plain_told_by fault (marker_behind (skip_leading_whitespace rest) ≡ Err markers.AtEnd)
      (marker_told number front (marker_behind (skip_leading_whitespace rest)) fault h)
  source_told (Url text) fault h = url_told text (url_of vars text) fault refl h

module _ (front_found : FrontFound) (vars : Variables) where
  front_told_by : (number : ℕ) (text : List ℕ) (front : Front) (rest : List ℕ) (fault : LinesFault)
      → front_reading text ≡ Ok (front, rest) → ToldOf number fault (AtEndBehind vars number front rest front.source)
      → ToldOf number fault (HasNumberAtEnd vars text)
  front_told_by number text front rest fault e (inl h) = inl h
  front_told_by number text front rest fault e (inr h) =
      let behind = behind_found rest h.1.1 in
      inr (
        h.0,
        record {
          front = front;
          rest = rest;
          spaces = behind.spaces;
          marker = behind.marker;
          is_front = front_found text front rest e;
          has_url = h.1.0;
          split = behind.split;
          are_spaces = behind.are_spaces;
          at_end = behind.at_end;
        },
      )

  front_told : (number : ℕ) (text : List ℕ) (read : Result (Front × List ℕ) Refused) (fault : LinesFault)
      → front_reading text ≡ read → with_front vars number read ≡ Err fault
      → ToldOf number fault (HasNumberAtEnd vars text)
  front_told number text (Ok (front, rest)) fault e h =
      front_told_by number text front rest fault e (source_told vars number front rest front.source fault h)
  front_told number text (Err refused) fault e h = inl (same_fault (NoRequirement number) fault h)

  line_told : (number : ℕ) (text : List ℕ) (fault : LinesFault) → line_of vars number text ≡ Err fault
      → ToldOf number fault (HasNumberAtEnd vars text)
  unfolding line_of
  line_told number text fault h = front_told number text (front_reading text) fault refl h

-- ---- and what is refused so

mark_again : (marker : List ℕ) → marker_at marker ≡ Err markers.AtEnd → marker_behind (59 ∷ marker) ≡ Err markers.AtEnd
mark_again marker h = h

number_again : FrontAgain → (vars : Variables) (number : ℕ) (text : List ℕ) → HasNumberAtEnd vars text
    → line_of vars number text ≡ Err (NumberAtEnd number)
unfolding line_of
number_again front_again vars number text h =
    ap (with_front vars number) (front_again text h.front h.rest h.is_front)
    ∙ source_again vars number h.front h.rest h.front.source h.has_url
    ∙ ap (λ cs. with_marker number h.front (marker_behind (skip_leading_whitespace cs))) h.split
    ∙ ap (λ cs. with_marker number h.front (marker_behind cs)) (spaces_again h.spaces (59 ∷ h.marker) h.are_spaces refl)
    ∙ ap (with_marker number h.front) (mark_again h.marker h.at_end)

module _ (front_found : FrontFound) (front_again : FrontAgain) (found : FoundLaw) (again : AgainLaw) (vars : Variables) where
  renumbered : (number : ℕ) (text : List ℕ) (line : LineRecord) → IsRequirementLine vars text line
      → IsRequirementLine vars text (record line { number = number })
  renumbered number text line h =
      record { marker = h.marker; is_text = h.is_text; has_url = h.has_url; formula = h.formula }

  is_none : (number : ℕ) (text : List ℕ) → line_of vars number text ≡ Err (NoRequirement number) → IsNoRequirement vars text
  is_none number text h = record {
    is_none = λ line is.
        let read = line_again front_again again vars number text (record line { number = number }) (renumbered number text line is) refl in
        let wrong = sym read ∙ h in cc;
    no_number = λ at.
        let read = number_again front_again vars number text at in
        let wrong = sym read ∙ h in cc;
  }

  none_by : (number : ℕ) (text : List ℕ) (fault : LinesFault) → IsNoRequirement vars text
      → ToldOf number fault (HasNumberAtEnd vars text) → fault ≡ NoRequirement number
  none_by number text fault h (inl e) = e
  none_by number text fault h (inr e) = absurd (h.no_number e.1)

  none_again_by : (number : ℕ) (text : List ℕ) (read : Result LineRecord LinesFault) → line_of vars number text ≡ read
      → IsNoRequirement vars text → read ≡ Err (NoRequirement number)
  none_again_by number text (Ok line) e h =
      absurd (h.is_none line (line_found front_found front_again found again vars number text line e).0)
  none_again_by number text (Err fault) e h =
      ap refused_so (none_by number text fault h (line_told front_found vars number text fault e))

  none_again : (number : ℕ) (text : List ℕ) → IsNoRequirement vars text → line_of vars number text ≡ Err (NoRequirement number)
  none_again number text h = none_again_by number text (line_of vars number text) refl h

  -- ---- the first of a text

  first_found : (IsRefused : List ℕ → Type 0) (fault_of : ℕ → LinesFault) (lines : List (ℕ × List ℕ)) (number : ℕ)
      → ((at : ℕ) (text : List ℕ) → line_of vars at text ≡ Err (fault_of number) → (at ≡ number) × IsRefused text)
      → FirstFault (line_of vars) lines (fault_of number) → IsFirstRefused IsRefused vars lines number
  first_found IsRefused fault_of lines number told f =
      let t = told f.text.0 f.text.1 f.faulty in
      record {
        front = f.front;
        said = f.xs;
        text = f.text.1;
        back = f.back;
        split = f.split ∙ ap (λ n. f.front ++ (n, f.text.1) ∷ f.back) t.0;
        are_lines = all_zip_map (λ text line. line_of vars text.0 text.1 ≡ Ok line) (IsNumberedLine vars)
            (at_found front_found front_again found again vars) f.front f.xs f.are_read;
        is_refused = t.1;
      }

  first_again : (IsRefused : List ℕ → Type 0) (fault_of : ℕ → LinesFault) (lines : List (ℕ × List ℕ)) (number : ℕ)
      → ((text : List ℕ) → IsRefused text → line_of vars number text ≡ Err (fault_of number))
      → IsFirstRefused IsRefused vars lines number → FirstFault (line_of vars) lines (fault_of number)
  first_again IsRefused fault_of lines number refused f = record {
    front = f.front;
    xs = f.said;
    text = (number, f.text);
    back = f.back;
    split = f.split;
    are_read = all_zip_map (IsNumberedLine vars) (λ text line. line_of vars text.0 text.1 ≡ Ok line)
        (at_again front_found front_again found again vars) f.front f.said f.are_lines;
    faulty = refused f.text f.is_refused;
  }

  none_told_by : (at number : ℕ) (text : List ℕ) → line_of vars at text ≡ Err (NoRequirement number)
      → ToldOf at (NoRequirement number) (HasNumberAtEnd vars text) → (at ≡ number) × IsNoRequirement vars text
  none_told_by at number text h (inl e) =
      let same : at ≡ number = cc in
      (same, is_none at text (h ∙ ap (λ n. refused_so (NoRequirement n)) (sym same)))
  none_told_by at number text h (inr e) = let wrong = e.0 in absurd (cc)

  none_told : (number at : ℕ) (text : List ℕ) → line_of vars at text ≡ Err (NoRequirement number)
      → (at ≡ number) × IsNoRequirement vars text
  none_told number at text h =
      none_told_by at number text h (line_told front_found vars at text (NoRequirement number) h)

  number_told_by : (at number : ℕ) (text : List ℕ) → ToldOf at (NumberAtEnd number) (HasNumberAtEnd vars text)
      → (at ≡ number) × HasNumberAtEnd vars text
  number_told_by at number text (inl e) = absurd (cc)
  number_told_by at number text (inr e) =
      let told = e.0 in
      let same : at ≡ number = cc in
      (same, e.1)

  number_told : (number at : ℕ) (text : List ℕ) → line_of vars at text ≡ Err (NumberAtEnd number)
      → (at ≡ number) × HasNumberAtEnd vars text
  number_told number at text h = number_told_by at number text (line_told front_found vars at text (NumberAtEnd number) h)

  pub first_none : (bytes : List ℕ) (number : ℕ) → (requirements_of vars bytes ≡ Err (NoRequirement number))
      ↔ (IsUtf8 bytes × IsFirstRefused (IsNoRequirement vars) vars (text_lines bytes) number)
  first_none bytes number = (
    λ h. let t = text_found (line_of vars) NotText bytes (Err (NoRequirement number)) h (λ offset e. cc) in (
      t.0,
      first_found (IsNoRequirement vars) NoRequirement (text_lines bytes) number (none_told number)
          (fault_found (line_of vars) (text_lines bytes) (NoRequirement number) t.1),
    ),
    λ h. text_is_read (line_of vars) NotText bytes h.0
        ∙ fault_again (line_of vars) (text_lines bytes) (NoRequirement number)
        (first_again (IsNoRequirement vars) NoRequirement (text_lines bytes) number (none_again number) h.1),
  )

  pub first_at_end : (bytes : List ℕ) (number : ℕ) → (requirements_of vars bytes ≡ Err (NumberAtEnd number))
      ↔ (IsUtf8 bytes × IsFirstRefused (HasNumberAtEnd vars) vars (text_lines bytes) number)
  first_at_end bytes number = (
    λ h. let t = text_found (line_of vars) NotText bytes (Err (NumberAtEnd number)) h (λ offset e. cc) in (
      t.0,
      first_found (HasNumberAtEnd vars) NumberAtEnd (text_lines bytes) number (number_told number)
          (fault_found (line_of vars) (text_lines bytes) (NumberAtEnd number) t.1),
    ),
    λ h. text_is_read (line_of vars) NotText bytes h.0
        ∙ fault_again (line_of vars) (text_lines bytes) (NumberAtEnd number)
        (first_again (HasNumberAtEnd vars) NumberAtEnd (text_lines bytes) number (number_again front_again vars number) h.1),
  )
