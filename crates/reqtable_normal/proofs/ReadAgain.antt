-- All lines that are written are read again, and ask for the same.
use Rattle.std.proofs.Common.{◌≡◌, ◌∙◌, ℕ, ◌+◌, Bool, true, false, not, cond, List, [], ◌∷◌, ◌++◌, map}
use Rattle.std.proofs.Common.{filter, None, refl, ap, sym, subst}
use Rattle.std.specs.List.{AllByRecursion, AllZip, enumerate_from, flat_map}
use Rattle.pep508_diagram.specs.Diagram.{Diagram, Leaf, Test}
use Rattle.pep508_diagram.specs.Question.{Question, Valuation, truth}
use Rattle.pep508_requirement_text.specs.FrontReading.{Front}
use Rattle.pep508_reading_back.specs.Lines.{IsLine}
use Rattle.pep508_url.specs.Vars.{Variables}
use Rattle.reqtable_candidates.specs.TextLines.{text_lines}
use Rattle.reqtable_answer.specs.Says.{Says}
use Rattle.reqtable_requirements.specs.Asks.{applies, asks_of}
use Rattle.reqtable_requirements.specs.LineReading.{LineRecord}
use Rattle.reqtable_requirements.specs.LineText.{IsNumberedLine, IsRequirementsText}
use Rattle.reqtable_normal.specs.Normalized.{NormalLine, IsNormalOf, IsNormalText, never_holds, kept}
use Rattle.reqtable_normal.specs.Normalized.{normal_fault, line_text, lines_text}
use Rattle.reqtable_normal.proofs.OneLine.{printed, IsReadAgain, line_again, has_its_url}
use Rattle.reqtable_normal.proofs.ReadLines.{text_lines_are_lines}
use Rattle.reqtable_normal.proofs.WrittenLines.{IsWritten, joined, joined_lines, joined_encoded}

abbrev is_kept : NormalLine → Bool
is_kept line = not (never_holds line.diagram)

abbrev pub AreFaultless : List NormalLine → Type 0
AreFaultless = AllByRecursion (λ line. normal_fault line ≡ None)

-- ---- each of them

again_by : (line : NormalLine) (lines : List NormalLine) (t : Bool) → never_holds line.diagram ≡ t →
    (never_holds line.diagram ≡ false → IsReadAgain line) → AllByRecursion IsReadAgain lines →
    AllByRecursion IsReadAgain (cond (not t) (line ∷ lines) lines)
again_by line lines true e one rest = rest
again_by line lines false e one rest = (one e, rest)

all_again : (vars : Variables) (texts : List (ℕ × List ℕ)) (said : List LineRecord)
    (lines : List NormalLine) → AllByRecursion (λ line. IsLine line.1) texts →
    AllZip (IsNumberedLine vars) texts said → AllZip IsNormalOf said lines → AreFaultless lines →
    AllByRecursion IsReadAgain (kept lines)
all_again vars [] [] [] h is normal faultless = tt
all_again vars [] [] (line ∷ lines) h is normal faultless = absurd normal
all_again vars [] (s ∷ said) lines h is normal faultless = absurd is
all_again vars (text ∷ texts) [] lines h is normal faultless = absurd is
all_again vars (text ∷ texts) (s ∷ said) [] h is normal faultless = absurd normal
all_again vars (text ∷ texts) (s ∷ said) (line ∷ lines) h is normal faultless =
    again_by line (kept lines) (never_holds line.diagram) refl
    (λ once. line_again vars text.1 s line h.0 is.0.0 normal.0 faultless.0 once)
    (all_again vars texts said lines h.1 is.1 normal.1 faultless.1)

pub kept_again : (vars : Variables) (bytes : List ℕ) (said : List LineRecord) (lines : List NormalLine) →
    IsRequirementsText vars bytes said → AllZip IsNormalOf said lines → AreFaultless lines →
    AllByRecursion IsReadAgain (kept lines)
kept_again vars bytes said lines is normal faultless =
    all_again vars (text_lines bytes) said lines (text_lines_are_lines bytes is.0) is.1 normal faultless

-- ---- what is read of them

abbrev pub line_read : ℕ → (line : NormalLine) → IsReadAgain line → LineRecord
line_read n line h = record { number = n; front = line.front; formula = h.marker.formula }

abbrev pub lines_read : ℕ → (lines : List NormalLine) → AllByRecursion IsReadAgain lines → List LineRecord
lines_read n [] h = []
lines_read n (line ∷ lines) h = line_read n line h.0 ∷ lines_read (n + 1) lines h.1

are_numbered : (vars : Variables) (n : ℕ) (lines : List NormalLine) (h : AllByRecursion IsReadAgain lines) →
    AllZip (IsNumberedLine vars) (enumerate_from n (map printed lines)) (lines_read n lines h)
are_numbered vars n [] h = tt
are_numbered vars n (line ∷ lines) h = (
  (
    record {
      marker = h.0.marker;
      is_text = h.0.is_text;
      has_url = has_its_url vars line.front.source h.0.no_url;
      formula = refl;
    },
    refl,
  ),
  are_numbered vars (n + 1) lines h.1,
)

are_written : (lines : List NormalLine) → AllByRecursion IsReadAgain lines →
    AllByRecursion IsWritten (map printed lines)
are_written [] h = tt
are_written (line ∷ lines) h = (h.0.written, are_written lines h.1)

text_is_joined : (lines : List NormalLine) → flat_map line_text lines ≡ joined (map printed lines)
text_is_joined [] = refl
text_is_joined (line ∷ lines) = ap (λ text. line_text line ++ text) (text_is_joined lines)

pub text_is_read : (vars : Variables) (lines : List NormalLine)
    (h : AllByRecursion IsReadAgain (kept lines)) →
    IsRequirementsText vars (lines_text lines) (lines_read 1 (kept lines) h)
text_is_read vars lines h =
    let texts = map printed (kept lines) in
    let written = are_written (kept lines) h in
    let read = lines_read 1 (kept lines) h in
    subst (λ text. IsRequirementsText vars text read) (sym (text_is_joined (kept lines))) (
      joined_encoded texts written,
      subst (λ ls. AllZip (IsNumberedLine vars) ls read) (sym (joined_lines texts written))
          (are_numbered vars 1 (kept lines) h),
    )

-- ---- what they ask for

same_by : (a b : Bool) → a ≡ b → (front shown : Front) (fronts others : List Front) → Says shown front →
    AllZip Says others fronts → AllZip Says (cond a (shown ∷ others) others) (cond b (front ∷ fronts) fronts)
same_by true true e front shown fronts others says rest = (says, rest)
same_by false false e front shown fronts others says rest = rest
same_by true false e front shown fronts others says rest = absurd (cc)
same_by false true e front shown fronts others says rest = absurd (cc)

front_map : (b : Bool) (line : LineRecord) (lines : List LineRecord) →
    map (λ l. l.front) (cond b (line ∷ lines) lines)
    ≡ cond b (line.front ∷ map (λ l. l.front) lines) (map (λ l. l.front) lines)
front_map true line lines = refl
front_map false line lines = refl

not_never : (b : Bool) → not b ≡ true → b ≡ false
not_never false h = refl
not_never true h = absurd (cc)

pub never_fails : (d : Diagram Question) (v : Valuation) → never_holds d ≡ true → truth d v ≡ false
never_fails (Leaf b) v h = not_never b h
never_fails (Test q low high) v h = absurd (cc)

abbrev fronts : List LineRecord → List Front
fronts lines = map (λ l. l.front) lines

module _ (v : Valuation) where
  more_asked : (a b : Bool) → a ≡ b → (shown s : LineRecord) (others said : List LineRecord) →
      Says shown.front s.front → AllZip Says (fronts others) (fronts said) →
      AllZip Says (fronts (cond a (shown ∷ others) others)) (fronts (cond b (s ∷ said) said))
  more_asked a b e shown s others said says rest =
      subst (λ fs. AllZip Says fs (fronts (cond b (s ∷ said) said))) (sym (front_map a shown others))
      (subst (λ fs. AllZip Says (cond a (shown.front ∷ fronts others) (fronts others)) fs)
      (sym (front_map b s said))
      (same_by a b e s.front shown.front (fronts said) (fronts others) says rest))

  asked_by : (n : ℕ) (s : LineRecord) (said : List LineRecord) (line : NormalLine) (lines : List NormalLine)
      (t : Bool) → never_holds line.diagram ≡ t → IsNormalOf s line →
      ((m : ℕ) (h : AllByRecursion IsReadAgain (kept lines)) →
      AllZip Says (asks_of v (lines_read m (kept lines) h)) (asks_of v said)) →
      (h : AllByRecursion IsReadAgain (cond (not t) (line ∷ kept lines) (kept lines))) →
      AllZip Says (asks_of v (lines_read n (cond (not t) (line ∷ kept lines) (kept lines)) h))
      (asks_of v (s ∷ said))
  asked_by n s said line lines true e normal rest h =
      let never : applies v s ≡ false = sym (normal.diagram.means v) ∙ never_fails line.diagram v e in
      let all = filter (applies v) said in
      subst (λ b. AllZip Says (asks_of v (lines_read n (kept lines) h)) (fronts (cond b (s ∷ all) all)))
      (sym never) (rest n h)
  asked_by n s said line lines false e normal rest h =
      let shown = line_read n line h.0 in
      let others = lines_read (n + 1) (kept lines) h.1 in
      let agree : applies v shown ≡ applies v s = sym (h.0.diagram.means v) ∙ normal.diagram.means v in
      more_asked (applies v shown) (applies v s) agree shown s (filter (applies v) others)
      (filter (applies v) said) normal.front (rest (n + 1) h.1)

  pub ask_alike : (n : ℕ) (said : List LineRecord) (lines : List NormalLine) → AllZip IsNormalOf said lines →
      (h : AllByRecursion IsReadAgain (kept lines)) →
      AllZip Says (asks_of v (lines_read n (kept lines) h)) (asks_of v said)
  ask_alike n [] [] normal h = tt
  ask_alike n [] (line ∷ lines) normal h = absurd normal
  ask_alike n (s ∷ said) [] normal h = absurd normal
  ask_alike n (s ∷ said) (line ∷ lines) normal h =
      asked_by n s said line lines (never_holds line.diagram) refl normal.0
      (λ m k. ask_alike m said lines normal.1 k) h

-- ---- the normal text of what is read

read_normal : (n : ℕ) (lines : List NormalLine) (h : AllByRecursion IsReadAgain lines) →
    AllZip IsNormalOf (lines_read n lines h) lines
read_normal n [] h = tt
read_normal n (line ∷ lines) h = (
  record {
    front = record { name = refl; extras = refl; source = h.0.in_order };
    diagram = h.0.diagram;
  },
  read_normal (n + 1) lines h.1,
)

kept_by : {X : Type 0} (P : X → Type 0) (b : Bool) (x : X) (xs : List X) → P x → AllByRecursion P xs →
    AllByRecursion P (cond b (x ∷ xs) xs)
kept_by P true x xs one rest = (one, rest)
kept_by P false x xs one rest = rest

still_faultless : (lines : List NormalLine) → AreFaultless lines → AreFaultless (kept lines)
still_faultless [] h = tt
still_faultless (line ∷ lines) h =
    kept_by (λ l. normal_fault l ≡ None) (is_kept line) line (kept lines) h.0 (still_faultless lines h.1)

twice_by : (line : NormalLine) (lines : List NormalLine) (b : Bool) → is_kept line ≡ b → kept lines ≡ lines →
    kept (cond b (line ∷ lines) lines) ≡ cond b (line ∷ lines) lines
twice_by line lines true e h = ap (λ b. cond b (line ∷ kept lines) (kept lines)) e ∙ ap (λ ls. line ∷ ls) h
twice_by line lines false e h = h

kept_twice : (lines : List NormalLine) → kept (kept lines) ≡ kept lines
kept_twice [] = refl
kept_twice (line ∷ lines) = twice_by line (kept lines) (is_kept line) refl (kept_twice lines)

pub its_own_text : (lines : List NormalLine) (h : AllByRecursion IsReadAgain (kept lines)) →
    AreFaultless lines → IsNormalText (lines_read 1 (kept lines) h) (lines_text lines)
its_own_text lines h faultless = record {
  lines = kept lines;
  are_normal = read_normal 1 (kept lines) h;
  faultless = still_faultless lines faultless;
  is_text = ap (λ ls. flat_map line_text ls) (sym (kept_twice lines));
}
