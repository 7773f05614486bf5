-- Lines that say the same are written alike.
use Rattle.std.proofs.Common.{◌≡◌, ◌∙◌, ℕ, Bool, true, false, not, cond, List, [], ◌∷◌, ◌++◌, None, inl, inr}
use Rattle.std.proofs.Common.{Option, Some, if◌then◌else◌, refl, ap, sym, subst}
use Rattle.std.specs.List.{AllByRecursion, AllZip, flat_map}
use Rattle.pep440_specifier.specs.Matching.{SpecifierRecord}
use Rattle.pep440_specifier_list.specs.Lists.{IsInOrder}
use Rattle.pep508_diagram.specs.Diagram.{Leaf}
use Rattle.pep508_diagram.specs.Question.{Valuation}
use Rattle.pep508_marker_text_laws.specs.MarkerText.{marker_text}
use Rattle.pep508_marker_text_laws.proofs.Spelled.{one_spelling}
use Rattle.pep508_requirement_text.specs.FrontReading.{Source}
use Rattle.pep508_requirement_text.specs.FrontReading.Source.{Any, Specifiers, Url}
use Rattle.pep508_requirement_ref.specs.RequirementPrint.{extras_text, source_text, marker_part}
use Rattle.pep508_reading_back.proofs.SortedLists.{in_order_again}
use Rattle.reqtable_answer.specs.Asks.{is_url}
use Rattle.reqtable_answer.specs.Says.{SaysSource}
use Rattle.reqtable_requirements.specs.Asks.{applies}
use Rattle.reqtable_requirements.specs.LineReading.{LineRecord}
use Rattle.reqtable_normal.specs.Meant.{LeavesOut, NeverApplies, PrintsAlike, SayAlike}
use Rattle.reqtable_normal.specs.Normalized.{NormalLine, IsNormalOf, IsNormalText, never_holds, kept}
use Rattle.reqtable_normal.specs.Normalized.{normal_fault, line_text, lines_text}
use Rattle.reqtable_normal.specs.Normalized.{IsFirstFault, marker_fault}
use Rattle.reqtable_normal.specs.declared.error.NormalCause.{NormalCause}
use Rattle.reqtable_normal.specs.declared.error.NormalCause.TheVariants as cause
use Rattle.reqtable_normal.proofs.Faultless.{faultless_is_sound}

-- ---- lines that say the same

abbrev text_by : Bool → List ℕ → List ℕ → List ℕ
text_by never one rest = cond (not never) (one ++ rest) rest

first_text : (line : NormalLine) (lines : List NormalLine) →
    lines_text (line ∷ lines) ≡ text_by (never_holds line.diagram) (line_text line) (lines_text lines)
first_text line lines = first_by (never_holds line.diagram)
  where
    first_by : (b : Bool) → flat_map line_text (cond (not b) (line ∷ kept lines) (kept lines))
        ≡ text_by b (line_text line) (lines_text lines)
    first_by true = refl
    first_by false = refl

diagrams_alike : (s r : LineRecord) (line other : NormalLine) → IsNormalOf s line → IsNormalOf r other →
    ((v : Valuation) → applies v s ≡ applies v r) → line.diagram ≡ other.diagram
diagrams_alike s r line other h k same =
    one_spelling line.diagram other.diagram h.diagram.canonical k.diagram.canonical h.diagram.short
    k.diagram.short (λ v. h.diagram.means v ∙ same v ∙ sym (k.diagram.means v))

lines_alike : (s r : LineRecord) (line other : NormalLine) → IsNormalOf s line → IsNormalOf r other →
    SayAlike s r → line_text line ≡ line_text other
lines_alike s r line other h k alike =
    let name : line.front.name ≡ other.front.name = h.front.name ∙ alike.name ∙ sym k.front.name in
    let extras : line.front.extras ≡ other.front.extras =
    h.front.extras ∙ alike.extras ∙ sym k.front.extras in
    let source = alike.specifiers line.front.source other.front.source h.front.source k.front.source in
    let diagram = diagrams_alike s r line other h k alike.marker in
    λ i. name i ++ extras_text (extras i) ++ source i ++ marker_part (marker_text (diagram i)) ++ 10 ∷ []

all_alike : (left right : List LineRecord) (lines others : List NormalLine) → AllZip SayAlike left right →
    AllZip IsNormalOf left lines → AllZip IsNormalOf right others → lines_text lines ≡ lines_text others
all_alike [] [] [] [] alike h k = refl
all_alike [] [] (line ∷ lines) others alike h k = absurd h
all_alike [] [] [] (other ∷ others) alike h k = absurd k
all_alike [] (r ∷ right) lines others alike h k = absurd alike
all_alike (s ∷ left) [] lines others alike h k = absurd alike
all_alike (s ∷ left) (r ∷ right) [] others alike h k = absurd h
all_alike (s ∷ left) (r ∷ right) (line ∷ lines) [] alike h k = absurd k
all_alike (s ∷ left) (r ∷ right) (line ∷ lines) (other ∷ others) alike h k =
    let one = lines_alike s r line other h.0 k.0 alike.0 in
    let rest = all_alike left right lines others alike.1 h.1 k.1 in
    let diagram = diagrams_alike s r line other h.0 k.0 alike.0.marker in
    first_text line lines ∙ (λ i. text_by (never_holds (diagram i)) (one i) (rest i))
    ∙ sym (first_text other others)

-- ---- lines that are left out

-- the diagram that never holds
never_is_leaf : (s : LineRecord) (line : NormalLine) → IsNormalOf s line → NeverApplies s →
    line.diagram ≡ Leaf false
never_is_leaf s line h never =
    one_spelling line.diagram (Leaf false) h.diagram.canonical tt h.diagram.short tt
    (λ v. h.diagram.means v ∙ never v)

-- the lines of what is left have the same text
record Left (left : List LineRecord) (lines : List NormalLine) : Type 0 where
  others : List NormalLine
  are_normal : AllZip IsNormalOf left others
  same_text : lines_text lines ≡ lines_text others

left_text : (said left : List LineRecord) (lines : List NormalLine) → LeavesOut said left →
    AllZip IsNormalOf said lines → Left left lines
left_text [] left [] out h = record {
  others = [];
  are_normal = subst (λ ls. AllZip IsNormalOf ls []) (sym out) tt;
  same_text = refl;
}
left_text [] left (line ∷ lines) out h = absurd h
left_text (s ∷ said) left [] out h = absurd h
left_text (s ∷ said) left (line ∷ lines) (inl out) h =
    let rest = left_text said left lines out.1 h.1 in
    let never : never_holds line.diagram ≡ true = ap never_holds (never_is_leaf s line h.0 out.0) in
    record {
      others = rest.others;
      are_normal = rest.are_normal;
      same_text = first_text line lines ∙ ap (λ b. text_by b (line_text line) (lines_text lines)) never
          ∙ rest.same_text;
    }
left_text (s ∷ said) left (line ∷ lines) (inr out) h =
    let rest = left_text said out.0 lines out.2 h.1 in
    record {
      others = line ∷ rest.others;
      are_normal = subst (λ ls. AllZip IsNormalOf ls (line ∷ rest.others)) (sym out.1) (h.0, rest.are_normal);
      same_text = first_text line lines
          ∙ ap (text_by (never_holds line.diagram) (line_text line)) rest.same_text
          ∙ sym (first_text line rest.others);
    }

pub alike_texts : (said others left right : List LineRecord) (text other : List ℕ) → LeavesOut said left →
    LeavesOut others right → AllZip SayAlike left right → IsNormalText said text → IsNormalText others other →
    text ≡ other
alike_texts said others left right text other out also alike h k =
    let a = left_text said left h.lines out h.are_normal in
    let b = left_text others right k.lines also k.are_normal in
    h.is_text ∙ a.same_text ∙ all_alike left right a.others b.others alike a.are_normal b.are_normal
    ∙ sym b.same_text ∙ sym k.is_text

-- ---- one text

one_order : (given list other : List SpecifierRecord) → IsInOrder given list → IsInOrder given other →
    list ≡ other
one_order given list other h k =
    sym (in_order_again list other h.sorted
    (record { sorted = k.sorted; stable = λ x. k.stable x ∙ sym (h.stable x) }))

prints_itself : (told source : Source) → SaysSource source told → is_url source ≡ false →
    PrintsAlike told told
prints_itself Any source h n Any Any a b = refl
prints_itself Any source h n Any (Specifiers list) a b = absurd b
prints_itself Any source h n Any (Url url) a b = absurd b
prints_itself Any source h n (Specifiers list) also a b = absurd a
prints_itself Any source h n (Url url) also a b = absurd a
prints_itself (Specifiers given) source h n Any also a b = absurd a
prints_itself (Specifiers given) source h n (Url url) also a b = absurd a
prints_itself (Specifiers given) source h n (Specifiers list) Any a b = absurd b
prints_itself (Specifiers given) source h n (Specifiers list) (Url url) a b = absurd b
prints_itself (Specifiers given) source h n (Specifiers list) (Specifiers other) a b =
    ap (λ l. source_text (Specifiers l)) (one_order given list other a b)
prints_itself (Url url) Any h n shown also a b = absurd h
prints_itself (Url url) (Specifiers list) h n shown also a b = absurd h
prints_itself (Url url) (Url other) h n shown also a b = absurd (cc)

says_itself : (s : LineRecord) (line : NormalLine) → IsNormalOf s line → normal_fault line ≡ None →
    SayAlike s s
says_itself s line h none = record {
  name = refl;
  extras = refl;
  specifiers = prints_itself s.front.source line.front.source h.front.source
      (faultless_is_sound line none).no_url;
  marker = λ v. refl;
}

say_themselves : (said : List LineRecord) (lines : List NormalLine) → AllZip IsNormalOf said lines →
    AllByRecursion (λ line. normal_fault line ≡ None) lines → AllZip SayAlike said said
say_themselves [] [] h none = tt
say_themselves [] (line ∷ lines) h none = absurd h
say_themselves (s ∷ said) [] h none = absurd h
say_themselves (s ∷ said) (line ∷ lines) h none =
    (says_itself s line h.0 none.0, say_themselves said lines h.1 none.1)

pub one_text : (said : List LineRecord) (text other : List ℕ) → IsNormalText said text →
    IsNormalText said other → text ≡ other
one_text said text other h k =
    h.is_text
    ∙ all_alike said said h.lines k.lines (say_themselves said h.lines h.are_normal h.faultless) h.are_normal
    k.are_normal ∙ sym k.is_text

-- ---- no fault

url_said : (shown said : Source) → SaysSource shown said → is_url shown ≡ is_url said
url_said Any Any h = refl
url_said Any (Specifiers given) h = absurd h
url_said Any (Url text) h = absurd h
url_said (Specifiers list) Any h = absurd h
url_said (Specifiers list) (Specifiers given) h = refl
url_said (Specifiers list) (Url text) h = absurd h
url_said (Url shown) Any h = absurd h
url_said (Url shown) (Specifiers given) h = absurd h
url_said (Url shown) (Url text) h = refl

faults_alike : (s : LineRecord) (line other : NormalLine) → IsNormalOf s line → IsNormalOf s other →
    normal_fault line ≡ normal_fault other
faults_alike s line other h k =
    let url = url_said line.front.source s.front.source h.front.source
    ∙ sym (url_said other.front.source s.front.source k.front.source) in
    let diagram = diagrams_alike s s line other h k (λ v. refl) in
    λ i. if url i then Some cause.Url else marker_fault (diagram i)

no_both : (fault : Option NormalCause) (cause : NormalCause) → fault ≡ Some cause → fault ≡ None → ⊥
no_both fault cause e h = cc

none_behind : (front : List LineRecord) (s : LineRecord) (back : List LineRecord) (line : NormalLine)
    (cause : NormalCause) → IsNormalOf s line → normal_fault line ≡ Some cause → (lines : List NormalLine) →
    AllZip IsNormalOf (front ++ s ∷ back) lines → AllByRecursion (λ line. normal_fault line ≡ None) lines → ⊥
none_behind [] s back line cause is fault [] h none = absurd h
none_behind [] s back line cause is fault (other ∷ lines) h none =
    no_both (normal_fault line) cause fault (faults_alike s line other is h.0 ∙ none.0)
none_behind (first ∷ front) s back line cause is fault [] h none = absurd h
none_behind (first ∷ front) s back line cause is fault (other ∷ lines) h none =
    none_behind front s back line cause is fault lines h.1 none.1

pub no_fault : (said : List LineRecord) (text : List ℕ) (number : ℕ) (cause : NormalCause) →
    IsNormalText said text → IsFirstFault said number cause → ⊥
no_fault said text number cause h f =
    none_behind f.front f.line f.back f.normal cause f.is_normal f.is_fault h.lines
    (subst (λ ls. AllZip IsNormalOf ls h.lines) f.split h.are_normal) h.faultless
