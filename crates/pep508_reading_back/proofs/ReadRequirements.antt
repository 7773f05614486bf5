-- What is read of a printed requirement's text says what was printed.
use Rattle.std.proofs.Common.{◌≡◌, ℕ, List, Result, Ok, ap, sym, subst, ◌∙◌}
use Rattle.std.specs.Str.{skip_leading_whitespace}
use Rattle.pep508_diagram.specs.Diagram.{Diagram}
use Rattle.pep508_diagram.specs.Question.{Question, Valuation, truth}
use Rattle.pep508_tree.specs.Meaning.{NodeRecord, holds}
use Rattle.pep508_marker_parser.specs.MarkerOutcome.{IsTreeOf}
use Rattle.pep508_marker_parser.specs.MarkerReading.{Marker}
use Rattle.pep508_requirement_text.specs.FrontReading.{Front, front_reading}
use Rattle.pep508_requirement.specs.declared.requirement.Requirement.{Requirement}
use Rattle.pep508_requirement.specs.MarkerBehind.{marker_behind}
use Rattle.pep508_requirement.specs.RequirementReading.{AsksFor, IsRead}
use Rattle.pep508_requirement.specs.RequirementText.{IsMarkedText}
use Rattle.pep508_reading_back.specs.ReadableRequirements.{ReadsRequirement}

pub one_answer : {A E : Type 0} (x y : A) (answer : Result A E) → answer ≡ Ok x → answer ≡ Ok y → x ≡ y
one_answer x y answer h k = cc

-- what is written is read
abbrev pub WrittenIsRead : Type 0
WrittenIsRead =
    (text : List ℕ) (front : Front) (marker : Marker) → IsMarkedText text front marker
    → (rest : List ℕ) × (front_reading text ≡ Ok (front, rest))
    × (marker_behind (skip_leading_whitespace rest) ≡ Ok marker)

-- a requirement that says what is written, with a tree of its marker
abbrev pub SaysWritten : {T E : Type 0} → (List ℕ → Result T E → Type 0) → List NodeRecord → Front → Marker
    → Requirement T E → Type 0
SaysWritten Reads nodes front marker r =
    (r.name ≡ front.name) × (r.extras.items ≡ front.extras) × AsksFor Reads front.source r.version_or_url
    × IsTreeOf nodes r.marker marker.formula

pub written_again : {T E : Type 0} (written : WrittenIsRead) (Reads : List ℕ → Result T E → Type 0)
    (nodes : List NodeRecord) (text : List ℕ) (front : Front) (marker : Marker) (r : Requirement T E) →
    IsMarkedText text front marker → IsRead Reads nodes text r → SaysWritten Reads nodes front marker r
written_again written Reads nodes text front marker r m i =
    let w = written text front marker m in
    let found : Front × List ℕ = (i.front, i.whole.rest) in
    let said : Front × List ℕ = (front, w.0) in
    let same : found ≡ said = one_answer found said (front_reading text) i.whole.reading w.1 in
    let front_is : i.front ≡ front = ap (λ (q : Front × List ℕ). q.0) same in
    let rest_is : i.whole.rest ≡ w.0 = ap (λ (q : Front × List ℕ). q.1) same in
    let left_is : i.left ≡ skip_leading_whitespace w.0 =
    sym i.whole.behind ∙ ap skip_leading_whitespace rest_is in
    let marker_is : i.marker ≡ marker =
    one_answer i.marker marker (marker_behind (skip_leading_whitespace w.0))
    (ap marker_behind (sym left_is) ∙ i.is_marker) w.2 in (
      i.name ∙ ap (λ f. f.name) front_is,
      i.extras ∙ ap (λ f. f.extras) front_is,
      subst (λ f. AsksFor Reads f.source r.version_or_url) front_is i.whole.asks,
      subst (λ (m : Marker). IsTreeOf nodes r.marker m.formula) marker_is i.tree,
    )

-- a requirement that says what was printed
abbrev pub SaysPrinted : {T E : Type 0} → (List ℕ → Result T E → Type 0) → List NodeRecord → Front
    → Diagram Question → Requirement T E → Type 0
SaysPrinted Reads nodes front diagram r =
    (r.name ≡ front.name) × (r.extras.items ≡ front.extras) × AsksFor Reads front.source r.version_or_url
    × ((v : Valuation) → holds nodes r.marker v ≡ truth diagram v)

pub printed_read : {T E : Type 0} (written : WrittenIsRead) (Reads : List ℕ → Result T E → Type 0)
    (nodes : List NodeRecord) (text : List ℕ) (front : Front) (d : Diagram Question) (r : Requirement T E) →
    ReadsRequirement text front d → IsRead Reads nodes text r → SaysPrinted Reads nodes front d r
printed_read written Reads nodes text front d r p i =
    let s = written_again written Reads nodes text front p.0 r p.1 i in
    (s.0, s.1, s.2, λ v. s.3.truth v ∙ p.2 v)
