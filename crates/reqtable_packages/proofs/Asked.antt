-- What is asked of a package is what its lines ask for.
use Rattle.std.proofs.Common.{◌≡◌, ◌∙◌, ℕ, Bool, true, false, cond, List, [], ◌∷◌, map, filter, refl, sym, ap}
use Rattle.pep508_diagram.specs.Question.{Valuation}
use Rattle.reqtable_answer.specs.Asks.{is_of}
use Rattle.reqtable_requirements.specs.Asks.{applies, lines_of, asks_of}
use Rattle.reqtable_requirements.specs.LineReading.{LineRecord}

its_by : (v : Valuation) (name : List ℕ) (line : LineRecord) (lines its : List LineRecord) →
    filter (is_of name) (map (λ l. l.front) lines) ≡ map (λ l. l.front) (filter (applies v) its) →
    (a b : Bool) → is_of name line.front ≡ a → applies v line ≡ b →
    filter (is_of name) (map (λ l. l.front) (cond b (line ∷ lines) lines))
    ≡ map (λ l. l.front) (filter (applies v) (cond a (line ∷ its) its))
its_by v name line lines its h true true e g =
    let X = filter (is_of name) (map (λ l. l.front) lines) in
    let Y = filter (applies v) its in
    ap (λ t. cond t (line.front ∷ X) X) e ∙ ap (λ l. line.front ∷ l) h
    ∙ sym (ap (λ t. map (λ l. l.front) (cond t (line ∷ Y) Y)) g)
its_by v name line lines its h false true e g =
    let X = filter (is_of name) (map (λ l. l.front) lines) in
    ap (λ t. cond t (line.front ∷ X) X) e ∙ h
its_by v name line lines its h true false e g =
    let Y = filter (applies v) its in
    h ∙ sym (ap (λ t. map (λ l. l.front) (cond t (line ∷ Y) Y)) g)
its_by v name line lines its h false false e g = h

pub its_asks : (v : Valuation) (name : List ℕ) (lines : List LineRecord) →
    filter (is_of name) (asks_of v lines) ≡ asks_of v (lines_of name lines)
its_asks v name [] = refl
its_asks v name (line ∷ lines) =
    its_by v name line (filter (applies v) lines) (lines_of name lines) (its_asks v name lines)
    (is_of name line.front) (applies v line) refl refl
