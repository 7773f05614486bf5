-- Lines in another order, and lines of other packages.
use Rattle.std.proofs.Common.{◌≡◌, ◌∙◌, ℕ, Bool, true, false, cond, not, ◌&&◌, ◌||◌, List, [], ◌∷◌, map}
use Rattle.std.proofs.Common.{filter, refl, sym, ap}
use Rattle.std.specs.List.{list_any, list_all}
use Rattle.std.specs.List.Sorted.{IsPermutation}
use Rattle.std.proofs.lemmas.List.Sorted.{list_any-IsPermutation}
use Rattle.pep508_diagram.specs.Question.{Valuation}
use Rattle.pep508_expression.specs.Expressions.{expression_holds}
use Rattle.pep508_marker_parser.specs.Formula.{formula_holds}
use Rattle.pep508_requirement_text.specs.FrontReading.{Front}
use Rattle.reqtable_answer.specs.Asks.{is_of, has_extra, has_url, ask_takes, has_prerelease}
use Rattle.reqtable_answer.proofs.Tests.{any_kept, all_any}
use Rattle.reqtable_answer.proofs.Alike.{AreAlike}
use Rattle.reqtable_requirements.specs.LineReading.{LineRecord}
use Rattle.reqtable_requirements.specs.Asks.{Said, line_said, lines_of, applies, asks_of}

module _ (v : Valuation) where
  abbrev applies_as : Said → Bool
  applies_as said = formula_holds (λ e. expression_holds e v) said.1

  -- ---- another order

  some_by : (b : Bool) (f : Front → Bool) (line : LineRecord) (lines : List LineRecord) (rest : Bool)
      → list_any f (map (λ l. l.front) lines) ≡ rest
      → list_any f (map (λ l. l.front) (cond b (line ∷ lines) lines)) ≡ (b && f line.front || rest)
  some_by true f line lines rest h = ap (λ b. f line.front || b) h
  some_by false f line lines rest h = h

  some_asked : (f : Front → Bool) (lines : List LineRecord)
      → list_any f (asks_of v lines) ≡ list_any (λ s. applies_as s && f s.0) (map line_said lines)
  some_asked f [] = refl
  some_asked f (line ∷ lines) =
      some_by (applies v line) f line (filter (applies v) lines) (list_any (λ s. applies_as s && f s.0) (map line_said lines))
      (some_asked f lines)

  module _ (lines others : List LineRecord) (moved : IsPermutation (map line_said lines) (map line_said others)) where
    some_moved : (f : Front → Bool) → list_any f (asks_of v lines) ≡ list_any f (asks_of v others)
    some_moved f =
        some_asked f lines
        ∙ list_any-IsPermutation (λ s. applies_as s && f s.0) (map line_said lines) (map line_said others) moved
        ∙ sym (some_asked f others)

    any_moved : (f p : Front → Bool) → list_any f (filter p (asks_of v lines)) ≡ list_any f (filter p (asks_of v others))
    any_moved f p =
        any_kept f p (asks_of v lines) ∙ some_moved (λ x. p x && f x) ∙ sym (any_kept f p (asks_of v others))

    all_moved : (f p : Front → Bool) → list_all f (filter p (asks_of v lines)) ≡ list_all f (filter p (asks_of v others))
    all_moved f p =
        all_any f (filter p (asks_of v lines)) ∙ ap not (any_moved (λ x. not (f x)) p)
        ∙ sym (all_any f (filter p (asks_of v others)))

    pub lines_alike : AreAlike (asks_of v lines) (asks_of v others)
    lines_alike = record {
      named = λ name. some_moved (is_of name);
      same = λ name. record {
        extras = λ extra. any_moved (has_extra extra) (is_of name);
        urls = any_moved has_url (is_of name);
        takes = λ version. all_moved (ask_takes version) (is_of name);
        prereleases = any_moved has_prerelease (is_of name);
      };
    }

  -- ---- other packages

  abbrev fronts_of : List Said → List Front
  fronts_of said = map (λ s. s.0) (filter applies_as said)

  its_by : (name : List ℕ) (line : LineRecord) (asks : List Front) (lines its : List LineRecord)
      → filter (is_of name) (map (λ l. l.front) lines) ≡ asks → fronts_of (map line_said its) ≡ asks
      → (a b : Bool) → is_of name line.front ≡ a → applies v line ≡ b
      → filter (is_of name) (map (λ l. l.front) (cond b (line ∷ lines) lines)) ≡ fronts_of (map line_said (cond a (line ∷ its) its))
  its_by name line asks lines its h k true true e g =
      let X = filter (is_of name) (map (λ l. l.front) lines) in
      let Y = filter applies_as (map line_said its) in
      ap (λ t. cond t (line.front ∷ X) X) e ∙ ap (λ l. line.front ∷ l) (h ∙ sym k)
      ∙ sym (ap (λ t. map (λ s. s.0) (cond t (line_said line ∷ Y) Y)) g)
  its_by name line asks lines its h k false true e g =
      let X = filter (is_of name) (map (λ l. l.front) lines) in
      ap (λ t. cond t (line.front ∷ X) X) e ∙ h ∙ sym k
  its_by name line asks lines its h k true false e g =
      let Y = filter applies_as (map line_said its) in
      h ∙ sym k ∙ sym (ap (λ t. map (λ s. s.0) (cond t (line_said line ∷ Y) Y)) g)
  its_by name line asks lines its h k false false e g = h ∙ sym k

  -- what is asked of a package goes by its lines
  its_asks : (name : List ℕ) (lines : List LineRecord)
      → filter (is_of name) (asks_of v lines) ≡ fronts_of (map line_said (lines_of name lines))
  its_asks name [] = refl
  its_asks name (line ∷ lines) =
      its_by name line (filter (is_of name) (asks_of v lines)) (filter (applies v) lines) (lines_of name lines) refl
      (sym (its_asks name lines)) (is_of name line.front) (applies v line) refl refl

  pub same_asks : (name : List ℕ) (lines others : List LineRecord)
      → map line_said (lines_of name lines) ≡ map line_said (lines_of name others)
      → filter (is_of name) (asks_of v lines) ≡ filter (is_of name) (asks_of v others)
  same_asks name lines others same = its_asks name lines ∙ ap fronts_of same ∙ sym (its_asks name others)
