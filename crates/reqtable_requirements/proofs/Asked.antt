-- What lines that were read ask for is what their records do.
use Rattle.std.proofs.Common.{◌≡◌, Bool, true, false, cond, List, [], ◌∷◌, map, filter, Option, Some, None}
use Rattle.std.proofs.Common.{Result, Ok, Err, IfOk, refl, ap, sym, subst, ◌∙◌}
use Rattle.std.specs.List.{AllZip}
use Rattle.pep508_url.specs.Vars.{Variables}
use Rattle.pep508_url.specs.UrlTexts.{Verbatim}
use Rattle.pep508_url.specs.declared.url_error.VerbatimUrlError.{VerbatimUrlError}
use Rattle.pep508_diagram.specs.Question.{Valuation}
use Rattle.pep508_tree.specs.Meaning.{NodeRecord, holds}
use Rattle.pep508_expression.specs.Expressions.{expression_holds}
use Rattle.pep508_formula.specs.Postfix.{formula_of}
use Rattle.pep508_marker_parser.specs.Formula.{formula_holds}
use Rattle.pep508_requirement_text.specs.FrontReading.{Source, Front}
use Rattle.pep508_requirement_text.specs.FrontReading.Source.{Any, Specifiers, Url}
use Rattle.pep508_requirement.specs.RequirementReading.{AsksFor}
use Rattle.pep508_requirement.specs.declared.version_or_url.VersionOrUrl.{VersionOrUrl}
use Rattle.pep508_requirement.specs.declared.version_or_url.VersionOrUrl.TheVariants as asked
use Rattle.reqtable_answer.specs.declared.ask.Ask.{Ask}
use Rattle.reqtable_answer.specs.Says.{SaysSource, Says, SayAll, wanted_seen, marked_seen, requirement_seen}
use Rattle.reqtable_answer.specs.Says.{asks_seen}
use Rattle.reqtable_requirements.specs.LineReading.{LineRecord}
use Rattle.reqtable_requirements.specs.Requirements.{ReadsUrl, StandsFor, SaysLine}
use Rattle.reqtable_requirements.specs.Asks.{applies, asks_of, applying, applying_marked, AreOfNodes}
use Rattle.reqtable_requirements.specs.declared.marked.MarkedLine.{MarkedLine}
use Rattle.reqtable_requirements.specs.declared.requirements.Line.{Line}

source_said : (vars : Variables) (source : Source) (what : Option (VersionOrUrl Verbatim VerbatimUrlError))
    → AsksFor (ReadsUrl vars) source what → SaysSource (wanted_seen what) source
source_said vars Any None h = tt
source_said vars Any (Some what) h = absurd h
source_said vars (Specifiers given) None h = absurd h
source_said vars (Specifiers given) (Some (asked.VersionSpecifier list)) h = h
source_said vars (Specifiers given) (Some (asked.Url url)) h = absurd h
source_said vars (Url text) None h = absurd h
source_said vars (Url text) (Some (asked.VersionSpecifier list)) h = absurd h
source_said vars (Url text) (Some (asked.Url url)) h = tt

-- ---- lines that stand for their records, of which those apply whose records do

module _ {L : Type 0} (seen : L → Front) (Stands : L → LineRecord → Type 0) (test : L → Bool) (v : Valuation)
    (says : (line : L) (said : LineRecord) → Stands line said → Says (seen line) said.front)
    (truth : (line : L) (said : LineRecord) → Stands line said → test line ≡ applies v said) where
  one_more : (a b : Bool) → a ≡ b → (line : L) (said : LineRecord) (lines : List L) (others : List LineRecord)
      → Says (seen line) said.front → AllZip Says (map seen lines) (map (λ s. s.front) others)
      → AllZip Says (map seen (cond a (line ∷ lines) lines)) (map (λ s. s.front) (cond b (said ∷ others) others))
  one_more true true e line said lines others h rest = (h, rest)
  one_more false false e line said lines others h rest = rest
  one_more true false e line said lines others h rest = absurd (cc)
  one_more false true e line said lines others h rest = absurd (cc)

  -- the requirements that apply say what is asked
  are_asked : (lines : List L) (said : List LineRecord) → AllZip Stands lines said
      → AllZip Says (map seen (filter test lines)) (asks_of v said)
  are_asked [] [] h = tt
  are_asked [] (s ∷ said) h = absurd h
  are_asked (line ∷ lines) [] h = absurd h
  are_asked (line ∷ lines) (s ∷ said) h =
      one_more (test line) (applies v s) (truth line s h.0) line s (filter test lines) (filter (applies v) said)
      (says line s h.0) (are_asked lines said h.1)

  -- and so do they as they are lent
  all_say : (lines : List L) (said : List LineRecord) (asks : List Ask)
      → asks_seen asks ≡ map seen (filter test lines) → AllZip Stands lines said → SayAll asks (asks_of v said)
  all_say lines said asks e h =
      let P : List Front → Type 0 = λ all. AllZip Says all (asks_of v said) in
      subst P (sym e) (are_asked lines said h)

-- a list that is mapped twice
mapped_twice : {A B C : Type 0} (f : A → B) (g : B → C) (xs : List A) → map g (map f xs) ≡ map (λ x. g (f x)) xs
mapped_twice f g [] = refl
mapped_twice f g (x ∷ xs) = ap (λ ys. g (f x) ∷ ys) (mapped_twice f g xs)

-- ---- lines with trees

-- the trees of lines that were read are of the interner's nodes
pub are_of_nodes : (vars : Variables) (nodes : List NodeRecord) (lines : List Line) (said : List LineRecord)
    → AllZip (StandsFor vars nodes) lines said → AreOfNodes nodes lines
are_of_nodes vars nodes [] said h = tt
are_of_nodes vars nodes (line ∷ lines) [] h = absurd h
are_of_nodes vars nodes (line ∷ lines) (record_of_line ∷ said) h = (h.0.tree.made, are_of_nodes vars nodes lines said h.1)

says : (vars : Variables) (nodes : List NodeRecord) (line : Line) (said : LineRecord) → StandsFor vars nodes line said
    → Says (requirement_seen line.requirement) said.front
says vars nodes line said h = record {
  name = h.name;
  extras = h.extras;
  source = source_said vars said.front.source line.requirement.version_or_url h.asks;
}

pub say_all : (vars : Variables) (nodes : List NodeRecord) (v : Valuation) (lines : List Line) (said : List LineRecord)
    (asks : List Ask) → asks_seen asks ≡ map requirement_seen (applying nodes v lines)
    → AllZip (StandsFor vars nodes) lines said → SayAll asks (asks_of v said)
say_all vars nodes v lines said asks e h =
    all_say (λ line. requirement_seen line.requirement) (StandsFor vars nodes)
    (λ line. holds nodes line.requirement.marker v) v (says vars nodes) (λ line s k. k.tree.truth v) lines said asks
    (e ∙ mapped_twice (λ line. line.requirement) requirement_seen _) h

-- ---- lines with formulas

marked_says : (vars : Variables) (line : MarkedLine) (said : LineRecord) → SaysLine vars line said
    → Says (marked_seen line.requirement) said.front
marked_says vars line said h = record {
  name = h.name;
  extras = h.extras;
  source = source_said vars said.front.source line.requirement.version_or_url h.asks;
}

pub say_all_marked : (vars : Variables) (v : Valuation) (lines : List MarkedLine) (said : List LineRecord)
    (asks : List Ask) → asks_seen asks ≡ map marked_seen (applying_marked v lines)
    → AllZip (SaysLine vars) lines said → SayAll asks (asks_of v said)
say_all_marked vars v lines said asks e h =
    all_say (λ line. marked_seen line.requirement) (SaysLine vars)
    (λ line. formula_holds (λ e. expression_holds e v) (formula_of line.requirement.formula)) v (marked_says vars)
    (λ line s k. ap (formula_holds (λ e. expression_holds e v)) k.formula) lines said asks
    (e ∙ mapped_twice (λ line. line.requirement) marked_seen _) h

-- what is so of an answer, by what it follows from
pub if_ok : {A E : Type 0} {P Q : A → Type 0} (result : Result A E) → IfOk result P → ((x : A) → P x → Q x) → IfOk result Q
if_ok (Ok x) h f = f x h
if_ok (Err error) h f = tt
