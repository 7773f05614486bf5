-- What lines require under a valuation, for instance that of an environment with extras.
use Rattle.std.specs.Prelude.{ℕ, Bool, List, map, filter}
use Rattle.std.specs.List.{AllByRecursion}
use Rattle.pep508_url.specs.UrlTexts.{Verbatim}
use Rattle.pep508_url.specs.declared.url_error.VerbatimUrlError.{VerbatimUrlError}
use Rattle.pep508_diagram.specs.Question.{Valuation}
use Rattle.pep508_tree.specs.Meaning.{NodeRecord, IsTree, holds}
use Rattle.pep508_expression.specs.Expressions.{expression_holds}
use Rattle.pep508_marker.specs.Expression.{ExpressionRecord}
use Rattle.pep508_formula.specs.Postfix.{formula_of}
use Rattle.pep508_marker_parser.specs.Formula.{Formula, formula_holds}
use Rattle.pep508_requirement_text.specs.FrontReading.{Front}
use Rattle.pep508_requirement.specs.declared.marked_requirement.MarkedRequirement.{MarkedRequirement}
use Rattle.pep508_requirement.specs.declared.requirement.Requirement.{Requirement}
use Rattle.reqtable_answer.specs.Asks.{is_of}
use Rattle.reqtable_requirements.specs.declared.marked.MarkedLine.{MarkedLine}
use Rattle.reqtable_requirements.specs.declared.requirements.Line.{Line}
use Rattle.reqtable_requirements.specs.LineReading.{LineRecord}

-- the line's marker holds
abbrev pub applies : Valuation → LineRecord → Bool
applies v line = formula_holds (λ e. expression_holds e v) line.formula

-- what the applicable lines require, in their order
abbrev pub asks_of : Valuation → List LineRecord → List Front
asks_of v lines = map (λ line. line.front) (filter (applies v) lines)

-- a line without its number
abbrev pub Said : Type 0
Said = Front × Formula ExpressionRecord

abbrev pub line_said : LineRecord → Said
line_said line = (line.front, line.formula)

-- the lines of a package
abbrev pub lines_of : List ℕ → List LineRecord → List LineRecord
lines_of name lines = filter (λ line. is_of name line.front) lines

-- the markers of lines are trees of these nodes
abbrev pub AreOfNodes : List NodeRecord → List Line → Type 0
AreOfNodes nodes lines = AllByRecursion (λ line. IsTree nodes line.requirement.marker) lines

-- the requirements of those lines whose markers hold
abbrev pub applying : List NodeRecord → Valuation → List Line → List (Requirement Verbatim VerbatimUrlError)
applying nodes v lines =
    map (λ line. line.requirement) (filter (λ line. holds nodes line.requirement.marker v) lines)

-- the requirements of those lines with formulas whose markers hold
abbrev pub applying_marked : Valuation → List MarkedLine → List (MarkedRequirement Verbatim VerbatimUrlError)
applying_marked v lines =
    map (λ line. line.requirement)
    (filter (λ line. formula_holds (λ e. expression_holds e v) (formula_of line.requirement.formula)) lines)
