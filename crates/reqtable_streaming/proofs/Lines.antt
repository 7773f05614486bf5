-- What is asked for comes from lines.
use Rattle.std.proofs.Common.{◌<◌, List, [], ◌∷◌, length, arith}
use Rattle.std.specs.List.{AllZip}
use Rattle.pep508_diagram.specs.Question.{Valuation}
use Rattle.pep508_url.specs.Vars.{Variables}
use Rattle.reqtable_answer.specs.declared.ask.Ask.{Ask}
use Rattle.reqtable_answer.specs.Says.{SayAll}
use Rattle.reqtable_requirements.specs.declared.marked.MarkedLine.{MarkedLine}
use Rattle.reqtable_requirements.specs.Asks.{asks_of}
use Rattle.reqtable_requirements.specs.LineReading.{LineRecord}
use Rattle.reqtable_requirements.specs.Requirements.{SaysLine}

none_asked : (asks : List Ask) → SayAll asks [] → 0 < length asks → ⊥
none_asked [] h some = omega arith
none_asked (ask ∷ asks) h some = h

pub some_lines : (v : Valuation) (lines : List MarkedLine) (asks : List Ask)
    → ((vars : Variables) (said : List LineRecord) → AllZip (SaysLine vars) lines said → SayAll asks (asks_of v said))
    → 0 < length asks → 0 < length lines
some_lines v [] asks h some = absurd (none_asked asks (h (record { pairs = []; project_root = [] }) [] tt) some)
some_lines v (line ∷ lines) asks h some = omega arith
