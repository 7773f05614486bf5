-- What the laws of normal texts are about: lines that say the same.
use Rattle.std.specs.Prelude.{◌≡◌, ◌⊎◌, ℕ, false, List, [], ◌∷◌, Ok}
use Rattle.std.specs.List.{AllZip}
use Rattle.pep508_url.specs.Vars.{Variables}
use Rattle.pep508_diagram.specs.Question.{Valuation}
use Rattle.pep508_requirement_text.specs.FrontReading.{Source}
use Rattle.pep508_requirement_ref.specs.RequirementPrint.{source_text}
use Rattle.reqtable_answer.specs.Says.{Says, SaysSource}
use Rattle.reqtable_requirements.specs.Asks.{applies, asks_of}
use Rattle.reqtable_requirements.specs.LineReading.{LineRecord}
use Rattle.reqtable_requirements.specs.Requirements.{requirements_of}

-- under every valuation the applicable lines of both lists require the same in the same order, the first with
-- their specifiers in the order of versions
abbrev pub AskAlike : List LineRecord → List LineRecord → Type 0
AskAlike lines said = (v : Valuation) → AllZip Says (asks_of v lines) (asks_of v said)

-- the text is read as lines that require the same
abbrev pub ReadsAs : Variables → List ℕ → List LineRecord → Type 0
ReadsAs vars text said =
    (lines : List LineRecord) × (requirements_of vars text ≡ Ok lines) × AskAlike lines said

-- specifiers have the same print once they are in the order of versions
abbrev pub PrintsAlike : Source → Source → Type 0
PrintsAlike source other =
    (shown also : Source) → SaysSource shown source → SaysSource also other
    → source_text shown ≡ source_text also

-- the lines have the same name, the same list of extras and the same print of their specifiers, and apply
-- under the same valuations
pub record SayAlike (line other : LineRecord) : Type 0 where
  pub name : line.front.name ≡ other.front.name
  pub extras : line.front.extras ≡ other.front.extras
  pub specifiers : PrintsAlike line.front.source other.front.source
  pub marker : (v : Valuation) → applies v line ≡ applies v other

-- the line applies under no valuation
abbrev pub NeverApplies : LineRecord → Type 0
NeverApplies line = (v : Valuation) → applies v line ≡ false

-- some lines that never apply are left out, and no others
abbrev pub LeavesOut : List LineRecord → List LineRecord → Type 0
LeavesOut [] left = left ≡ []
LeavesOut (line ∷ lines) left =
    (NeverApplies line × LeavesOut lines left)
    ⊎ ((others : List LineRecord) × (left ≡ line ∷ others) × LeavesOut lines others)
