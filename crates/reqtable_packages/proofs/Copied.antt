-- What holds of some lines holds of their copies.
use Rattle.std.proofs.Common.{◌∙◌, List, [], ◌∷◌, sym, subst}
use Rattle.std.specs.List.{AllZip}
use Rattle.pep508_url.specs.Vars.{Variables}
use Rattle.pep508_tree.specs.Meaning.{NodeRecord, IsTree}
use Rattle.pep508_marker_parser.specs.MarkerOutcome.{IsTreeOf}
use Rattle.pep508_requirement.specs.RequirementReading.{AsksFor}
use Rattle.reqtable_requirements.specs.Asks.{AreOfNodes}
use Rattle.reqtable_requirements.specs.Copies.{IsLineCopy}
use Rattle.reqtable_requirements.specs.LineReading.{LineRecord}
use Rattle.reqtable_requirements.specs.Requirements.{ReadsUrl, StandsFor}
use Rattle.reqtable_requirements.specs.declared.requirements.Line.{Line}

pub trees_copied : (nodes : List NodeRecord) (copies lines : List Line) → AllZip IsLineCopy copies lines →
    AreOfNodes nodes lines → AreOfNodes nodes copies
trees_copied nodes [] lines h all = tt
trees_copied nodes (copy ∷ copies) [] h all = absurd h
trees_copied nodes (copy ∷ copies) (line ∷ lines) h all =
    (subst (IsTree nodes) (sym h.0.requirement.marker) all.0, trees_copied nodes copies lines h.1 all.1)

pub said_copied : (vars : Variables) (nodes : List NodeRecord) (copies lines : List Line)
    (said : List LineRecord) → AllZip IsLineCopy copies lines → AllZip (StandsFor vars nodes) lines said →
    AllZip (StandsFor vars nodes) copies said
said_copied vars nodes [] [] said h stand = stand
said_copied vars nodes [] (line ∷ lines) said h stand = absurd h
said_copied vars nodes (copy ∷ copies) [] said h stand = absurd h
said_copied vars nodes (copy ∷ copies) (line ∷ lines) [] h stand = absurd stand
said_copied vars nodes (copy ∷ copies) (line ∷ lines) (one ∷ said) h stand =
    let is = h.0.requirement in
    let it = stand.0 in (
      record {
        number = h.0.number ∙ it.number;
        name = is.name ∙ it.name;
        extras = is.extras ∙ it.extras;
        asks = subst (AsksFor (ReadsUrl vars) one.front.source) (sym is.version_or_url) it.asks;
        tree = subst (λ marker. IsTreeOf nodes marker one.formula) (sym is.marker) it.tree;
      },
      said_copied vars nodes copies lines said h.1 stand.1,
    )
