-- What lines ask for that say the same has the same answers.
use Rattle.std.proofs.Common.{◌≡◌, ◌↔◌, ◌∙◌, ℕ, List, Result, Ok, sym, ap, subst}
use Rattle.std.specs.List.{AllByRecursion, AllZip}
use Rattle.pep508_diagram.specs.Question.{Valuation}
use Rattle.pep508_requirement_text.specs.FrontReading.{Front}
use Rattle.pep508_url.specs.Vars.{Variables}
use Rattle.reqtable_candidates.specs.declared.candidates.Candidate.{Candidate}
use Rattle.reqtable_answer.specs.Answer.{Admits, IsAnswerText}
use Rattle.reqtable_answer.specs.Says.{Says}
use Rattle.reqtable_answer.proofs.Alike.{AreAlike, same_answer}
use Rattle.reqtable_answer.proofs.Said.{said_alike}
use Rattle.reqtable_requirements.specs.Asks.{asks_of}
use Rattle.reqtable_requirements.specs.LineReading.{LineRecord, LinesFault}
use Rattle.reqtable_requirements.specs.LineText.{IsRequirementsText}
use Rattle.reqtable_requirements.specs.Requirements.{requirements_of}
use Rattle.reqtable_normal.specs.Meant.{ReadsAs}
use Rattle.reqtable_normal.specs.Normalized.{IsNormalText, kept}
use Rattle.reqtable_normal.proofs.OneLine.{IsReadAgain}
use Rattle.reqtable_normal.proofs.ReadAgain.{kept_again, lines_read, text_is_read, ask_alike, its_own_text}

-- bytes are read as the lines that the grammar says
abbrev pub LinesLaw : Type 0
LinesLaw =
    (vars : Variables) (bytes : List ℕ) (lines : List LineRecord) →
    (requirements_of vars bytes ≡ Ok lines) ↔ IsRequirementsText vars bytes lines

turned : (asks others : List Front) → AreAlike asks others → AreAlike others asks
turned asks others h = record {
  named = λ name. sym (h.named name);
  same = λ name. record {
    extras = λ extra. sym ((h.same name).extras extra);
    urls = sym (h.same name).urls;
    takes = λ version. sym ((h.same name).takes version);
    prereleases = sym (h.same name).prereleases;
  };
}

same_text : (admits : Admits) (candidates : List Candidate) (asks others : List Front) →
    AreAlike asks others → (text : List ℕ) → IsAnswerText admits asks candidates text →
    IsAnswerText admits others candidates text
same_text admits candidates asks others alike text h =
    (h.0, same_answer admits candidates asks others alike h.0 h.1, h.2)

said_text : (admits : Admits) (candidates : List Candidate) (shown said : List Front) →
    AllZip Says shown said → (text : List ℕ) →
    IsAnswerText admits said candidates text ↔ IsAnswerText admits shown candidates text
said_text admits candidates shown said say text =
    let alike = said_alike shown said say in (
      same_text admits candidates said shown (turned shown said alike) text,
      same_text admits candidates shown said alike text,
    )

same_lines : (lines others : List LineRecord) (read : Result (List LineRecord) LinesFault) → read ≡ Ok lines →
    read ≡ Ok others → lines ≡ others
same_lines lines others read e f = cc

module _ (law : LinesLaw) (vars others : Variables) (bytes text : List ℕ) (said : List LineRecord)
    (read : requirements_of vars bytes ≡ Ok said) (normal : IsNormalText said text) where
  are_again : AllByRecursion IsReadAgain (kept normal.lines)
  are_again =
      kept_again vars bytes said normal.lines ((law vars bytes said).0 read) normal.are_normal
      normal.faultless

  abbrev again : List LineRecord
  again = lines_read 1 (kept normal.lines) are_again

  is_read : requirements_of others text ≡ Ok again
  is_read =
      ap (requirements_of others) normal.is_text
      ∙ (law others _ again).1 (text_is_read others normal.lines are_again)

  asked_alike : (v : Valuation) → AllZip Says (asks_of v again) (asks_of v said)
  asked_alike v = ask_alike v 1 said normal.lines normal.are_normal are_again

  pub reads_as : ReadsAs others text said
  reads_as = (again, is_read, asked_alike)

  pub same_answers : (read_again : List LineRecord) (v : Valuation) (admits : Admits)
      (candidates : List Candidate) (answer : List ℕ) → requirements_of others text ≡ Ok read_again →
      IsAnswerText admits (asks_of v said) candidates answer
      ↔ IsAnswerText admits (asks_of v read_again) candidates answer
  same_answers read_again v admits candidates answer e =
      let P : List LineRecord → Type 0 = λ lines. AllZip Says (asks_of v lines) (asks_of v said) in
      said_text admits candidates (asks_of v read_again) (asks_of v said)
      (subst P (same_lines again read_again (requirements_of others text) is_read e) (asked_alike v)) answer

  pub its_own : (read_again : List LineRecord) → requirements_of others text ≡ Ok read_again →
      IsNormalText read_again text
  its_own read_again e =
      subst (λ lines. IsNormalText lines text)
      (same_lines again read_again (requirements_of others text) is_read e)
      (subst (λ t. IsNormalText again t) (sym normal.is_text)
      (its_own_text normal.lines are_again normal.faultless))
