-- Copies of the lines of a text are lines of one.
use Rattle.std.proofs.Common.{◌≡◌, List, [], ◌∷◌, All, Option, map, refl, sym, subst}
use Rattle.std.proofs.lemmas.List.Elements.{All-from_recursion, recursion_from_All}
use Rattle.std.specs.List.{AllByRecursion, AllZip}
use Rattle.std.specs.List.Sorted.{IsStrictlySortedBy}
use Rattle.std.specs.Ordering.{nat_cmp}
use Rattle.pep440_specifier_list.specs.ListReading.{IsReadFromText}
use Rattle.pep508_url.specs.UrlTexts.{Verbatim}
use Rattle.pep508_url.specs.declared.url_error.VerbatimUrlError.{VerbatimUrlError}
use Rattle.pep508_requirement.specs.declared.version_or_url.VersionOrUrl.{VersionOrUrl}
use Rattle.reqtable_requirements.specs.Copies.{IsLineCopy}
use Rattle.reqtable_requirements.specs.LineSpecifiers.{specifiers_by, specifiers_in}
use Rattle.reqtable_requirements.specs.ReadLines.{AreRead}
use Rattle.reqtable_requirements.specs.declared.requirements.Line.{Line}

numbers_copied : (copies lines : List Line) → AllZip IsLineCopy copies lines
    → map (λ line. line.number) copies ≡ map (λ line. line.number) lines
numbers_copied [] [] h = refl
numbers_copied [] (line ∷ lines) h = absurd h
numbers_copied (copy ∷ copies) [] h = absurd h
numbers_copied (copy ∷ copies) (line ∷ lines) h =
    let one = h.0.number in
    let rest = numbers_copied copies lines h.1 in
    λ i. one i ∷ rest i

abbrev SaysRead : Line → Type 0
SaysRead line = All IsReadFromText (specifiers_in line)

read_copied : (copies lines : List Line) → AllZip IsLineCopy copies lines → AllByRecursion SaysRead lines
    → AllByRecursion SaysRead copies
read_copied [] lines h all = tt
read_copied (copy ∷ copies) [] h all = absurd h
read_copied (copy ∷ copies) (line ∷ lines) h all =
    let P : Option (VersionOrUrl Verbatim VerbatimUrlError) → Type 0 = λ what. All IsReadFromText (specifiers_by what) in
    (subst P (sym h.0.requirement.version_or_url) all.0, read_copied copies lines h.1 all.1)

pub copies_are_read : (copies lines : List Line) → AllZip IsLineCopy copies lines → AreRead lines → AreRead copies
copies_are_read copies lines h are_read = record {
  rising = subst (IsStrictlySortedBy nat_cmp) (sym (numbers_copied copies lines h)) are_read.rising;
  read =
      All-from_recursion SaysRead copies (read_copied copies lines h (recursion_from_All SaysRead lines are_read.read));
}
