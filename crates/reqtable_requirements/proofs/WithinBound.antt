-- Reading with a bound on the nodes: where it stops, and what it is without a bound.
use Rattle.std.proofs.Common.{◌≡◌, ◌∙◌, ◌<◌, ◌≤◌, ℕ, List, [], ◌∷◌, ◌++◌, length, Result, Ok, Err, ap, refl, sym, subst, arith}
use Rattle.std.specs.List.{AllZip, AllByRecursion}
use Rattle.std.specs.Result.{IsErrAnd}
use Rattle.read_outcome.specs.Outcome.{Tells}
use Rattle.pep508_url.specs.Vars.{Variables}
use Rattle.pep508_tree.specs.Meaning.{NodeRecord, Extends}
use Rattle.pep508_marker_parser.specs.MarkerOutcome.{IsTreeOf}
use Rattle.reqtable_candidates.specs.TextLines.{text_lines}
use Rattle.reqtable_requirements.specs.LineReading.{LineRecord}
use Rattle.reqtable_requirements.specs.Requirements.{SaysLine, requirements_of, ReadsRequirements}
use Rattle.reqtable_requirements.specs.Requirements.{told_requirements, IsErrorIn}
use Rattle.reqtable_requirements.specs.Within.{HasItsTree, IsPastAt, StaysWithin, MakesWithin, ReadsWithin}
use Rattle.reqtable_requirements.specs.declared.marked.MarkedLine.{MarkedLine}
use Rattle.reqtable_requirements.specs.declared.requirements.Line.{Line}
use Rattle.reqtable_requirements.specs.declared.requirements.RequirementsError.{RequirementsError}
use Rattle.reqtable_requirements.specs.declared.requirements.RequirementsError.TheVariants as errors
use Rattle.reqtable_requirements.proofs.Lines.{HasTree}

-- the lines that stand for the first of some marked lines, the one for the next, and those for the others
record Parted (vars : Variables) (done : List MarkedLine) (line : MarkedLine) (said : List LineRecord) : Type 0 where
  pub front : List LineRecord
  pub one : LineRecord
  pub back : List LineRecord
  pub split : said ≡ front ++ one ∷ back
  pub says_done : AllZip (SaysLine vars) done front
  pub says_line : SaysLine vars line one

parted : (vars : Variables) (done rest : List MarkedLine) (line : MarkedLine) (said : List LineRecord)
    → AllZip (SaysLine vars) (done ++ line ∷ rest) said → Parted vars done line said
parted vars [] rest line [] h = absurd h
parted vars [] rest line (one ∷ back) h =
    record { front = []; one = one; back = back; split = refl; says_done = tt; says_line = h.0 }
parted vars (first ∷ done) rest line [] h = absurd h
parted vars (first ∷ done) rest line (one ∷ said) h =
    let p = parted vars done rest line said h.1 in record {
      front = one ∷ p.front;
      one = p.one;
      back = p.back;
      split = ap (λ l. one ∷ l) p.split;
      says_done = (h.0, p.says_done);
      says_line = p.says_line;
    }

have_trees : (vars : Variables) (nodes : List NodeRecord) (made : List Line) (done : List MarkedLine)
    (said : List LineRecord) → AllZip (HasTree nodes) made done → AllZip (SaysLine vars) done said
    → AllByRecursion (HasItsTree nodes) said
have_trees vars nodes [] [] [] h k = tt
have_trees vars nodes [] [] (s ∷ said) h k = absurd k
have_trees vars nodes [] (m ∷ done) said h k = absurd h
have_trees vars nodes (l ∷ made) [] said h k = absurd h
have_trees vars nodes (l ∷ made) (m ∷ done) [] h k = absurd k
have_trees vars nodes (l ∷ made) (m ∷ done) (s ∷ said) h k =
    ((l.requirement.marker, subst (IsTreeOf nodes l.requirement.marker) k.0.formula h.0.tree), have_trees vars nodes made done said h.1 k.1)

-- the tree of one more line stops the others
pub stopped : (vars : Variables) (most : ℕ) (old new : List NodeRecord) (made : List Line)
    (done rest : List MarkedLine) (line : MarkedLine) (error : RequirementsError) → AllZip (HasTree old) made done
    → length old ≤ most → Extends old new → StaysWithin {X = ℕ} most new line.number (Err error)
    → (said : List LineRecord) → AllZip (SaysLine vars) (done ++ line ∷ rest) said
    → MakesWithin {X = ℕ} most new said (Err error)
stopped vars most old new made done rest line (errors.TooManyNodes number bound) trees fit more h said says =
    let p = parted vars done rest line said says in (
      h.1,
      record {
        front = p.front;
        line = p.one;
        back = p.back;
        split = p.split;
        is_named = sym p.says_line.number ∙ sym h.0;
        before = old;
        trees = have_trees vars old made done p.front trees p.says_done;
        fit = fit;
        extended = more;
        is_past = h.2;
      },
    )
stopped vars most old new made done rest line errors.Memory trees fit more h said says = h
stopped vars most old new made done rest line (errors.NotText offset) trees fit more h said says = absurd h
stopped vars most old new made done rest line (errors.Line number error) trees fit more h said says = absurd h
stopped vars most old new made done rest line (errors.NumberAtEnd number) trees fit more h said says = absurd h

module _ (vars : Variables) (most : ℕ) (nodes : List NodeRecord) (bytes : List ℕ) where
  -- a fault of the text is the result, where no tree was made
  pub fault_first : (error : RequirementsError) → length nodes ≤ most
      → Tells (told_requirements error) (requirements_of vars bytes) × IsErrorIn vars (text_lines bytes) error
      → ReadsWithin vars most nodes bytes (Err error)
  fault_first (errors.NotText offset) fit h = h
  fault_first (errors.Line number error) fit h = h
  fault_first (errors.NumberAtEnd number) fit h = h
  fault_first (errors.TooManyNodes number bound) fit h = absurd h.1
  fault_first errors.Memory fit h = fit

  -- and then an error of making trees
  pub trees_stop : (said : List LineRecord) (error : RequirementsError)
      → requirements_of vars bytes ≡ Ok said → MakesWithin {X = ℕ} most nodes said (Err error)
      → ReadsWithin vars most nodes bytes (Err error)
  trees_stop said (errors.NotText offset) e h = absurd h
  trees_stop said (errors.Line number error) e h = absurd h
  trees_stop said (errors.NumberAtEnd number) e h = absurd h
  trees_stop said (errors.TooManyNodes number bound) e h = (h.0, (said, e, h.1))
  trees_stop said errors.Memory e h = h

  -- an error that is passed on
  pub passed_on : (result : Result (List Line) RequirementsError) (error : RequirementsError)
      → IsErrAnd result (λ e. e ≡ error) → ReadsWithin vars most nodes bytes (Err error)
      → ReadsWithin vars most nodes bytes result
  passed_on (Ok x) error h r = absurd h
  passed_on (Err e) error h r = subst (λ e. ReadsWithin vars most nodes bytes (Err e)) (sym h) r

  -- nodes within the bound don't pass it
  pub without_bound : (result : Result (List Line) RequirementsError) → length nodes ≤ most
      → ReadsWithin vars most nodes bytes result → ReadsRequirements vars nodes bytes result
  without_bound (Ok lines) fit h = h.0
  without_bound (Err (errors.NotText offset)) fit h = h
  without_bound (Err (errors.Line number error)) fit h = h
  without_bound (Err (errors.NumberAtEnd number)) fit h = h
  without_bound (Err (errors.TooManyNodes number bound)) fit h = let past = h.1.2.is_past in absurd (omega arith)
  without_bound (Err errors.Memory) fit h = (tt, tt)
