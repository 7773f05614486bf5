-- Lines whose numbers rise are known by them.
use Rattle.std.proofs.Common.{◌≡◌, ◌∙◌, ℕ, Bool, true, false, cond, List, [], ◌∷◌, map, filter, refl, sym, ap}
use Rattle.std.proofs.Common.{Less, Greater}
use Rattle.std.specs.Cmp.{nat_cmp_total}
use Rattle.std.specs.List.{AllByRecursion, AllZip}
use Rattle.std.specs.List.Sorted.{IsStrictlySortedBy}
use Rattle.std.specs.Ordering.{nat_cmp, ordering_reverse}
use Rattle.pep508_diagram.specs.Question.{Valuation}
use Rattle.pep508_url.specs.Vars.{Variables}
use Rattle.pep508_tree.specs.Meaning.{NodeRecord}
use Rattle.pep508_cases.specs.Cases.{Marks}
use Rattle.reqtable_requirements.specs.Asks.{applies}
use Rattle.reqtable_requirements.specs.LineReading.{LineRecord}
use Rattle.reqtable_requirements.specs.Requirements.{StandsFor}
use Rattle.reqtable_requirements.specs.declared.requirements.Line.{Line}
use Rattle.pep508_cases.specs.Sets.{marked}
use Rattle.reqtable_cases.specs.Lines.{line_marks}

abbrev pub number_of : LineRecord → ℕ
number_of line = line.number

abbrev pub Rise : List LineRecord → Type 0
Rise lines = IsStrictlySortedBy nat_cmp (map number_of lines)

abbrev Above : ℕ → List LineRecord → Type 0
Above n lines = AllByRecursion (λ m. nat_cmp n m ≡ Less) (map number_of lines)

-- ---- some of the lines rise too

above_by : (n : ℕ) (b : Bool) (line : LineRecord) (lines : List LineRecord) → nat_cmp n line.number ≡ Less →
    Above n lines → Above n (cond b (line ∷ lines) lines)
above_by n true line lines first above = (first, above)
above_by n false line lines first above = above

above_kept : (n : ℕ) (p : LineRecord → Bool) (lines : List LineRecord) → Above n lines → Above n (filter p lines)
above_kept n p [] above = tt
above_kept n p (line ∷ lines) above =
    above_by n (p line) line (filter p lines) above.0 (above_kept n p lines above.1)

rise_by : (b : Bool) (line : LineRecord) (lines : List LineRecord) → Above line.number lines → Rise lines →
    Rise (cond b (line ∷ lines) lines)
unfolding IsStrictlySortedBy
rise_by true line lines above rise = (above, rise)
rise_by false line lines above rise = rise

pub rise_kept : (p : LineRecord → Bool) (lines : List LineRecord) → Rise lines → Rise (filter p lines)
unfolding IsStrictlySortedBy
rise_kept p [] rise = tt
rise_kept p (line ∷ lines) rise =
    rise_by (p line) line (filter p lines) (above_kept line.number p lines rise.0) (rise_kept p lines rise.1)

-- ---- lines of the same numbers are the same

not_below_itself : (n : ℕ) → nat_cmp n n ≡ Less → ⊥
not_below_itself n h =
    let turned : Less ≡ Greater = sym h ∙ nat_cmp_total.antisymm n n ∙ ap ordering_reverse h in absurd (cc)

none_of : (lines : List LineRecord) → map number_of lines ≡ [] → lines ≡ []
none_of [] h = refl
none_of (line ∷ lines) h = absurd (cc)

-- a number below all of some lines' isn't the first of those that are marked
not_first : (n : ℕ) (marks : Marks) (lines : List LineRecord) (rest : List ℕ) →
    Above n lines → map number_of (marked marks lines) ≡ n ∷ rest → ⊥
not_first n [] lines rest above h = absurd (cc)
not_first n (b ∷ marks) [] rest above h = absurd (cc)
not_first n (true ∷ marks) (line ∷ lines) rest above h =
    let same : line.number ≡ n = cc in not_below_itself n (ap (nat_cmp n) (sym same) ∙ above.0)
not_first n (false ∷ marks) (line ∷ lines) rest above h = not_first n marks lines rest above.1 h

-- marks of lines with the same numbers mark the same ones
pub same_marked : (lines : List LineRecord) (ms ns : Marks) → Rise lines →
    map number_of (marked ms lines) ≡ map number_of (marked ns lines) → marked ms lines ≡ marked ns lines
unfolding IsStrictlySortedBy
same_marked lines [] [] rise h = refl
same_marked lines [] (n ∷ ns) rise h = sym (none_of (marked (n ∷ ns) lines) (sym h))
same_marked lines (m ∷ ms) [] rise h = none_of (marked (m ∷ ms) lines) h
same_marked [] (m ∷ ms) (n ∷ ns) rise h = refl
same_marked (line ∷ lines) (true ∷ ms) (true ∷ ns) rise h =
    let rest : map number_of (marked ms lines) ≡ map number_of (marked ns lines) = cc in
    ap (λ l. line ∷ l) (same_marked lines ms ns rise.1 rest)
same_marked (line ∷ lines) (true ∷ ms) (false ∷ ns) rise h =
    absurd (not_first line.number ns lines (map number_of (marked ms lines)) rise.0 (sym h))
same_marked (line ∷ lines) (false ∷ ms) (true ∷ ns) rise h =
    absurd (not_first line.number ms lines (map number_of (marked ns lines)) rise.0 h)
same_marked (line ∷ lines) (false ∷ ms) (false ∷ ns) rise h = same_marked lines ms ns rise.1 h

-- ---- which lines these are

module _ (v : Valuation) where
  applying_by : (b : Bool) (line : LineRecord) (lines : List LineRecord) →
      filter (applies v) lines ≡ marked (line_marks lines v) lines →
      cond b (line ∷ filter (applies v) lines) (filter (applies v) lines)
      ≡ marked (b ∷ line_marks lines v) (line ∷ lines)
  applying_by true line lines h = ap (λ l. line ∷ l) h
  applying_by false line lines h = h

  -- the lines that apply are the marked ones
  pub applying_marked : (lines : List LineRecord) → filter (applies v) lines ≡ marked (line_marks lines v) lines
  applying_marked [] = refl
  applying_marked (line ∷ lines) = applying_by (applies v line) line lines (applying_marked lines)

-- lines that stand for others have their numbers
pub numbers_alike : (vars : Variables) (nodes : List NodeRecord) (lines : List Line) (said : List LineRecord) →
    AllZip (StandsFor vars nodes) lines said → map (λ line. line.number) lines ≡ map number_of said
numbers_alike vars nodes [] [] h = refl
numbers_alike vars nodes [] (one ∷ said) h = absurd h
numbers_alike vars nodes (line ∷ lines) [] h = absurd h
numbers_alike vars nodes (line ∷ lines) (one ∷ said) h =
    let number = h.0.number in let rest = numbers_alike vars nodes lines said h.1 in λ i. number i ∷ rest i
