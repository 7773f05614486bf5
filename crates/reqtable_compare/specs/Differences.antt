-- The first of some packages of which two lists don't require what a relation has.
use Rattle.std.specs.Prelude.{◌≡◌, ◌&&◌, ℕ, true, List, ◌∷◌, ◌++◌, Option, Some, None}
use Rattle.std.specs.Prelude.{Result, Ok, Err}
use Rattle.std.specs.List.{AllByRecursion}
use Rattle.pep508_diagram.specs.Question.{Valuation}
use Rattle.pep508_tree.specs.Tree.{Tree}
use Rattle.pep508_tree.specs.Meaning.{NodeRecord, IsTree, holds}
use Rattle.reqtable_requirements.specs.declared.requirements.Line.{Line}
use Rattle.reqtable_table.specs.Cases.{cases_under}
use Rattle.reqtable_table.specs.Kept.{KeptPackage, kept_under}
use Rattle.reqtable_compare.specs.declared.comparing.Place.{Place as Found}
use Rattle.reqtable_compare.specs.declared.sides.Relation.{Relation}
use Rattle.reqtable_compare.specs.declared.sides.Same.{Same}
use Rattle.reqtable_compare.specs.declared.sides.Same.TheVariants.{Yes, No}
use Rattle.reqtable_compare.specs.declared.sides.SameError.{SameError}
use Rattle.reqtable_compare.specs.declared.sides.SameError.TheVariants.{Memory}
use Rattle.reqtable_compare.specs.Summed.{SummaryRecord}
use Rattle.reqtable_compare.specs.Totals.{AreSummed}
use Rattle.reqtable_compare.specs.Pairs.{PassesAll, IsFirstPair}

-- a list with its table
pub record Listed : Type 0 where
  pub lines : List Line
  pub table : List KeptPackage

-- the summaries of what a list requires of a package
abbrev pub Sums : Listed → List ℕ → List SummaryRecord → Type 0
Sums side name summaries =
    AreSummed side.lines (kept_under name side.table) (cases_under name side.table) summaries

-- both lists require of a package what the relation has
pub record AgreeOn (relation : Relation) (nodes : List NodeRecord) (left right : Listed) (name : List ℕ)
    : Type 0 where
  pub ours : List SummaryRecord
  pub theirs : List SummaryRecord
  pub our_sums : Sums left name ours
  pub their_sums : Sums right name theirs
  pub pass : AllByRecursion (PassesAll relation nodes theirs) ours

-- they don't, at these trees of both
pub record DifferOn (relation : Relation) (nodes : List NodeRecord) (left right : Listed) (name : List ℕ)
    (one other : Tree) : Type 0 where
  pub ours : List SummaryRecord
  pub theirs : List SummaryRecord
  pub our_sums : Sums left name ours
  pub their_sums : Sums right name theirs
  pub pair : IsFirstPair relation nodes ours theirs one other

-- a package by its name, and a tree of each side
abbrev pub Place : Type 0
Place = List ℕ × (Tree × Tree)

pub record IsFirstPlace (relation : Relation) (nodes : List NodeRecord) (left right : Listed)
    (names : List (List ℕ)) (place : Place) : Type 0 where
  pub front : List (List ℕ)
  pub back : List (List ℕ)
  pub split : names ≡ front ++ place.0 ∷ back
  pub before : AllByRecursion (AgreeOn relation nodes left right) front
  pub differ : DifferOn relation nodes left right place.0 place.1.0 place.1.1

abbrev pub FindsPlace : Relation → List NodeRecord → Listed → Listed → List (List ℕ) → Option Place → Type 0
FindsPlace relation nodes left right names None = AllByRecursion (AgreeOn relation nodes left right) names
FindsPlace relation nodes left right names (Some place) = IsFirstPlace relation nodes left right names place

-- ---- the result for a difference

abbrev pub listed : List Line → List KeptPackage → Listed
listed lines table = record { lines = lines; table = table }

abbrev pub place_seen : Found → Place
place_seen place = (place.name, (place.meeting.one, place.meeting.other))

-- a tree of new nodes holds under some valuation, and exactly where both trees of a place do
pub record IsBoth (old new : List NodeRecord) (one other tree : Tree) : Type 0 where
  pub made : IsTree new tree
  pub somewhere : (v : Valuation) × (holds new tree v ≡ true)
  pub means : (v : Valuation) → holds new tree v ≡ (holds old one v && holds old other v)

abbrev pub AnswersPlace : List NodeRecord → List NodeRecord → Place → Result Same SameError → Type 0
AnswersPlace old new place (Ok Yes) = ⊥
AnswersPlace old new place (Ok (No name tree)) =
    (name ≡ place.0) × IsBoth old new place.1.0 place.1.1 tree
AnswersPlace old new place (Err error) = error ≡ Memory

-- the result of comparing the tables of two lists on some packages
pub record DiffersFirst (relation : Relation) (old new : List NodeRecord) (left right : Listed)
    (names : List (List ℕ)) (name : List ℕ) (tree : Tree) : Type 0 where
  pub place : Place
  pub first : IsFirstPlace relation old left right names place
  pub named : name ≡ place.0
  pub both : IsBoth old new place.1.0 place.1.1 tree

abbrev pub ComparesTables : Relation → List NodeRecord → List NodeRecord → Listed → Listed → List (List ℕ)
    → Result Same SameError → Type 0
ComparesTables relation old new left right names (Ok Yes) =
    AllByRecursion (AgreeOn relation old left right) names
ComparesTables relation old new left right names (Ok (No name tree)) =
    DiffersFirst relation old new left right names name tree
ComparesTables relation old new left right names (Err error) = error ≡ Memory
