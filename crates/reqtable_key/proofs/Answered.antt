-- What is answered of a list, from what is known of its lines and its table.
use Rattle.std.proofs.Common.{◌≡◌, ◌∙◌, ◌||◌, ℕ, Bool, true, false, cond, List, [], ◌∷◌, Option, Some, None}
use Rattle.std.proofs.Common.{Err, refl, sym, ap, subst, true≢false}
use Rattle.std.specs.List.{list_any, AllZip}
use Rattle.std.specs.Str.{bytes_eq}
use Rattle.std.proofs.lemmas.Cmp.{nat_list_eq_equiv}
use Rattle.pep508_tree.specs.Meaning.{NodeRecord}
use Rattle.pep508_url.specs.Vars.{Variables}
use Rattle.reqtable_requirements.specs.LineReading.{LineRecord}
use Rattle.reqtable_requirements.specs.Requirements.{StandsFor}
use Rattle.reqtable_requirements.specs.declared.requirements.Line.{Line}
use Rattle.reqtable_cases.specs.Lines.{is_named, HasTooMany}
use Rattle.reqtable_table.specs.Given.{is_under}
use Rattle.reqtable_packages.specs.Packages.{said_among}
use Rattle.reqtable_packages.proofs.Standing.{named_alike}
use Rattle.reqtable_compare.specs.declared.sides.SameError.{SameError}
use Rattle.reqtable_compare.specs.declared.sides.SameError.TheVariants as errors
use Rattle.reqtable_compare.specs.declared.sides.Side.TheVariants.{Left, Right}
use Rattle.reqtable_compare.specs.Compared.{ComparesBy, MayCompare, NoneTooMany, PassesInAll, TablesSide}
use Rattle.reqtable_compare.specs.Refusals.{line_refusal}
use Rattle.reqtable_compare.proofs.Bounded.{by_bounds}
use Rattle.reqtable_key.specs.Keys.{Keys}

-- ---- lines of all packages

or_left : (a b : Bool) → a ≡ true → (a || b) ≡ true
or_left a b e = ap (λ x. x || b) e

or_right : (a b : Bool) → b ≡ true → (a || b) ≡ true
or_right true b e = refl
or_right false b e = e

kept_by : (b : Bool) (line : LineRecord) (kept lines : List LineRecord) → b ≡ true → kept ≡ lines →
    cond b (line ∷ kept) kept ≡ line ∷ lines
kept_by true line kept lines e is = ap (λ l. line ∷ l) is
kept_by false line kept lines e is = absurd (true≢false (sym e))

-- all are among packages that they name
among_all : (names : List (List ℕ)) (said : List LineRecord) →
    ((q : List ℕ) → is_named q said ≡ true → list_any (bytes_eq q) names ≡ true) → said_among names said ≡ said
among_all names [] up = refl
among_all names (line ∷ said) up =
    kept_by (list_any (bytes_eq line.front.name) names) line (said_among names said) said
    (up line.front.name (or_left (bytes_eq line.front.name line.front.name) (is_named line.front.name said)
    (nat_list_eq_equiv.refl line.front.name)))
    (among_all names said (λ q h. up q (or_right (bytes_eq q line.front.name) (is_named q said) h)))

pub all_among : (names : List (List ℕ)) (said : List LineRecord) →
    ((q : List ℕ) → list_any (bytes_eq q) names ≡ is_named q said) → said_among names said ≡ said
all_among names said named = among_all names said (λ q h. named q ∙ h)

or_false : (a : Bool) → (a || false) ≡ a
or_false true = refl
or_false false = refl

-- the names of all lines
pub all_named : (vars : Variables) (nodes : List NodeRecord) (lines given : List Line) (said : List LineRecord)
    (names : List (List ℕ)) → given ≡ lines → AllZip (StandsFor vars nodes) lines said →
    ((q : List ℕ) → list_any (bytes_eq q) names ≡ (list_any (is_under q) given || false)) →
    (q : List ℕ) → list_any (bytes_eq q) names ≡ is_named q said
all_named vars nodes lines given said names same h are q =
    are q ∙ or_false (list_any (is_under q) given) ∙ ap (list_any (is_under q)) same
    ∙ named_alike vars nodes lines said q h

-- ---- errors

module _ (limit : ℕ) (said : List LineRecord) (none : line_refusal said [] ≡ None) where
  in_all_refused : (in_all : Option ℕ) → PassesInAll limit in_all said →
      ComparesBy limit in_all [] said [] (Err (errors.TooManyCasesInAll Left))
  in_all_refused None h = absurd h
  in_all_refused (Some most) h = (none, h)

  refused_by : (in_all : Option ℕ) (nodes : List NodeRecord) (error : SameError) →
      TablesSide Left limit in_all nodes said (Err error) → Keys limit in_all said (Err error)
  refused_by in_all nodes (errors.Line side number cause) h = absurd h
  refused_by in_all nodes (errors.TooManyCases Left name) h =
      by_bounds limit in_all [] said [] (Err (errors.TooManyCases Left name)) (none, h.1)
  refused_by in_all nodes (errors.TooManyCases Right name) h = let wrong = h.0 in absurd (cc)
  refused_by in_all nodes (errors.TooManyCasesInAll Left) h = in_all_refused in_all h.1
  refused_by in_all nodes (errors.TooManyCasesInAll Right) h = let wrong = h.0 in absurd (cc)
  refused_by in_all nodes errors.Memory h = by_bounds limit in_all [] said [] (Err errors.Memory) tt

  pub table_refused : (in_all : Option ℕ) (nodes : List NodeRecord) (names : List (List ℕ)) (error : SameError) →
      said_among names said ≡ said → TablesSide Left limit in_all nodes (said_among names said) (Err error) →
      Keys limit in_all said (Err error)
  table_refused in_all nodes names error among h =
      refused_by in_all nodes error (subst (λ l. TablesSide Left limit in_all nodes l (Err error)) among h)

  no_names : (name : List ℕ) → HasTooMany limit [] name → ⊥
  no_names name h = true≢false (sym h.named)

  pub may_compare : NoneTooMany limit said → MayCompare limit said []
  may_compare few = record { lines = none; ours = few; theirs = no_names }

pub memory_out : (limit : ℕ) (in_all : Option ℕ) (said : List LineRecord) → Keys limit in_all said (Err errors.Memory)
memory_out limit in_all said = by_bounds limit in_all [] said [] (Err errors.Memory) tt
