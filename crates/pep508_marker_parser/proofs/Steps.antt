-- How a reading's levels change, step by step.
use Rattle.std.proofs.Common.{◌≡◌, ℕ, zero, suc, ◌+◌, ◌<◌, ◌≤◌, ◌==◌, arith, true, false, List, [], ◌∷◌, ◌++◌}
use Rattle.std.proofs.Common.{length}
use Rattle.std.proofs.Common.{Some, None, Ok, refl, ap, sym, subst, ◌∙◌, append_assoc, reverse}
use Rattle.std.specs.Prelude.{Option, map}
use Rattle.std.proofs.lemmas.List.{reverse-append, length-reverse, append-nil}
use Rattle.std.specs.Str.{skip_leading_whitespace}
use Rattle.pep508_marker.specs.declared.warnings.MarkerWarningKind.{MarkerWarningKind}
use Rattle.pep508_marker.specs.Expression.{ExpressionRecord}
use Rattle.pep508_formula.specs.declared.formula_builder.FormulaBuilder.{FormulaBuilder}
use Rattle.pep508_formula.specs.Postfix.{Part, formula_of}
use Rattle.pep508_formula.specs.Building as building
use Rattle.pep508_error.specs.declared.cursor.Cursor.{Cursor}
use Rattle.pep508_error.specs.Cursors.{IsBehind, behind}
use Rattle.pep508_error.specs.declared.refusal.Refusal.{Refusal}
use Rattle.pep508_error.specs.declared.refusal.RefusalKind.{RefusalKind}
use Rattle.pep508_error.specs.Refusals.{IsOf}
use Rattle.pep508_error.specs.Steps.{◌>>=◌}
use Rattle.pep508_error.specs.Cuts.{begins_by}
use Rattle.pep508_comparison_parser.specs.SideReading.{Reading, TooDeep}
use Rattle.pep508_marker.specs.Warnings.{Warning}
use Rattle.pep508_comparison_parser.specs.Outcome.{Fits, Tells, IsWarned}
use Rattle.pep508_comparison_parser.proofs.Warned.{warned_both}
use Rattle.pep508_marker_parser.specs.declared.chain.Step.{Step}
use Rattle.pep508_marker_parser.specs.declared.chain.Step.TheVariants as steps
use Rattle.pep508_marker_parser.specs.declared.levels.Levels.{Levels}
use Rattle.pep508_marker_parser.specs.Formula.{Formula, Both, Either}
use Rattle.pep508_marker_parser.specs.MarkerReading.{Marker, Connective, And, Or, is_next, behind_run}
use Rattle.pep508_marker_parser.specs.MarkerReading.{comparison_at, closed, part_of}
use Rattle.pep508_marker_parser.specs.TreeReading.{inner_at, piece_at, chain_at}
use Rattle.pep508_marker_parser.specs.Levels.{Begun, warned_in, waiting_warned, join_on}
use Rattle.pep508_marker_parser.specs.Levels.{all_on, waiting_on, further_at, formula_in, begun_formulas, AreOpen}
use Rattle.pep508_marker_parser.specs.Levels.{Stands, IsAtPart, IsBehindPart, IsBehindFormula, IsAtEnd}
use Rattle.pep508_marker_parser.specs.Levels.{IsStep, WarnsAndStepsTo}
use Rattle.pep508_marker_parser.proofs.Kept.{run_length, skipped_length}
use Rattle.pep508_marker_parser.proofs.Chains.{nothing, both_said, either_said, all_begins, opened, too_deep}
use Rattle.pep508_marker_parser.proofs.Chains.{part_other}
use Rattle.pep508_marker_parser.proofs.Chains.{goes_both, chain_over, goes_either, formula_over, closes}
use Rattle.pep508_marker_parser.proofs.Chains.{tells_on, behind_on}

-- ---- levels

-- the last bracket stands first when they are turned
turned : (openings : List Cursor) (opening : Cursor) → reverse (openings ++ opening ∷ []) ≡ opening ∷ reverse openings
turned openings opening = reverse-append openings (opening ∷ [])

as_many : (text : List ℕ) (waiting : List Begun) (openings : List Cursor)
    → AreOpen text waiting openings → length waiting ≡ length openings
as_many text [] [] h = refl
as_many text [] (opening ∷ openings) h = absurd h
as_many text (begun ∷ waiting) [] h = absurd h
as_many text (begun ∷ waiting) (opening ∷ openings) (here, others) = ap suc (as_many text waiting openings others)

abbrev Said : Type 0
Said = Formula ExpressionRecord

-- formulas are joined as markers are
both_formula : (both : Option Marker) (piece : Marker)
    → building.join_on Both (formula_in both) piece.formula ≡ (join_on And both piece).formula
both_formula None piece = refl
both_formula (Some first) piece = refl

either_formula : (either : Option Marker) (chain : Marker)
    → building.join_on Either (formula_in either) chain.formula ≡ (join_on Or either chain).formula
either_formula None chain = refl
either_formula (Some first) chain = refl

-- what the builder's steps promise
abbrev BuiltOn : FormulaBuilder → FormulaBuilder → Said → Type 0
BuiltOn old new f = (begun : building.Begun) (waiting : List building.Begun)
    → building.Stands old None begun waiting → building.Stands new (Some f) begun waiting

abbrev OpenedOn : FormulaBuilder → FormulaBuilder → Type 0
OpenedOn old new = (begun : building.Begun) (waiting : List building.Begun)
    → building.Stands old None begun waiting → building.Stands new None building.nothing (begun ∷ waiting)

abbrev TakenOn : FormulaBuilder → FormulaBuilder → Type 0
TakenOn old new = (piece : Said) (begun : building.Begun) (waiting : List building.Begun)
    → building.Stands old (Some piece) begun waiting
    → building.Stands new None
    (record { either = begun.either; both = Some (building.join_on Both begun.both piece) }) waiting

abbrev EndedOn : FormulaBuilder → FormulaBuilder → Type 0
EndedOn old new = (chain : Said) (begun : building.Begun) (waiting : List building.Begun)
    → building.Stands old None (record { either = begun.either; both = Some chain }) waiting
    → building.Stands new None
    (record { either = Some (building.join_on Either begun.either chain); both = None }) waiting

-- ---- warnings

more_warned : (word : Connective) (said : Option Marker) (next : Marker)
    → (join_on word said next).warned ≡ warned_in said ++ next.warned
more_warned word None next = refl
more_warned word (Some first) next = refl

-- those of a chain of `and` with one more piece
in_chain : (begun : Begun) (waiting : List Begun) (piece : Marker)
    → waiting_warned waiting ++ (warned_in begun.either ++ (both_said begun piece).warned)
    ≡ waiting_warned (begun ∷ waiting) ++ piece.warned
in_chain begun waiting piece =
    let front = waiting_warned waiting in
    let either = warned_in begun.either in
    let both = warned_in begun.both in
    ap (λ ws. front ++ (either ++ ws)) (more_warned And begun.both piece)
    ∙ ap (λ ws. front ++ ws) (sym (append_assoc either both piece.warned))
    ∙ sym (append_assoc front (either ++ both) piece.warned)

-- those of all chains
in_all : (begun : Begun) (waiting : List Begun) (piece : Marker)
    → waiting_warned waiting ++ (either_said begun piece).warned ≡ waiting_warned (begun ∷ waiting) ++ piece.warned
in_all begun waiting piece =
    ap (λ ws. waiting_warned waiting ++ ws) (more_warned Or begun.either (both_said begun piece))
    ∙ in_chain begun waiting piece

-- ---- places

pub passed : (word : Connective) (rest later : List ℕ) → true ≡ is_next word rest → later ≡ behind_run rest
    → length later < length rest
passed word rest later e at =
    let a = run_length word rest (sym e) in
    let b : length later ≡ length (behind_run rest) = ap length at in
    omega (arith, a, b)

pub skipped : (rest later : List ℕ) → later ≡ skip_leading_whitespace rest → length later ≤ length rest
skipped rest later at =
    let a = skipped_length rest in
    let b : length later ≡ length (skip_leading_whitespace rest) = ap length at in
    omega (arith, a, b)

pub of_on : (start place : Cursor) (refusal : Refusal) → IsBehind start place → IsOf place refusal → IsOf start refusal
of_on start place refusal b h kind = h kind ∙ b.input

module _ (deepest : ℕ) (start : Cursor) (reading : Reading Marker) where
  abbrev text : List ℕ
  text = start.input.now

  -- ---- before a piece

  pub begins : (levels : Levels) → levels.openings.items ≡ [] → building.Stands levels.builder None building.nothing []
      → chain_at Or deepest (behind start) ≡ reading → IsAtPart deepest start reading [] levels start
  begins levels w b h = record {
    at = record { depth = deepest; begun = nothing; waiting = [] };
    stands = record { deep = omega arith; built = b; others = subst (λ ls. AreOpen text [] (reverse ls)) (sym w) tt };
    warned_is = refl;
    stays = record { input = refl; ordered = omega arith };
    goes_on = all_begins deepest (behind start) ∙ h;
  }

  module _ (warned : List MarkerWarningKind) (old : Levels) (place opening : Cursor)
      (at_bracket : behind opening ≡ skip_leading_whitespace (behind place)) (later : IsBehind place opening) where
    many : (waiting : List Begun) → AreOpen text waiting (reverse old.openings.items)
        → length waiting ≡ length old.openings.items
    many waiting h = as_many text waiting (reverse old.openings.items) h ∙ length-reverse old.openings.items

    opens_at : (depth : ℕ) (begun : Begun) (waiting : List Begun)
        → Stands deepest text old None (record { depth = depth; begun = begun; waiting = waiting })
        → waiting_warned (begun ∷ waiting) ≡ warned → IsBehind start place
        → (piece_at And depth (behind place) >>= all_on (record { depth = depth; begun = begun; waiting = waiting })) ≡ reading
        → (new : Levels) (inner : Cursor) → behind opening ≡ 40 ∷ behind inner → IsBehind opening inner
        → length old.openings.items < deepest → new.openings.items ≡ old.openings.items ++ opening ∷ []
        → OpenedOn old.builder new.builder
        → IsAtPart deepest start reading warned new inner
    opens_at zero begun waiting stands w s goes new inner split k few o b =
        let m = many waiting stands.others in absurd (omega (arith, m, stands.deep, few))
    opens_at (suc depth) begun waiting stands w s goes new inner split k few o b = record {
      at = record { depth = depth; begun = nothing; waiting = begun ∷ waiting };
      stands = record {
        deep = omega (arith, stands.deep);
        built = b (begun_formulas begun) (map begun_formulas waiting) stands.built;
        others = subst (AreOpen text (begun ∷ waiting)) (sym (ap reverse o ∙ turned old.openings.items opening))
            (later.input ∙ s.input, stands.others);
      };
      warned_is = append-nil (waiting_warned (begun ∷ waiting)) ∙ w;
      stays = behind_on start opening inner (behind_on start place opening s later) k;
      goes_on = sym (opened depth begun waiting (behind place) (behind inner) (sym at_bracket ∙ split)) ∙ goes;
    }

    -- a bracket opens
    pub opens : IsAtPart deepest start reading warned old place → (new : Levels) (inner : Cursor)
        → behind opening ≡ 40 ∷ behind inner → IsBehind opening inner → length old.openings.items < deepest
        → new.openings.items ≡ old.openings.items ++ opening ∷ [] → OpenedOn old.builder new.builder
        → IsAtPart deepest start reading warned new inner
    opens h = opens_at h.at.depth h.at.begun h.at.waiting h.stands h.warned_is h.stays h.goes_on

    deep_at : (depth : ℕ) (begun : Begun) (waiting : List Begun)
        → Stands deepest text old None (record { depth = depth; begun = begun; waiting = waiting })
        → (piece_at And depth (behind place) >>= all_on (record { depth = depth; begun = begun; waiting = waiting })) ≡ reading
        → (inside : List ℕ) → behind opening ≡ 40 ∷ inside → deepest ≤ length old.openings.items → (kind : RefusalKind)
        → Fits kind TooDeep → Tells kind reading
    deep_at zero begun waiting stands goes inside split many_open kind fits =
        subst (Tells kind)
        (sym (too_deep (behind place) inside (all_on (record { depth = 0; begun = begun; waiting = waiting }))
        (sym at_bracket ∙ split)) ∙ goes) fits
    deep_at (suc depth) begun waiting stands goes inside split many_open kind fits =
        let m = many waiting stands.others in absurd (omega (arith, m, stands.deep, many_open))

    -- one bracket too many
    pub too_many : IsAtPart deepest start reading warned old place → (inside : List ℕ)
        → behind opening ≡ 40 ∷ inside → deepest ≤ length old.openings.items → (kind : RefusalKind)
        → Fits kind TooDeep → Tells kind reading
    too_many h = deep_at h.at.depth h.at.begun h.at.waiting h.stands h.goes_on

    is_comparison : (depth : ℕ) → begins_by (λ c. c == 40) (behind opening) ≡ false
        → comparison_at (behind opening) ≡ piece_at And depth (behind place)
    is_comparison depth none =
        part_other (inner_at depth) (behind opening) none ∙ ap (part_of (inner_at depth)) at_bracket

    -- a comparison
    pub compares : IsAtPart deepest start reading warned old place
        → begins_by (λ c. c == 40) (behind opening) ≡ false → (new : Levels) → new.openings ≡ old.openings
        → (piece : Marker) (end : Cursor) → comparison_at (behind opening) ≡ Ok (piece, behind end)
        → BuiltOn old.builder new.builder piece.formula → IsBehind opening end
        → IsBehindPart deepest start reading (warned ++ piece.warned) new end
    compares h none new same piece end e b k = record {
      at = h.at;
      piece = piece;
      stands = record {
        deep = h.stands.deep;
        built = b (begun_formulas h.at.begun) (map begun_formulas h.at.waiting) h.stands.built;
        others = subst (λ os. AreOpen text h.at.waiting (reverse os.items)) (sym same) h.stands.others;
      };
      warned_is = ap (λ ws. ws ++ piece.warned) h.warned_is;
      stays = behind_on start opening end (behind_on start place opening h.stays later) k;
      goes_on = sym (ap (λ r. r >>= all_on h.at) (sym (is_comparison h.at.depth none) ∙ e)) ∙ h.goes_on;
    }

    pub compares_not : IsAtPart deepest start reading warned old place
        → begins_by (λ c. c == 40) (behind opening) ≡ false → (kind : RefusalKind)
        → Tells kind (comparison_at (behind opening)) → Tells kind reading
    compares_not h none kind tells =
        subst (Tells kind) h.goes_on
        (tells_on kind (piece_at And h.at.depth (behind place)) (all_on h.at)
        (subst (Tells kind) (is_comparison h.at.depth none) tells))

  -- ---- behind a piece

  module _ (warned : List MarkerWarningKind) (old mid : Levels) (place : Cursor)
      (same : mid.openings.items ≡ old.openings.items) (taken : TakenOn old.builder mid.builder)
      (h : IsBehindPart deepest start reading warned old place) where
    abbrev chain : Marker
    chain = both_said h.at.begun h.piece

    built_mid : building.Stands mid.builder None
        (begun_formulas (record { either = h.at.begun.either; both = Some chain })) (map begun_formulas h.at.waiting)
    built_mid =
        subst (λ (f : Said). building.Stands mid.builder None
        (record { either = formula_in h.at.begun.either; both = Some f }) (map begun_formulas h.at.waiting))
        (both_formula h.at.begun.both h.piece)
        (taken h.piece.formula (begun_formulas h.at.begun) (map begun_formulas h.at.waiting) h.stands.built)

    -- `and` follows
    pub chained : (later : Cursor) → true ≡ is_next And (behind place) → behind later ≡ behind_run (behind place)
        → IsBehind place later → IsAtPart deepest start reading warned mid later
    chained later e at k = record {
      at = record {
        depth = h.at.depth;
        begun = record { either = h.at.begun.either; both = Some chain };
        waiting = h.at.waiting;
      };
      stands = record {
        deep = h.stands.deep;
        built = built_mid;
        others = subst (λ ls. AreOpen text h.at.waiting (reverse ls)) (sym same) h.stands.others;
      };
      warned_is = in_chain h.at.begun h.at.waiting h.piece ∙ h.warned_is;
      stays = behind_on start place later h.stays k;
      goes_on = ap (λ ds. piece_at And h.at.depth ds >>= all_on (record {
        depth = h.at.depth;
        begun = record { either = h.at.begun.either; both = Some chain };
        waiting = h.at.waiting;
      })) at
          ∙ sym (goes_both h.at.depth h.at.begun h.at.waiting h.piece (behind place) (sym e)) ∙ h.goes_on;
    }

    module _ (after : Levels) (same_after : after.openings.items ≡ mid.openings.items)
        (ended : EndedOn mid.builder after.builder)
        (none : false ≡ is_next And (behind place)) (end : Cursor)
        (at_end : behind end ≡ skip_leading_whitespace (behind place)) (stays : IsBehind place end) where
      abbrev whole : Marker
      whole = either_said h.at.begun h.piece

      stands_after : Stands deepest text after None
          (record { depth = h.at.depth; begun = record { either = Some whole; both = None }; waiting = h.at.waiting })
      stands_after = record {
        deep = h.stands.deep;
        built =
            subst (λ (f : Said). building.Stands after.builder None (record { either = Some f; both = None })
            (map begun_formulas h.at.waiting))
            (either_formula h.at.begun.either chain)
            (ended chain.formula (begun_formulas h.at.begun) (map begun_formulas h.at.waiting) built_mid);
        others = subst (λ ls. AreOpen text h.at.waiting (reverse ls)) (sym (same_after ∙ same)) h.stands.others;
      }

      on_or : (further_at Or h.at.depth (whole, behind end) >>= waiting_on h.at.depth h.at.waiting) ≡ reading
      on_or =
          ap (λ ds. further_at Or h.at.depth (whole, ds) >>= waiting_on h.at.depth h.at.waiting) at_end
          ∙ sym (chain_over h.at.depth h.at.begun h.at.waiting h.piece (behind place) (sym none)) ∙ h.goes_on

      -- `or` follows
      pub chosen : (later : Cursor) → true ≡ is_next Or (behind end) → behind later ≡ behind_run (behind end)
          → IsBehind end later → IsAtPart deepest start reading warned after later
      chosen later e at k = record {
        at = record { depth = h.at.depth; begun = record { either = Some whole; both = None }; waiting = h.at.waiting };
        stands = stands_after;
        warned_is = ap (λ ws. waiting_warned h.at.waiting ++ ws) (append-nil whole.warned)
            ∙ in_all h.at.begun h.at.waiting h.piece ∙ h.warned_is;
        stays = behind_on start end later (behind_on start place end h.stays stays) k;
        goes_on = ap (λ ds. piece_at And h.at.depth ds >>= all_on (record {
          depth = h.at.depth;
          begun = record { either = Some whole; both = None };
          waiting = h.at.waiting;
        })) at
            ∙ sym (goes_either h.at.depth h.at.waiting whole (behind end) (sym e)) ∙ on_or;
      }

      -- neither follows
      pub formula_ends : (last : Cursor) → false ≡ is_next Or (behind end)
          → behind last ≡ skip_leading_whitespace (behind end) → IsBehind end last
          → IsBehindFormula deepest start reading warned after last
      formula_ends last e at k = record {
        depth = h.at.depth;
        waiting = h.at.waiting;
        whole = whole;
        stands = stands_after;
        warned_is = in_all h.at.begun h.at.waiting h.piece ∙ h.warned_is;
        stays = behind_on start end last (behind_on start place end h.stays stays) k;
        goes_on = ap (λ ds. waiting_on h.at.depth h.at.waiting (whole, ds)) at
            ∙ sym (formula_over h.at.depth h.at.waiting whole (behind end) (sym e)) ∙ on_or;
      }

  -- ---- behind a formula

  module _ (warned : List MarkerWarningKind) (old : Levels) (end : Cursor) where
    abbrev Over : Type 0
    Over = IsBehindFormula deepest start reading warned old end

    ends_at : (depth : ℕ) (waiting : List Begun) (openings : List Cursor) → openings ≡ [] → (whole : Marker)
        → building.Stands old.builder None (begun_formulas (record { either = Some whole; both = None }))
        (map begun_formulas waiting) → AreOpen text waiting openings
        → waiting_warned waiting ++ whole.warned ≡ warned → IsBehind start end
        → waiting_on depth waiting (whole, behind end) ≡ reading
        → IsAtEnd deepest start reading warned old end
    ends_at depth [] openings none whole b others w s goes =
        record { whole = whole; built = b; warned_is = w; stays = s; is_read = sym goes }
    ends_at depth (begun ∷ waiting) [] none whole b others w s goes = absurd others
    ends_at depth (begun ∷ waiting) (opening ∷ openings) none whole b others w s goes = absurd (cc)

    -- no other waits
    pub ends : Over → old.openings.items ≡ [] → (new : Levels) → new.builder ≡ old.builder
        → IsAtEnd deepest start reading warned new end
    ends h none new same =
        let e = ends_at h.depth h.waiting (reverse old.openings.items) (ap reverse none) h.whole h.stands.built
        h.stands.others h.warned_is h.stays h.goes_on in
        record {
          whole = e.whole;
          built = subst (λ (b : FormulaBuilder). building.Stands b None
              (begun_formulas (record { either = Some e.whole; both = None })) []) (sym same) e.built;
          warned_is = e.warned_is;
          stays = e.stays;
          is_read = e.is_read;
        }

    module _ (new : Levels) (opening : Cursor) (shut : old.openings.items ≡ new.openings.items ++ opening ∷ []) where
      abbrev Others : List Begun → Type 0
      Others waiting = AreOpen text waiting (opening ∷ reverse new.openings.items)

      others_so : (waiting : List Begun) → AreOpen text waiting (reverse old.openings.items) → Others waiting
      others_so waiting = subst (AreOpen text waiting) (ap reverse shut ∙ turned new.openings.items opening)

      opening_at : (waiting : List Begun) → Others waiting → opening.input.now ≡ text
      opening_at [] others = absurd others
      opening_at (begun ∷ waiting) (here, others) = here

      -- the bracket that closes is of the text of the one that opens
      pub same_text : Over → opening.input.now ≡ end.input.now
      same_text h = opening_at h.waiting (others_so h.waiting h.stands.others) ∙ sym h.stays.input

      abbrev ClosedOn : Type 0
      ClosedOn = (whole : Said) (begun : building.Begun) (waiting : List building.Begun)
          → building.Stands old.builder None (record { either = Some whole; both = None }) (begun ∷ waiting)
          → building.Stands new.builder (Some whole) begun waiting

      leaves_at : (depth : ℕ) (waiting : List Begun) → depth + length waiting ≡ deepest → Others waiting
          → (whole : Marker)
          → building.Stands old.builder None (begun_formulas (record { either = Some whole; both = None }))
          (map begun_formulas waiting) → waiting_warned waiting ++ whole.warned ≡ warned
          → waiting_on depth waiting (whole, behind end) ≡ reading → (later : Cursor) → IsBehind start later
          → closed (whole, behind end) ≡ Ok (whole, behind later) → ClosedOn
          → IsBehindPart deepest start reading warned new later
      leaves_at depth [] deep others whole b w goes later s e shuts = absurd others
      leaves_at depth (begun ∷ waiting) deep (here, others) whole b w goes later s e shuts = record {
        at = record { depth = suc depth; begun = begun; waiting = waiting };
        piece = whole;
        stands = record {
          deep = omega (arith, deep);
          built = shuts whole.formula (begun_formulas begun) (map begun_formulas waiting) b;
          others = others;
        };
        warned_is = w;
        stays = s;
        goes_on = sym (closes depth begun waiting whole (behind end) (behind later) e) ∙ goes;
      }

      -- its bracket closes
      pub leaves : (h : Over) (later : Cursor) → IsBehind end later
          → closed (h.whole, behind end) ≡ Ok (h.whole, behind later) → ClosedOn
          → IsBehindPart deepest start reading warned new later
      leaves h later k e shuts =
          leaves_at h.depth h.waiting h.stands.deep (others_so h.waiting h.stands.others) h.whole h.stands.built
          h.warned_is h.goes_on later (behind_on start end later h.stays k) e shuts

      stays_open_at : (depth : ℕ) (waiting : List Begun) → Others waiting → (said : Marker)
          → waiting_on depth waiting (said, behind end) ≡ reading → (kind : RefusalKind)
          → Tells kind (closed (said, behind end)) → Tells kind reading
      stays_open_at depth [] others said goes kind tells = absurd others
      stays_open_at depth (begun ∷ waiting) others said goes kind tells =
          subst (Tells kind) goes
          (tells_on kind (closed (said, behind end))
          (all_on (record { depth = suc depth; begun = begun; waiting = waiting })) tells)

      -- its bracket doesn't close
      pub stays_open : (h : Over) (kind : RefusalKind) → Tells kind (closed (h.whole, behind end)) → Tells kind reading
      stays_open h kind tells =
          stays_open_at h.depth h.waiting (others_so h.waiting h.stands.others) h.whole h.goes_on kind tells

-- ---- the whole reading

-- the reading has come to a step, and its warnings were taken
pub record IsReading {R : Type 0} (takes : R → Warning → R → Type 0) (old now : R)
    (deepest : ℕ) (start : Cursor) (reading : Reading Marker) (levels : Levels) (step : Step) : Type 0 where
  pub warned : List MarkerWarningKind
  pub taken : IsWarned takes old now warned
  pub step_is : IsStep deepest start reading warned levels step

module _ {R : Type 0} (takes : R → Warning → R → Type 0) (old : R) (deepest : ℕ) (start : Cursor)
    (reading : Reading Marker) where
  abbrev Is : R → Levels → Step → Type 0
  Is now levels step = IsReading takes old now deepest start reading levels step

  -- a piece was read
  pub part_on : (now later : R) (levels after : Levels) (step : Step)
      → Is now levels step → (place : Cursor) → step ≡ steps.Part place → (next : Step)
      → ((from : Cursor) (it : Reading Marker) (warned : List MarkerWarningKind)
      → IsAtPart deepest from it warned levels place
      → WarnsAndStepsTo takes now later deepest from it warned after (Ok next))
      → Is later after next
  part_on now later levels after step h place e next claims =
      let so = subst (Is now levels) e h in
      let it = claims start reading so.warned so.step_is in
      record {
        warned = so.warned ++ it.0;
        taken = warned_both takes old now later so.warned it.0 so.taken it.1;
        step_is = it.2;
      }

  -- all is read
  pub at_end : (now : R) (levels : Levels) (step : Step) → Is now levels step → (place : Cursor)
      → step ≡ steps.End place → (parts : List (Part ExpressionRecord))
      → ((whole : Said) → building.Stands levels.builder None (building.whole_of whole) [] → formula_of parts ≡ whole)
      → (marker : Marker) × (reading ≡ Ok (marker, behind place)) × (formula_of parts ≡ marker.formula)
      × IsWarned takes old now marker.warned
  at_end now levels step h place e parts finished =
      let so = subst (Is now levels) e h in
      let end = so.step_is in (
        end.whole,
        end.is_read,
        finished end.whole.formula end.built,
        subst (IsWarned takes old now) (sym end.warned_is) so.taken,
      )
