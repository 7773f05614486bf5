-- Warnings that a reporter has taken.
use Rattle.std.proofs.Common.{◌≡◌, ℕ, Bool, true, false, List, [], ◌∷◌, ◌++◌, map, Some, None, Ok, Err, refl}
use Rattle.std.proofs.Common.{ap, sym, subst, ◌∙◌}
use Rattle.std.specs.Prelude.{Option, OnOk, IfOk, Result, option_map}
use Rattle.std.specs.Result.{result_ok}
use Rattle.std.specs.Bool.{OnFalse}
use Rattle.std.specs.List.{FoldsTo}
use Rattle.pep508_marker.specs.declared.warnings.MarkerWarningKind.{MarkerWarningKind}
use Rattle.pep508_marker.specs.Warnings.{Warning}
use Rattle.pep508_marker.specs.declared.expression.MarkerExpression.{MarkerExpression}
use Rattle.pep508_marker.specs.declared.warnings.MarkerWarningKind.TheVariants.{ExtraInvalidComparison}
use Rattle.pep508_comparison_parser.specs.Compared.{Compared, warned_of_name, warned_before}
use Rattle.pep508_comparison_parser.specs.Outcome.{IsWarned, IsCompared}

pub if_ok_so : {X E : Type 0} (P Q : X → Type 0) (result : Result X E) → ((x : X) → P x → Q x) → IfOk result P
    → IfOk result Q
if_ok_so P Q (Ok x) h k = h x k
if_ok_so P Q (Err e) h k = tt

pub err_none : {A E V : Type 0} (view : A → V) (found : Result A E) (error : E) (o : Option V)
    → option_map view (result_ok found) ≡ o → found ≡ Err error → o ≡ None
err_none view (Ok x) error o h e = absurd (cc)
err_none view (Err fault) error o h e = sym h

module _ {R : Type 0} (takes : R → Warning → R → Type 0) where
  pub warned_none : (old : R) → IsWarned takes old old []
  warned_none old = record { warnings = []; are_kinds = refl; taken = refl }

  pub warned_one : (old new : R) (warning : Warning) → takes old warning new
      → IsWarned takes old new (warning.kind ∷ [])
  warned_one old new warning h = record { warnings = warning ∷ []; are_kinds = refl; taken = (new, h, refl) }

  folded : (old : R) (first : List Warning) (middle : R) (later : List Warning) (new : R)
      → FoldsTo takes old first middle → FoldsTo takes middle later new → FoldsTo takes old (first ++ later) new
  folded old [] middle later new h k = subst (λ r. FoldsTo takes r later new) (sym h) k
  folded old (w ∷ ws) middle later new h k = (h.0, h.1, folded h.0 ws middle later new h.2 k)

  mapped : (first later : List Warning)
      → map (λ (w : Warning). w.kind) (first ++ later)
      ≡ map (λ (w : Warning). w.kind) first ++ map (λ (w : Warning). w.kind) later
  mapped [] later = refl
  mapped (w ∷ ws) later = ap (λ ks. w.kind ∷ ks) (mapped ws later)

  -- first these, then those
  pub warned_both : (old middle new : R) (first later : List MarkerWarningKind) → IsWarned takes old middle first
      → IsWarned takes middle new later → IsWarned takes old new (first ++ later)
  warned_both old middle new first later h k = record {
    warnings = h.warnings ++ k.warnings;
    are_kinds = mapped h.warnings k.warnings ∙ ap (λ ks. ks ++ map (λ (w : Warning). w.kind) k.warnings) h.are_kinds
        ∙ ap (λ ks. first ++ ks) k.are_kinds;
    taken = folded old h.warnings middle k.warnings new h.taken k.taken;
  }

  -- no warning is wanted, so one that is left out is taken
  pub warned_unwanted : (old : R) (kind : MarkerWarningKind) (wants : Bool) → wants ≡ false
      → OnFalse wants ((warning : Warning) → takes old warning old) → IsWarned takes old old (kind ∷ [])
  warned_unwanted old kind true e h = absurd (cc)
  warned_unwanted old kind false e h =
      warned_one old old (record { kind = kind; text = [] }) (h (record { kind = kind; text = [] }))

  pub warned_if : {X E : Type 0} (old new : R) (kind made : MarkerWarningKind) (text : List ℕ) (result : Result X E)
      → made ≡ kind → OnOk result (takes old (record { kind = made; text = text }) new)
      → OnOk result (IsWarned takes old new (kind ∷ []))
  warned_if old new kind made text (Ok x) e h =
      subst (λ k. IsWarned takes old new (k ∷ [])) e (warned_one old new (record { kind = made; text = text }) h)
  warned_if old new kind made text (Err error) e h = tt

  -- behind the warning of a text that is no name, or behind none
  pub named_then : (name : Option (List ℕ)) (compared : Compared) (old middle new : R) (said : Option MarkerExpression)
      → IsWarned takes old middle (warned_of_name name (record { said = None; warned = [] })).warned
      → IsCompared takes middle new said compared → IsCompared takes old new said (warned_of_name name compared)
  named_then (Some text) compared old middle new said h k = record {
    said_is = k.said_is;
    warned = warned_both old middle new [] compared.warned h k.warned;
  }
  named_then None compared old middle new said h k = record {
    said_is = k.said_is;
    warned = warned_both old middle new (ExtraInvalidComparison ∷ []) compared.warned h k.warned;
  }

  -- behind the warning of a list that is none
  pub warned_then : (kind : MarkerWarningKind) (compared : Compared) (old middle new : R)
      (said : Option MarkerExpression) → IsWarned takes old middle (kind ∷ [])
      → IsCompared takes middle new said compared → IsCompared takes old new said (warned_before kind compared)
  warned_then kind compared old middle new said h k = record {
    said_is = k.said_is;
    warned = warned_both old middle new (kind ∷ []) compared.warned h k.warned;
  }
