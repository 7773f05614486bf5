-- The edges of a node, one after another.
use Rattle.std.proofs.Common.{◌≡◌, ℕ, ◌+◌, ◌<◌, ◌≤◌, suc, Bool, true, false, cond, List, [], ◌∷◌, ◌++◌}
use Rattle.std.proofs.Common.{length, get_or, drop, sym, ap, subst, ◌∙◌, append_assoc, append-nil, add-one}
use Rattle.std.proofs.Common.{drop-cons, drop_of_length-le, Result, Ok, Err}
use Rattle.std.specs.Prelude.{OnOk}
use Rattle.std.specs.List.{FoldsTo}
use Rattle.version_ranges.specs.declared.boundary.Boundary.{Boundary}
use Rattle.version_ranges.specs.Point.{Point}
use Rattle.pep508_marker.specs.declared.warnings.MarkerWarningKind.{MarkerWarningKind}
use Rattle.pep508_diagram.specs.declared.branch.Branch.{Branch}
use Rattle.pep508_diagram.specs.Text.{text_cmp}
use Rattle.pep508_diagram.specs.Question.{lies_below}
use Rattle.pep508_evaluation.specs.Warned.{edge}
use Rattle.pep508_evaluation.specs.Edges.{text_edges}
use Rattle.pep508_evaluation.proofs.Warning.{folds_append}

pub on_ok : {A E : Type 0} {P Q : Type 0} (r : Result A E) → (P → Q) → OnOk r P → OnOk r Q
on_ok (Ok x) so h = so h
on_ok (Err e) so h = tt

module _ {C P : Type 0} (R : P → MarkerWarningKind → P → Type 0) (old mid new : P)
    (all kinds : List MarkerWarningKind) (lower : List (Boundary (List ℕ))) (later : List (Branch (List ℕ) C))
    (i : ℕ) (p : Point (List ℕ)) (before : FoldsTo R old kinds mid)
    (left : all ≡ kinds ++ text_edges lower (drop i later) p) where
  -- behind all boundaries
  pub edges_end : length later ≤ i → FoldsTo R mid (edge lower []) new → FoldsTo R old all new
  edges_end none last =
      subst (λ ks. FoldsTo R old ks new)
      (sym (left ∙ ap (λ l. kinds ++ text_edges lower l p) (drop_of_length-le later none)))
      (folds_append R old kinds mid (edge lower []) new before last)

  module _ (branch : Branch (List ℕ) C) (inside : i < length later) (is : branch ≡ get_or later i branch)
      (next : FoldsTo R mid (edge lower (branch.boundary ∷ [])) new) where
    opened : drop i later ≡ branch ∷ drop (i + 1) later
    opened = rw add-one (drop-cons later i branch inside ∙ ap (λ b. b ∷ drop (suc i) later) (sym is))

    here : (below : Bool) → lies_below text_cmp p branch.boundary ≡ below →
        all ≡ kinds ++ (edge lower (branch.boundary ∷ [])
        ++ cond below [] (text_edges (branch.boundary ∷ []) (drop (i + 1) later) p))
    here below e =
        left ∙ ap (λ l. kinds ++ text_edges lower l p) opened
        ∙ ap (λ b. kinds ++ (edge lower (branch.boundary ∷ [])
        ++ cond b [] (text_edges (branch.boundary ∷ []) (drop (i + 1) later) p))) e

    both : FoldsTo R old (kinds ++ edge lower (branch.boundary ∷ [])) new
    both = folds_append R old kinds mid (edge lower (branch.boundary ∷ [])) new before next

    -- the edge has the text
    pub edges_stop : lies_below text_cmp p branch.boundary ≡ true → FoldsTo R old all new
    edges_stop e =
        subst (λ ks. FoldsTo R old ks new)
        (sym (here true e ∙ ap (λ es. kinds ++ es) (append-nil (edge lower (branch.boundary ∷ []))))) both

    -- the text lies behind the edge
    pub edges_go_on : lies_below text_cmp p branch.boundary ≡ false → (ks : List MarkerWarningKind)
        × FoldsTo R old ks new × (all ≡ ks ++ text_edges (branch.boundary ∷ []) (drop (i + 1) later) p)
    edges_go_on e = (
      kinds ++ edge lower (branch.boundary ∷ []),
      both,
      here false e
          ∙ sym (append_assoc kinds (edge lower (branch.boundary ∷ []))
          (text_edges (branch.boundary ∷ []) (drop (i + 1) later) p)),
    )

-- what each step puts behind a list is put behind it one after another
pub collected : {P : Type 0} (R : P → MarkerWarningKind → P → Type 0) (kinds_of : P → List MarkerWarningKind)
    (puts : (p : P) (kind : MarkerWarningKind) (q : P) → R p kind q → kinds_of q ≡ kinds_of p ++ kind ∷ [])
    (old : P) (kinds : List MarkerWarningKind) (new : P) → FoldsTo R old kinds new →
    kinds_of new ≡ kinds_of old ++ kinds
collected R kinds_of puts old [] new e = ap kinds_of (sym e) ∙ sym (append-nil (kinds_of old))
collected R kinds_of puts old (kind ∷ kinds) new taken =
    collected R kinds_of puts taken.0 kinds new taken.2
    ∙ ap (λ ks. ks ++ kinds) (puts old kind taken.0 taken.1)
    ∙ append_assoc (kinds_of old) (kind ∷ []) kinds
