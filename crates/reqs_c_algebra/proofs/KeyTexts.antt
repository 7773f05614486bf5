-- Keys of markers.
use Rattle.std.proofs.Common.{◌≡◌, ◌↔◌, ◌∙◌, ℕ, List, sym}
use Rattle.pep508_diagram.specs.Question.{Valuation}
use Rattle.pep508_tree.specs.Tree.{Tree}
use Rattle.pep508_tree.specs.Meaning.{NodeRecord, holds}
use Rattle.pep508_marker_key.specs.Key.{OneKey}
use Rattle.reqs_c_markers.specs.Markers.{marker_holds, IsMarkerTree, AreFew}
use Rattle.reqs_c_algebra.specs.Keys.{IsKeyOf, GivesKey}
use Rattle.reqs_c_algebra.proofs.Saying.{says_so}

pub key_given : (most : ℕ) (nodes : List NodeRecord) (bytes : List ℕ) (tree : Tree) (key : List ℕ)
    → AreFew most nodes → IsMarkerTree nodes bytes tree → IsKeyOf (holds nodes tree) key → GivesKey most bytes key
key_given most nodes bytes tree key few is h = says_so most nodes bytes tree IsKeyOf key few is h

pub one_meaning : OneKey → (nodes limit : ℕ) (left right key other : List ℕ) (given : GivesKey nodes left key)
    (also : GivesKey limit right other) → (key ≡ other) ↔ ((v : Valuation) → marker_holds given.marker v ≡ marker_holds also.marker v)
one_meaning law nodes limit left right key other given also =
    let a = given.says in
    let b = also.says in
    let one = law a.diagram b.diagram a.canonical b.canonical in (
      λ same v. sym (a.means v) ∙ one.0 (sym a.is_key ∙ same ∙ b.is_key) v ∙ b.means v,
      λ same. a.is_key ∙ one.1 (λ v. a.means v ∙ same v ∙ sym (b.means v)) ∙ sym b.is_key,
    )
