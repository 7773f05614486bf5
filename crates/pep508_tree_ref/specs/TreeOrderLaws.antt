-- The order of diagrams is total: it is that of lists of tokens.
use Rattle.std.proofs.Common.{◌≡◌, Bool, false, not, List, [], ◌∷◌, ◌++◌, refl, sym, ap, ap₂, subst, ◌∙◌}
use Rattle.std.proofs.Common.{append_assoc, append-nil, Ordering, Less, Equal, Greater}
use Rattle.std.specs.Ordering.{bool_cmp, ordering_then, then_cmp, on}
use Rattle.std.specs.Cmp.{IsTotalOrder, then_total, on_total, bool_cmp_total}
use Rattle.std.specs.Cmp.Lexicographic.{slice_cmp, lists_total}
use Rattle.pep508_diagram.specs.Diagram.{Diagram, Leaf, Test}
use Rattle.pep508_diagram.specs.Question.{Question, question_cmp}
use Rattle.pep440_version.proofs.Stripped.{then_equal_last}
use Rattle.pep508_diagram.proofs.Questions.{questions_total}
use Rattle.pep508_tree_ref.specs.TreeOrder.{is_last, diagram_cmp}
use Rattle.pep508_tree_ref.specs.TreeIn.{diagram_in, tree_in_cmp}

-- ---- tokens

record Token : Type 0 where
  question : List Question
  flag : Bool

token_cmp : Token → Token → Ordering
token_cmp = then_cmp (on (λ t. t.question) (slice_cmp question_cmp)) (on (λ t. t.flag) bool_cmp)

tokens_total : IsTotalOrder (slice_cmp token_cmp)
unfolding token_cmp
tokens_total =
    lists_total
    (then_total (on_total (λ (t : Token). t.question) (lists_total questions_total))
    (on_total (λ (t : Token). t.flag) bool_cmp_total))

tokens : Diagram Question → List Token
tokens (Leaf b) = record { question = []; flag = not b } ∷ []
tokens (Test q low high) =
    record { question = q ∷ []; flag = false }
    ∷ (tokens low ++ record { question = []; flag = is_last q high } ∷ tokens high)

pub then_then : (o p q : Ordering) → ordering_then (ordering_then o p) q ≡ ordering_then o (ordering_then p q)
then_then Less p q = refl
then_then Equal p q = refl
then_then Greater p q = refl

-- what follows the tokens of diagrams is looked at where the diagrams are equal
by_tokens : (d e : Diagram Question) (xs ys : List Token) →
    slice_cmp token_cmp (tokens d ++ xs) (tokens e ++ ys)
    ≡ ordering_then (diagram_cmp d e) (slice_cmp token_cmp xs ys)
unfolding tokens token_cmp
by_tokens (Leaf b) (Leaf c) xs ys = refl
by_tokens (Leaf b) (Test r m k) xs ys = refl
by_tokens (Test q l h) (Leaf c) xs ys = refl
by_tokens (Test q l h) (Test r m k) xs ys =
    let last = bool_cmp (is_last q h) (is_last r k) in
    let end : Token = record { question = []; flag = is_last q h } in
    let other_end : Token = record { question = []; flag = is_last r k } in
    ap₂ (λ us vs. ordering_then (ordering_then (ordering_then (question_cmp q r) Equal) Equal)
    (slice_cmp token_cmp us vs))
    (append_assoc (tokens l) (end ∷ tokens h) xs) (append_assoc (tokens m) (other_end ∷ tokens k) ys)
    ∙ ap₂ ordering_then
    (then_equal_last (ordering_then (question_cmp q r) Equal) ∙ then_equal_last (question_cmp q r))
    (by_tokens l m (end ∷ (tokens h ++ xs)) (other_end ∷ (tokens k ++ ys))
    ∙ ap (λ o. ordering_then (diagram_cmp l m) (ordering_then last o)) (by_tokens h k xs ys))
    ∙ sym (then_then (question_cmp q r) _ (slice_cmp token_cmp xs ys)
    ∙ ap (ordering_then (question_cmp q r))
    (then_then (diagram_cmp l m) _ (slice_cmp token_cmp xs ys)
    ∙ ap (ordering_then (diagram_cmp l m)) (then_then last (diagram_cmp h k) (slice_cmp token_cmp xs ys))))

token_order : (d e : Diagram Question) → slice_cmp token_cmp (tokens d) (tokens e) ≡ diagram_cmp d e
token_order d e =
    ap₂ (slice_cmp token_cmp) (sym (append-nil (tokens d))) (sym (append-nil (tokens e)))
    ∙ by_tokens d e [] [] ∙ then_equal_last (diagram_cmp d e)

pub diagrams_total : IsTotalOrder diagram_cmp
diagrams_total = subst IsTotalOrder (λ i d e. token_order d e i) (on_total tokens tokens_total)

pub trees_in_total : IsTotalOrder tree_in_cmp
trees_in_total = on_total diagram_in diagrams_total
