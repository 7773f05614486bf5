-- The names of many lists, sorted and each kept once.
use Rattle.std.proofs.Common.{◌≡◌, ◌∙◌, ℕ, Bool, true, false, cond, ◌||◌, List, [], ◌∷◌, refl}
use Rattle.std.proofs.Common.{sym, ap, Bor}
use Rattle.std.specs.List.{list_any, flat_map, dedup, dedup_from}
use Rattle.std.specs.List.Sorted.{IsPermutation}
use Rattle.std.specs.Str.{bytes_eq}
use Rattle.std.proofs.lemmas.List.Folds.{list_any-append}
use Rattle.std.proofs.lemmas.List.Sorted.{list_any-IsPermutation}
use Rattle.reqtable_requirements.specs.declared.requirements.Line.{Line}
use Rattle.reqtable_answer.proofs.Tests.{any_mapped, same_bytes}
use Rattle.reqtable_answer.proofs.United.{same_text, texts}
use Rattle.reqtable_table.specs.Given.{name_in, names_of, is_under}

abbrev has : List ℕ → Bor (List ℕ) → Bool
has q name = bytes_eq q name.now

one_of_two : (a b : Bool) → (a || b) ≡ (a || (a || b))
one_of_two true b = refl
one_of_two false b = refl

any_by : (q : List ℕ) (k e : Bor (List ℕ)) (es : List (Bor (List ℕ))) (same : Bool) →
    bytes_eq e.now k.now ≡ same →
    list_any (has q) (dedup_from same_text k es) ≡ list_any (has q) (k ∷ es) →
    list_any (has q) (dedup_from same_text e es) ≡ list_any (has q) (e ∷ es) →
    list_any (has q) (cond same (dedup_from same_text k es) (k ∷ dedup_from same_text e es))
    ≡ list_any (has q) (k ∷ e ∷ es)
any_by q k e es true h behind_k behind_e =
    behind_k ∙ one_of_two (bytes_eq q k.now) (list_any (has q) es)
    ∙ ap (λ t. bytes_eq q k.now || (bytes_eq q t || list_any (has q) es)) (sym (same_bytes e.now k.now h))
any_by q k e es false h behind_k behind_e = ap (λ b. bytes_eq q k.now || b) behind_e

any_from : (q : List ℕ) (k : Bor (List ℕ)) (es : List (Bor (List ℕ))) →
    list_any (has q) (dedup_from same_text k es) ≡ list_any (has q) (k ∷ es)
any_from q k [] = refl
any_from q k (e ∷ es) = any_by q k e es (same_text e k) refl (any_from q k es) (any_from q e es)

kept_there : (q : List ℕ) (es : List (Bor (List ℕ))) →
    list_any (has q) (dedup same_text es) ≡ list_any (has q) es
kept_there q [] = refl
kept_there q (e ∷ es) = any_from q e es

any_flat : (q : List ℕ) (lists : List (Bor (List Line))) →
    list_any (bytes_eq q) (flat_map (λ list. names_of list.now) lists)
    ≡ list_any (λ list. list_any (is_under q) list.now) lists
any_flat q [] = refl
any_flat q (list ∷ lists) =
    list_any-append (bytes_eq q) (names_of list.now) (flat_map (λ list. names_of list.now) lists)
    ∙ ap (λ b. b || list_any (bytes_eq q) (flat_map (λ list. names_of list.now) lists))
    (any_mapped (bytes_eq q) name_in list.now)
    ∙ ap (λ b. list_any (is_under q) list.now || b) (any_flat q lists)

-- each name is still there
pub names_there : (q : List ℕ) (lent sorted : List (Bor (List ℕ))) (lists : List (Bor (List Line))) →
    texts lent ≡ flat_map (λ list. names_of list.now) lists → IsPermutation lent sorted →
    list_any (bytes_eq q) (texts (dedup same_text sorted))
    ≡ list_any (λ list. list_any (is_under q) list.now) lists
names_there q lent sorted lists are moved =
    any_mapped (bytes_eq q) (λ name. name.now) (dedup same_text sorted) ∙ kept_there q sorted
    ∙ sym (list_any-IsPermutation (has q) lent sorted moved)
    ∙ sym (any_mapped (bytes_eq q) (λ name. name.now) lent)
    ∙ ap (list_any (bytes_eq q)) are ∙ any_flat q lists
