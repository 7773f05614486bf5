-- A normal path is its own normal path.
use Rattle.std.proofs.Common.{◌≡◌, ℕ, zero, suc, ◌-◌, ◌==◌, Bool, true, false, if◌then◌else◌, eqb, List, []}
use Rattle.std.proofs.Common.{◌∷◌, ◌++◌, length, take, Option, Some, None, option_map, inl, inr, refl, ap}
use Rattle.std.proofs.Common.{sym, subst, ◌∙◌, append_assoc}
use Rattle.std.specs.Prelude.{bytes_eq, codes, fold, All}
use Rattle.std.specs.List.{slice_split, onto_first, join_with_byte}
use Rattle.std.proofs.lemmas.List.{append-nil}
use Rattle.std.proofs.lemmas.List.Elements.{All-nil, All-cons, All-head}
use Rattle.std.proofs.lemmas.List.Folds.{fold_stays}
use Rattle.std.proofs.lemmas.List.Splits.{slice_split-cons_no, slice_split-cons_yes, slice_split_none}
use Rattle.std.proofs.lemmas.List.Splits.{slice_split_at}
use Rattle.pep508_url.specs.Cuts.{is_absolute}
use Rattle.pep508_url.specs.Paths.{changes_nothing, without_last, behind_parts, normal_parts, root_of}
use Rattle.pep508_url.specs.Paths.{normal_path}
use Rattle.pep508_url.proofs.Expansion.{two, some_same}
use Rattle.pep508_url.proofs.PathParts.{part_nothing, part_parent, part_kept}

abbrev NoSlash : List ℕ → Type 0
NoSlash part = All (λ b. eqb b 47 ≡ false) part

record IsPlain (part : List ℕ) : Type 0 where
  something : changes_nothing part ≡ false
  no_parent : bytes_eq part (codes "..") ≡ false
  no_slash : NoSlash part

-- each part is so
abbrev Each : (List ℕ → Type 0) → List (List ℕ) → Type 0
Each P [] = Unit {0}
Each P (part ∷ parts) = P part × Each P parts

each_push : (P : List ℕ → Type 0) (parts : List (List ℕ)) (part : List ℕ) → Each P parts → P part → Each P (parts ++ part ∷ [])
each_push P [] part all one = (one, tt)
each_push P (first ∷ parts) part all one = (all.0, each_push P parts part all.1 one)

each_take : (P : List ℕ → Type 0) (n : ℕ) (parts : List (List ℕ)) → Each P parts → Each P (take n parts)
each_take P zero [] all = tt
each_take P zero (part ∷ parts) all = tt
each_take P (suc n) [] all = tt
each_take P (suc n) (part ∷ parts) all = (all.0, each_take P n parts all.1)

-- ---- the parts of a text hold no slash

no_slash_none : NoSlash []
no_slash_none = All-nil (λ b. eqb b 47 ≡ false)

no_slash_more : (c : ℕ) (cs : List ℕ) → eqb c 47 ≡ false → NoSlash cs → NoSlash (c ∷ cs)
no_slash_more c cs h rest = All-cons (λ b. eqb b 47 ≡ false) c cs h rest

each_onto : (c : ℕ) (parts : List (List ℕ)) → eqb c 47 ≡ false → Each NoSlash parts → Each NoSlash (onto_first c parts)
each_onto c [] h all = (no_slash_more c [] h no_slash_none, tt)
each_onto c (part ∷ parts) h all = (no_slash_more c part h all.0, all.1)

each_split : (bs : List ℕ) → Each NoSlash (slice_split (λ b. eqb b 47) bs)
each_split [] = (no_slash_none, tt)
each_split (c ∷ cs) = elim (two (eqb c 47)) [
  | inl slash ↦ subst (Each NoSlash) (sym (slice_split-cons_yes (λ b. eqb b 47) c cs slash)) (no_slash_none, each_split cs)
  | inr other ↦ subst (Each NoSlash) (sym (slice_split-cons_no (λ b. eqb b 47) c cs other)) (each_onto c (slice_split (λ b. eqb b 47) cs) other (each_split cs))
]

-- ---- what is kept is plain

none_stays : (parts : List (List ℕ)) → fold behind_parts None parts ≡ None
none_stays parts = fold_stays behind_parts None (λ x. refl) parts

last_taken : (kept : List (List ℕ)) → Each IsPlain kept → (rest parts : List (List ℕ))
    → ((less : List (List ℕ)) → Each IsPlain less → fold behind_parts (Some less) rest ≡ Some parts → Each IsPlain parts)
    → fold behind_parts (without_last kept) rest ≡ Some parts → Each IsPlain parts
last_taken kept all rest parts goes h = elim (two (length kept == 0)) [
  | inl empty ↦
      absurd (cc (sym (none_stays rest) ∙ sym (ap (λ t. fold behind_parts (if t then None else Some (take (length kept - 1) kept)) rest) empty) ∙ h))
  | inr more ↦
      goes (take (length kept - 1) kept) (each_take IsPlain (length kept - 1) kept all)
      (sym (ap (λ t. fold behind_parts (if t then None else Some (take (length kept - 1) kept)) rest) more) ∙ h)
]

plain_kept : (rest kept parts : List (List ℕ)) → Each NoSlash rest → Each IsPlain kept
    → fold behind_parts (Some kept) rest ≡ Some parts → Each IsPlain parts
plain_kept [] kept parts none all h = subst (Each IsPlain) (some_same kept parts h) all
plain_kept (part ∷ rest) kept parts none all h = elim (two (changes_nothing part)) [
  | inl nothing ↦
      plain_kept rest kept parts none.1 all (sym (ap (λ x. fold behind_parts x rest) (part_nothing kept part nothing)) ∙ h)
  | inr some ↦ elim (two (bytes_eq part (codes ".."))) [
    | inl parent ↦
        last_taken kept all rest parts (λ less plain. plain_kept rest less parts none.1 plain)
        (sym (ap (λ x. fold behind_parts x rest) (part_parent kept part some parent)) ∙ h)
    | inr other ↦
        plain_kept rest (kept ++ part ∷ []) parts none.1
        (each_push IsPlain kept part all (record { something = some; no_parent = other; no_slash = none.0 }))
        (sym (ap (λ x. fold behind_parts x rest) (part_kept kept part some other)) ∙ h)
  ]
]

-- ---- plain parts are kept

kept_again : (parts kept : List (List ℕ)) → Each IsPlain parts → fold behind_parts (Some kept) parts ≡ Some (kept ++ parts)
kept_again [] kept all = ap Some (sym (append-nil kept))
kept_again (part ∷ parts) kept all =
    ap (λ x. fold behind_parts x parts) (part_kept kept part all.0.something all.0.no_parent)
    ∙ kept_again parts (kept ++ part ∷ []) all.1
    ∙ ap Some (append_assoc kept (part ∷ []) parts)

split_joined : (first : List ℕ) (others : List (List ℕ)) → Each IsPlain (first ∷ others)
    → slice_split (λ b. eqb b 47) (join_with_byte 47 (first ∷ others)) ≡ first ∷ others
split_joined first [] all = slice_split_none (λ b. eqb b 47) first all.0.no_slash
split_joined first (next ∷ others) all =
    slice_split_at (λ b. eqb b 47) first 47 (join_with_byte 47 (next ∷ others)) all.0.no_slash refl
    ∙ ap (λ parts. first ∷ parts) (split_joined next others all.1)

joined_again : (parts : List (List ℕ)) → Each IsPlain parts → fold behind_parts (Some []) (slice_split (λ b. eqb b 47) (join_with_byte 47 parts)) ≡ Some parts
joined_again [] all = refl
joined_again (first ∷ others) all = ap (fold behind_parts (Some [])) (split_joined first others all) ∙ kept_again (first ∷ others) [] all

-- ---- where a normal path begins

begins_other : (first : List ℕ) (rest : List ℕ) → IsPlain first → is_absolute (first ++ rest) ≡ false
begins_other [] rest plain = absurd (cc plain.something)
begins_other (c ∷ cs) rest plain = All-head (λ b. eqb b 47 ≡ false) c cs plain.no_slash

relative_again : (parts : List (List ℕ)) → Each IsPlain parts → is_absolute (join_with_byte 47 parts) ≡ false
relative_again [] all = refl
relative_again (first ∷ []) all = ap is_absolute (sym (append-nil first)) ∙ begins_other first [] all.0
relative_again (first ∷ next ∷ others) all = begins_other first (47 ∷ join_with_byte 47 (next ∷ others)) all.0

abbrev path_from : Bool → List (List ℕ) → List ℕ
path_from absolute parts = (if absolute then 47 ∷ [] else []) ++ join_with_byte 47 parts

again_by : (absolute : Bool) (parts : List (List ℕ)) → Each IsPlain parts → normal_path (path_from absolute parts) ≡ Some (path_from absolute parts)
unfolding normal_path normal_parts
again_by true parts all =
    ap (option_map (λ ps. path_from true ps)) (joined_again parts all)
again_by false parts all =
    ap (λ t. option_map (λ ps. path_from t ps) (fold behind_parts (Some []) (slice_split (λ b. eqb b 47) (join_with_byte 47 parts)))) (relative_again parts all)
    ∙ ap (option_map (λ ps. path_from false ps)) (joined_again parts all)

again_from : (path normal : List ℕ) (found : Option (List (List ℕ)))
    → ((parts : List (List ℕ)) → found ≡ Some parts → Each IsPlain parts)
    → option_map (λ parts. root_of path ++ join_with_byte 47 parts) found ≡ Some normal → normal_path normal ≡ Some normal
again_from path normal None plain h = absurd (cc)
again_from path normal (Some parts) plain h =
    let is = some_same (path_from (is_absolute path) parts) normal h in
    ap normal_path (sym is) ∙ again_by (is_absolute path) parts (plain parts refl) ∙ ap Some is

-- a normal path is its own normal path
pub normal_again : (path normal : List ℕ) → normal_path path ≡ Some normal → normal_path normal ≡ Some normal
unfolding normal_path normal_parts
normal_again path normal h =
    again_from path normal (fold behind_parts (Some []) (slice_split (λ b. eqb b 47) path))
    (λ parts. plain_kept (slice_split (λ b. eqb b 47) path) [] parts (each_split path) tt) h
