-- Lines put by their packages, one after another.
use Rattle.std.proofs.Common.{◌≡◌, ◌∙◌, inl, inr, ℕ, ◌+◌, Bool, true, false, ◌||◌, cond, List, [], ◌∷◌, ◌++◌}
use Rattle.std.proofs.Common.{map, filter, length, refl, sym, ap, subst, append_assoc, append-nil, arith}
use Rattle.std.proofs.lemmas.List.{map-append, length-append}
use Rattle.std.proofs.lemmas.List.Concat.{flat_map-append}
use Rattle.std.proofs.lemmas.List.Elements.{filter-append}
use Rattle.std.proofs.lemmas.List.Folds.{list_any-append}
use Rattle.std.proofs.lemmas.Cmp.{nat_list_eq_equiv}
use Rattle.std.specs.List.{list_any, dedup}
use Rattle.std.specs.Str.{bytes_eq}
use Rattle.reqtable_groups.specs.declared.given.Given.{Given}
use Rattle.reqtable_groups.specs.declared.given.NamedGiven.{NamedGiven}
use Rattle.reqtable_groups.specs.declared.lines_by_package.Group.{Group}
use Rattle.reqtable_groups.specs.Given.{is_beside, group_names, lines_under, lines_in, AreSoFar, IsNewGroup}
use Rattle.reqtable_groups.specs.Given.{IsInLast, IsOfOther, IsAdded}
use Rattle.reqtable_groups.proofs.Names.{same_again, other_again, same_last, some_last, not_none}

abbrev pub kept_for : List ℕ → Group → List Given
kept_for q g = cond (bytes_eq q g.name) g.lines.items []

abbrev pub name_of : NamedGiven → List ℕ
name_of line = line.name

abbrev pub given_in : NamedGiven → Given
given_in line = line.given

pub none_so_far : AreSoFar [] []
none_so_far = record { names = refl; named = λ q. refl; each = λ q. refl; all = refl }

or_twice : (a b : Bool) → (a || b) ≡ ((a || b) || b)
or_twice true b = refl
or_twice false true = refl
or_twice false false = refl

or_nothing : (b : Bool) → (b || false) ≡ b
or_nothing true = refl
or_nothing false = refl

added : (a b : ℕ) → a + (b + 1) ≡ (a + b) + 1
added a b = omega arith

other_names : (name : List ℕ) (groups : List Group) → IsOfOther name groups → (front : List (List ℕ)) (last : List ℕ) →
    group_names groups ≡ front ++ last ∷ [] → bytes_eq name last ≡ false
other_names name [] other front last e = absurd (not_none front last e)
other_names name (g ∷ groups) other front last e =
    let found = some_last g groups in
    let named : group_names found.0 ++ found.1.name ∷ [] ≡ front ++ last ∷ [] =
    sym (ap group_names found.2 ∙ map-append (λ (x : Group). x.name) found.0 (found.1 ∷ [])) ∙ e in
    subst (λ n. bytes_eq name n ≡ false) (same_last (group_names found.0) front found.1.name last named)
    (other found.0 found.1 found.2)

one_by : (b : Bool) (line : NamedGiven) → map given_in (cond b (line ∷ []) []) ≡ cond b (line.given ∷ []) []
one_by true line = refl
one_by false line = refl

module _ (lines : List NamedGiven) (line : NamedGiven) (old new : List Group) where
  abbrev name : List ℕ
  name = line.name

  abbrev grown : List NamedGiven
  grown = lines ++ line ∷ []

  lines_more : (q : List ℕ) →
      map given_in (filter (is_beside q) grown)
      ≡ map given_in (filter (is_beside q) lines) ++ cond (bytes_eq q name) (line.given ∷ []) []
  lines_more q =
      ap (map given_in) (filter-append (is_beside q) lines (line ∷ []))
      ∙ map-append given_in (filter (is_beside q) lines) (filter (is_beside q) (line ∷ []))
      ∙ ap (λ l. map given_in (filter (is_beside q) lines) ++ l) (one_by (bytes_eq q name) line)

  any_more : (q : List ℕ) → list_any (is_beside q) grown ≡ (list_any (is_beside q) lines || bytes_eq q name)
  any_more q =
      list_any-append (is_beside q) lines (line ∷ [])
      ∙ ap (λ b. list_any (is_beside q) lines || b) (or_nothing (bytes_eq q name))

  under_pushed : (q : List ℕ) (front : List Group) (g : Group) →
      lines_under q (front ++ g ∷ []) ≡ lines_under q front ++ kept_for q g
  under_pushed q front g =
      flat_map-append (kept_for q) front (g ∷ [])
      ∙ ap (λ l. lines_under q front ++ l) (append-nil (kept_for q g))

  named_pushed : (q : List ℕ) (front : List Group) (g : Group) →
      list_any (bytes_eq q) (group_names (front ++ g ∷ []))
      ≡ (list_any (bytes_eq q) (group_names front) || bytes_eq q g.name)
  named_pushed q front g =
      ap (list_any (bytes_eq q)) (map-append (λ (x : Group). x.name) front (g ∷ []))
      ∙ list_any-append (bytes_eq q) (group_names front) (g.name ∷ [])
      ∙ ap (λ b. list_any (bytes_eq q) (group_names front) || b) (or_nothing (bytes_eq q g.name))

  all_pushed : (front : List Group) (g : Group) → length (lines_in (front ++ g ∷ [])) ≡ length (lines_in front) + length g.lines.items
  all_pushed front g =
      ap length (flat_map-append (λ (x : Group). x.lines.items) front (g ∷ []) ∙ ap (λ l. lines_in front ++ l) (append-nil g.lines.items))
      ∙ length-append (lines_in front) g.lines.items

  one_longer : length grown ≡ length lines + 1
  one_longer = length-append lines (line ∷ [])

  -- ---- in the last group

  joined : (b : Bool) (xs : List Given) → cond b (xs ++ line.given ∷ []) [] ≡ cond b xs [] ++ cond b (line.given ∷ []) []
  joined true xs = refl
  joined false xs = refl

  named_before : (q : List ℕ) → IsInLast name (line.given) old new → list_any (bytes_eq q) (group_names old)
      ≡ (list_any (bytes_eq q) (group_names old) || bytes_eq q name)
  named_before q far =
      let pushed = ap (λ g. list_any (bytes_eq q) (group_names g)) far.was ∙ named_pushed q far.front far.last
      ∙ ap (λ n. list_any (bytes_eq q) (group_names far.front) || bytes_eq q n) far.of_package in
      pushed ∙ or_twice (list_any (bytes_eq q) (group_names far.front)) (bytes_eq q name)
      ∙ ap (λ b. b || bytes_eq q name) (sym pushed)

  in_last : AreSoFar lines old → IsInLast name (line.given) old new → AreSoFar grown new
  in_last so far =
      let front = far.front in
      let last = far.last in
      let one = far.one in
      let same_name : one.name ≡ last.name = far.named ∙ sym far.of_package in
      let names_same : group_names new ≡ group_names old =
      ap group_names far.grown ∙ map-append (λ (x : Group). x.name) front (one ∷ [])
      ∙ ap (λ n. group_names front ++ n ∷ []) same_name
      ∙ sym (ap group_names far.was ∙ map-append (λ (x : Group). x.name) front (last ∷ [])) in
      let ends : group_names front ++ name ∷ [] ≡ dedup bytes_eq (map name_of lines) =
      ap (λ n. group_names front ++ n ∷ []) (sym far.of_package)
      ∙ sym (ap group_names far.was ∙ map-append (λ (x : Group). x.name) front (last ∷ [])) ∙ so.names in
      record {
        names = names_same ∙ so.names
            ∙ sym (ap (dedup bytes_eq) (map-append name_of lines (line ∷ []))
            ∙ same_again (map name_of lines) (group_names front) name ends (nat_list_eq_equiv.refl name));
        named = λ q.
            ap (list_any (bytes_eq q)) names_same
            ∙ named_before q far
            ∙ ap (λ b. b || bytes_eq q name) (so.named q)
            ∙ sym (any_more q);
        each = λ q.
            ap (lines_under q) far.grown ∙ under_pushed q front one
            ∙ ap (λ l. lines_under q front ++ l)
            ((λ i. cond (bytes_eq q (same_name i)) (far.lines i) []) ∙ joined (bytes_eq q last.name) last.lines.items
            ∙ ap (λ n. kept_for q last ++ cond (bytes_eq q n) (line.given ∷ []) []) far.of_package)
            ∙ sym (append_assoc (lines_under q front) (kept_for q last) (cond (bytes_eq q name) (line.given ∷ []) []))
            ∙ ap (λ l. l ++ cond (bytes_eq q name) (line.given ∷ []) [])
            (sym (ap (lines_under q) far.was ∙ under_pushed q front last) ∙ so.each q)
            ∙ sym (lines_more q);
        all =
            ap (λ g. length (lines_in g)) far.grown ∙ all_pushed front one
            ∙ ap (λ l. length (lines_in front) + length l) far.lines
            ∙ ap (λ n. length (lines_in front) + n) (length-append last.lines.items (line.given ∷ []))
            ∙ added (length (lines_in front)) (length last.lines.items)
            ∙ ap (λ n. n + 1) (sym (ap (λ g. length (lines_in g)) far.was ∙ all_pushed front last) ∙ so.all)
            ∙ sym one_longer;
      }

  -- ---- as a group of its own

  as_new : AreSoFar lines old → IsOfOther name old → IsNewGroup name (line.given) old new → AreSoFar grown new
  as_new so other far =
      let one = far.one in
      let names_new : group_names new ≡ group_names old ++ name ∷ [] =
      ap group_names far.grown ∙ map-append (λ (x : Group). x.name) old (one ∷ []) ∙ ap (λ n. group_names old ++ n ∷ []) far.named in
      record {
        names = names_new
            ∙ sym (ap (dedup bytes_eq) (map-append name_of lines (line ∷ []))
            ∙ other_again (map name_of lines) (group_names old) name so.names (other_names name old other));
        named = λ q.
            ap (λ g. list_any (bytes_eq q) (group_names g)) far.grown ∙ named_pushed q old one
            ∙ (λ i. so.named q i || bytes_eq q (far.named i))
            ∙ sym (any_more q);
        each = λ q.
            ap (lines_under q) far.grown ∙ under_pushed q old one
            ∙ (λ i. so.each q i ++ cond (bytes_eq q (far.named i)) (far.lines i) [])
            ∙ sym (lines_more q);
        all =
            ap (λ g. length (lines_in g)) far.grown ∙ all_pushed old one
            ∙ (λ i. so.all i + length (far.lines i))
            ∙ sym one_longer;
      }

  pub one_so_far : AreSoFar lines old → IsAdded name (line.given) old new → AreSoFar grown new
  one_so_far so (inl far) = in_last so far
  one_so_far so (inr h) = as_new so h.0 h.1
