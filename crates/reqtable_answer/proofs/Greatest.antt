-- The first among the greatest of a list, kept while the list grows at its end.
use Rattle.std.proofs.Common.{◌≡◌, ◌++◌, Bool, true, false, not, cond, ◌&&◌, List, [], ◌∷◌, Option, Some}
use Rattle.std.proofs.Common.{None, refl, sym, ap, ◌∙◌, append_assoc, append-nil, find, filter, subst}
use Rattle.std.proofs.lemmas.List.Elements.{filter-append}
use Rattle.std.specs.List.{list_all, AllByRecursion}
use Rattle.std.specs.Ordering.{is_gt, ordering_reverse}
use Rattle.std.specs.Cmp.{IsTotalOrder, upto, tied_itself}
use Rattle.std.specs.declared.cmp.Ordering.{Ordering}
use Rattle.std.specs.declared.cmp.Ordering.TheVariants.{Less, Equal, Greater}
use Rattle.reqtable_answer.specs.Answer.{first_greatest}
use Rattle.reqtable_answer.specs.Groups.{exceeds, better_of}

module _ {K : Type 0} (R : K → K → Ordering) where
  -- b stands in xs, above all before it and below none behind it
  pub record IsFirstGreatest (xs : List K) (b : K) : Type 0 where
    pub front : List K
    pub back : List K
    pub split : xs ≡ front ++ (b ∷ back)
    pub above_front : AllByRecursion (λ x. is_gt (R b x) ≡ true) front
    pub not_below_back : AllByRecursion (λ x. is_gt (R x b) ≡ false) back

  -- what a search keeps: none while there is nothing
  abbrev pub IsBest : List K → Option K → Type 0
  IsBest xs None = xs ≡ []
  IsBest xs (Some b) = IsFirstGreatest xs b

turned : (o : Ordering) → is_gt o ≡ true → is_gt (ordering_reverse o) ≡ false
turned Less h = absurd (cc)
turned Equal h = absurd (cc)
turned Greater h = refl

all_append : {K : Type 0} (P : K → Type 0) (xs ys : List K) → AllByRecursion P xs → AllByRecursion P ys → AllByRecursion P (xs ++ ys)
all_append P [] ys p q = q
all_append P (x ∷ xs) ys p q = (p.0, all_append P xs ys p.1 q)

and_false : (v : Bool) → (v && false) ≡ false
and_false true = refl
and_false false = refl

all_mapped : {K : Type 0} (P Q : K → Type 0) (f : (x : K) → P x → Q x) (xs : List K) → AllByRecursion P xs → AllByRecursion Q xs
all_mapped P Q f [] p = tt
all_mapped P Q f (x ∷ xs) p = (f x p.0, all_mapped P Q f xs p.1)

module _ {K : Type 0} {R : K → K → Ordering} (total : IsTotalOrder R) where
  not_below : (b x : K) → is_gt (R b x) ≡ true → is_gt (R x b) ≡ false
  not_below b x h = ap is_gt (total.antisymm x b) ∙ turned (R b x) h

  above_more : (n b x : K) → is_gt (R n b) ≡ true → (v : Bool) → is_gt (R n x) ≡ v → is_gt (R x b) ≡ false → is_gt (R n x) ≡ true
  above_more n b x h true e g = e
  above_more n b x h false e g = absurd (let k : is_gt (R n b) ≡ false = upto total n x b e g in cc)

  above_all : (n b x : K) → is_gt (R n b) ≡ true → is_gt (R x b) ≡ false → is_gt (R n x) ≡ true
  above_all n b x h g = above_more n b x h (is_gt (R n x)) refl g

  itself : (b : K) → is_gt (R b b) ≡ false
  itself b = ap is_gt (tied_itself total b)

  -- a value that is not above the best so far
  pub best_stays : (xs : List K) (b n : K) → IsFirstGreatest R xs b → is_gt (R n b) ≡ false → IsFirstGreatest R (xs ++ n ∷ []) b
  best_stays xs b n best h = record {
    front = best.front;
    back = best.back ++ n ∷ [];
    split = ap (λ l. l ++ n ∷ []) best.split ∙ append_assoc best.front (b ∷ best.back) (n ∷ []);
    above_front = best.above_front;
    not_below_back = all_append _ best.back (n ∷ []) best.not_below_back (h, tt);
  }

  -- a value that is above it
  pub best_changes : (xs : List K) (b n : K) → IsFirstGreatest R xs b → is_gt (R n b) ≡ true → IsFirstGreatest R (xs ++ n ∷ []) n
  best_changes xs b n best h = record {
    front = xs;
    back = [];
    split = refl;
    above_front =
        let P : K → Type 0 = λ x. is_gt (R n x) ≡ true in
        let front : AllByRecursion P best.front = all_mapped (λ x. is_gt (R b x) ≡ true) P (λ x g. above_all n b x h (not_below b x g)) best.front best.above_front in
        let back : AllByRecursion P best.back = all_mapped (λ x. is_gt (R x b) ≡ false) P (λ x g. above_all n b x h g) best.back best.not_below_back in
        let all : AllByRecursion P (best.front ++ (b ∷ best.back)) = all_append P best.front (b ∷ best.back) front (h, back) in
        rw best.split all;
    not_below_back = tt;
  }

  pub best_begins : (n : K) → IsFirstGreatest R (n ∷ []) n
  best_begins n = record { front = []; back = []; split = refl; above_front = tt; not_below_back = tt }

one_fails : {K : Type 0} (p : K → Bool) (front : List K) (b : K) (back : List K) → p b ≡ false → list_all p (front ++ (b ∷ back)) ≡ false
one_fails p [] b back h = ap (λ v. v && list_all p back) h
one_fails p (x ∷ front) b back h = ap (λ v. p x && v) (one_fails p front b back h) ∙ and_false (p x)

all_pass : {K : Type 0} (p : K → Bool) (xs : List K) → AllByRecursion (λ x. p x ≡ true) xs → list_all p xs ≡ true
all_pass p [] h = refl
all_pass p (x ∷ xs) h = ap (λ v. v && list_all p xs) h.0 ∙ all_pass p xs h.1

find-none_in_front : {K : Type 0} (p : K → Bool) (front rest : List K) → AllByRecursion (λ x. p x ≡ false) front → find p (front ++ rest) ≡ find p rest
find-none_in_front p [] rest h = refl
find-none_in_front p (x ∷ front) rest h = ap (λ v. cond v (Some x) (find p (front ++ rest))) h.0 ∙ find-none_in_front p front rest h.1

module _ {K : Type 0} {R : K → K → Ordering} (total : IsTotalOrder R) where
  -- the definition finds it
  pub first_greatest-is : (xs : List K) (b : K) → IsFirstGreatest R xs b → first_greatest R xs ≡ Some b
  first_greatest-is xs b best =
      let is_greatest : K → Bool = λ x. list_all (λ y. not (is_gt (R y x))) xs in
      let fails : (x : K) → is_gt (R b x) ≡ true → is_greatest x ≡ false =
      λ x h. ap (list_all (λ y. not (is_gt (R y x)))) best.split ∙ one_fails (λ y. not (is_gt (R y x))) best.front b best.back (ap not h) in
      let front : AllByRecursion (λ y. is_gt (R y b) ≡ false) best.front = all_mapped _ _ (λ y h. not_below total b y h) best.front best.above_front in
      let below : AllByRecursion (λ y. is_gt (R y b) ≡ false) (best.front ++ (b ∷ best.back)) = all_append _ best.front (b ∷ best.back) front (itself total b, best.not_below_back) in
      let passes : is_greatest b ≡ true =
      ap (list_all (λ y. not (is_gt (R y b)))) best.split ∙ all_pass (λ y. not (is_gt (R y b))) (best.front ++ (b ∷ best.back)) (all_mapped _ _ (λ y h. ap not h) (best.front ++ (b ∷ best.back)) below) in
      ap (find is_greatest) best.split
      ∙ find-none_in_front is_greatest best.front (b ∷ best.back) (all_mapped _ _ fails best.front best.above_front)
      ∙ ap (λ v. cond v (Some b) (find is_greatest best.back)) passes

  pub first_greatest-best : (xs : List K) (best : Option K) → IsBest R xs best → first_greatest R xs ≡ best
  first_greatest-best xs None h = ap (first_greatest R) h
  first_greatest-best xs (Some b) h = first_greatest-is xs b h

filter_one : {K : Type 0} (p : K → Bool) (xs : List K) (n : K) → p n ≡ true → filter p (xs ++ n ∷ []) ≡ filter p xs ++ n ∷ []
filter_one p xs n h = filter-append p xs (n ∷ []) ∙ ap (λ v. filter p xs ++ cond v (n ∷ []) []) h

filter_none : {K : Type 0} (p : K → Bool) (xs : List K) (n : K) → p n ≡ false → filter p (xs ++ n ∷ []) ≡ filter p xs
filter_none p xs n h = filter-append p xs (n ∷ []) ∙ ap (λ v. filter p xs ++ cond v (n ∷ []) []) h ∙ append-nil (filter p xs)

-- the steps of the search: a value that doesn't count, one that isn't above the best, and one that is
module _ {K : Type 0} {R : K → K → Ordering} (total : IsTotalOrder R) (p : K → Bool) where
  pub best_passed_over : (xs : List K) (n : K) (best : Option K) → p n ≡ false → IsBest R (filter p xs) best → IsBest R (filter p (xs ++ n ∷ [])) best
  best_passed_over xs n best h b = let P : List K → Type 0 = λ l. IsBest R l best in subst P (sym (filter_none p xs n h)) b

  kept : (ys : List K) (n : K) (best : Option K) → exceeds R n best ≡ false → IsBest R ys best → IsBest R (ys ++ n ∷ []) best
  kept ys n None h b = absurd (cc)
  kept ys n (Some best) h b = best_stays total ys best n b h

  taken_instead : (ys : List K) (n : K) (best : Option K) → exceeds R n best ≡ true → IsBest R ys best → IsBest R (ys ++ n ∷ []) (Some n)
  taken_instead ys n None h b = let P : List K → Type 0 = λ l. IsFirstGreatest R (l ++ n ∷ []) n in subst P (sym b) (best_begins total n)
  taken_instead ys n (Some best) h b = best_changes total ys best n b h

  pub best_kept : (xs : List K) (n : K) (best : Option K) → p n ≡ true → exceeds R n best ≡ false → IsBest R (filter p xs) best → IsBest R (filter p (xs ++ n ∷ [])) best
  best_kept xs n best h g b = let P : List K → Type 0 = λ l. IsBest R l best in subst P (sym (filter_one p xs n h)) (kept (filter p xs) n best g b)

  pub best_taken : (xs : List K) (n : K) (best : Option K) → p n ≡ true → exceeds R n best ≡ true → IsBest R (filter p xs) best → IsBest R (filter p (xs ++ n ∷ [])) (Some n)
  best_taken xs n best h g b = let P : List K → Type 0 = λ l. IsBest R l (Some n) in subst P (sym (filter_one p xs n h)) (taken_instead (filter p xs) n best g b)

  tested : (xs : List K) (n : K) (best : Option K) (above passed : Bool) → exceeds R n best ≡ above → p n ≡ passed → IsBest R (filter p xs) best
      → IsBest R (filter p (xs ++ n ∷ [])) (cond (above && passed) (Some n) best)
  tested xs n best true true e h b = best_taken xs n best h e b
  tested xs n best true false e h b = best_passed_over xs n best h b
  tested xs n best false true e h b = best_kept xs n best h e b
  tested xs n best false false e h b = best_passed_over xs n best h b

  -- one more value
  pub best_better : (before after : List K) (n : K) (best next : Option K) → after ≡ before ++ n ∷ [] → next ≡ better_of R p n best
      → IsBest R (filter p before) best → IsBest R (filter p after) next
  best_better before after n best next grown is b =
      let P : List K → Type 0 = λ l. IsBest R (filter p l) next in
      let Q : Option K → Type 0 = λ o. IsBest R (filter p (before ++ n ∷ [])) o in
      subst P {x = before ++ n ∷ []} (sym grown) (subst Q {x = better_of R p n best} (sym is) (tested before n best (exceeds R n best) (p n) refl refl b))
