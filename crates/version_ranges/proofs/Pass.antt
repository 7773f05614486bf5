-- What one pass over the turns of two sets has written at a time.
use Rattle.std.proofs.Common.{◌≡◌, Bool, true, false, not, List, [], ◌∷◌, ◌++◌, refl, ap, sym, subst, ◌∙◌}
use Rattle.std.proofs.Common.{append_assoc, append-nil}
use Rattle.std.specs.List.{AllByRecursion}
use Rattle.std.specs.declared.cmp.Ordering.{Ordering}
use Rattle.std.specs.declared.cmp.Ordering.TheVariants.{Less, Equal, Greater}
use Rattle.std.specs.Ordering.{is_gt, ordering_reverse}
use Rattle.std.specs.Cmp.{IsTotalOrder, tied_itself, tied_back}
use mathlib.Core.Bool.{beq}
use Rattle.version_ranges.specs.Turns.{flips, is_held, Rising}
use Rattle.version_ranges.specs.Merging.{Takes, Adds, IsFirst}
use Rattle.version_ranges.proofs.Membership.{is_held_beyond, Below, flips_comm, is_held_beyond-append}
use Rattle.version_ranges.proofs.Membership.{all_weaker, step_at, rising_append, below_like, below_step}
use Rattle.version_ranges.proofs.Membership.{before_head}

-- what two lists of turns are joined to, as far as they are read
pub record Joined {K : Type 0} (R : K → K → Ordering) (f : Bool → Bool → Bool)
    (a b out left_a left_b : List K)
    (in_a in_b : Bool) : Type 0 where
  pub read_a : List K
  pub read_b : List K
  pub a_is : read_a ++ left_a ≡ a
  pub b_is : read_b ++ left_b ≡ b
  pub end_a : in_a ≡ is_held_beyond read_a
  pub end_b : in_b ≡ is_held_beyond read_b
  pub end_out : is_held_beyond out ≡ f in_a in_b
  pub points : (p : K) → is_held R out p ≡ f (is_held R read_a p) (is_held R read_b p)
  pub rising_out : Rising R out
  pub rising_a : Rising R left_a
  pub rising_b : Rising R left_b
  pub a_a : Below R read_a left_a
  pub a_b : Below R read_a left_b
  pub b_a : Below R read_b left_a
  pub b_b : Below R read_b left_b
  pub out_a : Below R out left_a
  pub out_b : Below R out left_b

module _ {K : Type 0} {R : K → K → Ordering} (o : IsTotalOrder R) {f : Bool → Bool → Bool} {a b out : List K}
    {in_a in_b : Bool} where
  -- the turn t is read, from either list or both, and copied or not
  pub joined_step : (t : K) (ta ra tb rb to : List K) →
      (j : Joined R f a b out (ta ++ ra) (tb ++ rb) in_a in_b)
      → AllByRecursion (λ x. R x t ≡ Equal) ta → AllByRecursion (λ x. R x t ≡ Equal) tb →
      AllByRecursion (λ x. R x t ≡ Equal) to
      → Rising R to → Rising R ra → Rising R rb
      → AllByRecursion (λ x. R x t ≡ Less) j.read_a → AllByRecursion (λ x. R x t ≡ Less) j.read_b →
      AllByRecursion (λ x. R x t ≡ Less) out
      → AllByRecursion (λ y. R t y ≡ Less) ra → AllByRecursion (λ y. R t y ≡ Less) rb
      → is_held_beyond (out ++ to) ≡ f (flips (is_held_beyond ta) in_a) (flips (is_held_beyond tb) in_b)
      → Joined R f a b (out ++ to) ra rb (flips (is_held_beyond ta) in_a) (flips (is_held_beyond tb) in_b)
  joined_step t ta ra tb rb to j ea eb eo ro rra rrb la lb lo ga gb e =
      let na : flips (is_held_beyond ta) in_a ≡ is_held_beyond (j.read_a ++ ta) =
      ap (flips (is_held_beyond ta)) j.end_a ∙ flips_comm (is_held_beyond ta) (is_held_beyond j.read_a)
      ∙ sym (is_held_beyond-append j.read_a ta) in
      let nb : flips (is_held_beyond tb) in_b ≡ is_held_beyond (j.read_b ++ tb) =
      ap (flips (is_held_beyond tb)) j.end_b ∙ flips_comm (is_held_beyond tb) (is_held_beyond j.read_b)
      ∙ sym (is_held_beyond-append j.read_b tb) in
      record {
        read_a = j.read_a ++ ta;
        read_b = j.read_b ++ tb;
        a_is = append_assoc j.read_a ta ra ∙ j.a_is;
        b_is = append_assoc j.read_b tb rb ∙ j.b_is;
        end_a = na;
        end_b = nb;
        end_out = e;
        points = λ p. step_at R o f t j.read_a ta j.read_b tb out to p (is_gt (R t p)) refl la ea lb eb lo eo
            (e ∙ (λ i. f (na i) (nb i))) (j.points p);
        rising_out =
            rising_append R out to j.rising_out ro
            (all_weaker _ (λ y. AllByRecursion (λ x. R x y ≡ Less) out)
            (λ y h. below_like R o t y out (tied_back o y t h) lo) to eo);
        rising_a = rra;
        rising_b = rrb;
        a_a = below_step R o t j.read_a ta ra la ea ga;
        a_b = below_step R o t j.read_a ta rb la ea gb;
        b_a = below_step R o t j.read_b tb ra lb eb ga;
        b_b = below_step R o t j.read_b tb rb lb eb gb;
        out_a = below_step R o t out to ra lo eo ga;
        out_b = below_step R o t out to rb lo eo gb;
      }

-- what is taken from a list or put at its end, as a list of one or none
record IsAtMostOne {K : Type 0} (R : K → K → Ordering) (t : K) (there : Bool) (xs : List K) : Type 0 where
  like : AllByRecursion (λ x. R x t ≡ Equal) xs
  end_is : is_held_beyond xs ≡ there
  rising : Rising R xs

module _ {K : Type 0} (R : K → K → Ordering) where
  taken_front : (t : K) (there : Bool) (list left : List K) → Takes R t there list left →
      (xs : List K) × (list ≡ xs ++ left) × IsAtMostOne R t there xs
  taken_front t true list left h =
      (h.0 ∷ [], h.1, record { like = (h.2, tt); end_is = refl; rising = (tt, tt) })
  taken_front t false list left h = ([], h, record { like = tt; end_is = refl; rising = tt })

  added_end : (t : K) (there : Bool) (old new : List K) → Adds R t there old new →
      (xs : List K) × (new ≡ old ++ xs) × IsAtMostOne R t there xs
  added_end t true old new h = (h.0 ∷ [], h.1, record { like = (h.2, tt); end_is = refl; rising = (tt, tt) })
  added_end t false old new h =
      ([], h ∙ sym (append-nil old), record { like = tt; end_is = refl; rising = tt })

  rising_left : (t : K) (there : Bool) (list left : List K) → Takes R t there list left → Rising R list →
      Rising R left
  rising_left t true list left h r = (subst (Rising R) h.1 r).1
  rising_left t false list left h r = subst (Rising R) h r

-- the first turn of two lists: which list it comes from, and what is left
module _ {K : Type 0} {R : K → K → Ordering} (o : IsTotalOrder R) where
  -- what comes before all of a list comes before what was taken from it
  before_taken : (t : K) (xs list left : List K) → Takes R t true list left → Below R xs list →
      AllByRecursion (λ x. R x t ≡ Less) xs
  before_taken t xs list left h b = below_like R o h.0 t xs h.2 (subst (Below R xs) h.1 b).0

  before_first : (t : K) (in_a in_b : Bool) (a b left_a left_b xs : List K) →
      IsFirst R a b t in_a in_b left_a left_b →
      Below R xs a → Below R xs b → AllByRecursion (λ x. R x t ≡ Less) xs
  before_first t true in_b a b left_a left_b xs n p q = before_taken t xs a left_a n.taken_a p
  before_first t false true a b left_a left_b xs n p q = before_taken t xs b left_b n.taken_b q
  before_first t false false a b left_a left_b xs n p q = absurd (cc (n.taken))

  -- nothing is left of an empty list
  behind_none : (t : K) (list : List K) → list ≡ [] → AllByRecursion (λ y. R t y ≡ Less) list
  behind_none t list e = subst (AllByRecursion (λ y. R t y ≡ Less)) (sym e) tt

  pub first_alone_a : (t : K) (a left b : List K) → a ≡ t ∷ left → b ≡ [] → IsFirst R a b t true false left b
  first_alone_a t a left b e f = record {
    taken_a = (t, e, tied_itself o t);
    taken_b = refl;
    taken = refl;
    before_a = λ p q. (subst (Rising R) e p).0;
    before_b = λ p q. behind_none t b f;
  }

  pub first_alone_b : (t : K) (a b left : List K) → b ≡ t ∷ left → a ≡ [] → IsFirst R a b t false true a left
  first_alone_b t a b left e f = record {
    taken_a = refl;
    taken_b = (t, e, tied_itself o t);
    taken = refl;
    before_a = λ p q. behind_none t a f;
    before_b = λ p q. (subst (Rising R) e q).0;
  }

  -- t before the head of a rising list is before all of it
  before_all : (t u : K) (list left : List K) → R t u ≡ Less → list ≡ u ∷ left → Rising R list →
      AllByRecursion (λ y. R t y ≡ Less) list
  before_all t u list left h e r =
      subst (AllByRecursion (λ y. R t y ≡ Less)) (sym e) (before_head o t u left h (subst (Rising R) e r))

  pub first_less : (t u : K) (a b left_a left_b : List K) → a ≡ t ∷ left_a → b ≡ u ∷ left_b → R t u ≡ Less →
      IsFirst R a b t true false left_a b
  first_less t u a b left_a left_b e f h = record {
    taken_a = (t, e, tied_itself o t);
    taken_b = refl;
    taken = refl;
    before_a = λ p q. (subst (Rising R) e p).0;
    before_b = λ p q. before_all t u b left_b h f q;
  }

  pub first_equal : (t u : K) (a b left_a left_b : List K) → a ≡ t ∷ left_a → b ≡ u ∷ left_b →
      R t u ≡ Equal →
      IsFirst R a b t true true left_a left_b
  first_equal t u a b left_a left_b e f h = record {
    taken_a = (t, e, tied_itself o t);
    taken_b = (u, f, tied_back o t u h);
    taken = refl;
    before_a = λ p q. (subst (Rising R) e p).0;
    before_b = λ p q.
        all_weaker (λ y. R u y ≡ Less) (λ y. R t y ≡ Less) (λ y k. o.congr t u y h ∙ k) left_b
        (subst (Rising R) f q).0;
  }

  pub first_greater : (t u : K) (a b left_a left_b : List K) → a ≡ t ∷ left_a → b ≡ u ∷ left_b →
      R t u ≡ Greater →
      IsFirst R a b u false true a left_b
  first_greater t u a b left_a left_b e f h = record {
    taken_a = refl;
    taken_b = (u, f, tied_itself o u);
    taken = refl;
    before_a = λ p q. before_all u t a left_a (o.antisymm u t ∙ ap ordering_reverse h) e p;
    before_b = λ p q. (subst (Rising R) f q).0;
  }

-- the next turn is read, and written where membership changes
module _ {K : Type 0} {R : K → K → Ordering} (o : IsTotalOrder R) {f : Bool → Bool → Bool}
    {a b out new la lb ra rb : List K} {in_a in_b from_a from_b : Bool} {t : K} where
  pub joined_next : (changed : Bool) → Joined R f a b out la lb in_a in_b →
      IsFirst R la lb t from_a from_b ra rb → Adds R t changed out new →
      flips (f in_a in_b) changed ≡ f (flips from_a in_a) (flips from_b in_b) →
      Joined R f a b new ra rb (flips from_a in_a) (flips from_b in_b)
  joined_next changed j n d e =
      let xa = taken_front R t from_a la ra n.taken_a in
      let xb = taken_front R t from_b lb rb n.taken_b in
      let xo = added_end R t changed out new d in
      let k : Joined R f a b out (xa.0 ++ ra) (xb.0 ++ rb) in_a in_b =
      subst (λ v. Joined R f a b out v (xb.0 ++ rb) in_a in_b) xa.1
      (subst (λ v. Joined R f a b out la v in_a in_b) xb.1 j) in
      let early = λ (xs : List K) (p : Below R xs la) (q : Below R xs lb).
      before_first o t from_a from_b la lb ra rb xs n p q in
      let s : Joined R f a b (out ++ xo.0) ra rb (flips (is_held_beyond xa.0) in_a)
      (flips (is_held_beyond xb.0) in_b) =
      joined_step o t xa.0 ra xb.0 rb xo.0 k xa.2.like xb.2.like xo.2.like xo.2.rising
      (rising_left R t from_a la ra n.taken_a j.rising_a) (rising_left R t from_b lb rb n.taken_b j.rising_b)
      (early k.read_a (subst (Below R k.read_a) (sym xa.1) k.a_a)
      (subst (Below R k.read_a) (sym xb.1) k.a_b))
      (early k.read_b (subst (Below R k.read_b) (sym xa.1) k.b_a)
      (subst (Below R k.read_b) (sym xb.1) k.b_b))
      (early out j.out_a j.out_b)
      (n.before_a j.rising_a j.rising_b) (n.before_b j.rising_a j.rising_b)
      (is_held_beyond-append out xo.0 ∙ (λ i. flips (k.end_out i) (xo.2.end_is i)) ∙ e
      ∙ (λ i. f (flips (sym xa.2.end_is i) in_a) (flips (sym xb.2.end_is i) in_b))) in
      subst (λ v. Joined R f a b v ra rb (flips from_a in_a) (flips from_b in_b)) (sym xo.1)
      (subst (λ v. Joined R f a b (out ++ xo.0) ra rb (flips v in_a) (flips from_b in_b)) xa.2.end_is
      (subst (λ v. Joined R f a b (out ++ xo.0) ra rb (flips (is_held_beyond xa.0) in_a) (flips v in_b))
      xb.2.end_is s))

-- membership was w, is n, and changed where the two differ
pub changes : (w n : Bool) → flips w (not (beq n w)) ≡ n
changes true true = refl
changes true false = refl
changes false true = refl
changes false false = refl
