-- A canonical diagram whose truth some questions settle asks none but these.
use Rattle.std.proofs.Common.{◌≡◌, Bool, true, false, ◌&&◌, cond, List, [], ◌∷◌, ◌⊎◌, inl, inr, refl, sym, ap}
use Rattle.std.proofs.Common.{◌∙◌, true≢false, Ordering, Less, Equal, Greater, is_lt, is_gt}
use Rattle.std.specs.List.{AllByRecursion}
use Rattle.std.proofs.lemmas.Bool.{cases_Bool}
use Rattle.std.proofs.lemmas.Cmp.{tied_itself}
use Rattle.version_ranges.proofs.Membership.{all_weaker}
use Rattle.pep508_diagram.specs.Diagram.{Diagram, Leaf, Test, Asking, IsAsking, truth_by, front_by}
use Rattle.pep508_diagram.specs.Diagram.{IsCanonicalBy}
use Rattle.pep508_diagram.specs.Question.{Question, Valuation, question_cmp, marker, truth, IsCanonical}
use Rattle.pep508_diagram.specs.Shortened.{AsksOfShort, HasShortVersions}
use Rattle.pep508_diagram.proofs.Alike.{three_ways}
use Rattle.pep508_diagram.proofs.Canonical.{one_diagram, front_canonical}
use Rattle.pep508_diagram.proofs.Moved.{DiffersAt, skip, below_differs, at_differs, at_answer, at_below}
use Rattle.pep508_diagram.proofs.Moved.{front_where_yes, at_low, at_high}
use Rattle.pep508_diagram.proofs.Questions.{asks, lowest}
use Rattle.pep508_reading_back.specs.Asked.{AnswerAlike, IsAmong}
use Rattle.pep508_diagram.specs.Questions.{AllQuestions}

is_less : (o : Ordering) → is_lt o ≡ true → o ≡ Less
is_less Less e = refl
is_less Equal e = absurd (true≢false (sym e))
is_less Greater e = absurd (true≢false (sym e))

and_true : (b : Bool) → b ≡ (b && true)
and_true true = refl
and_true false = refl

and_false : (b : Bool) → false ≡ (b && false)
and_false true = refl
and_false false = refl

module _ {Q V : Type 0} (ask : Asking Q V) where
  -- the valuations answer each of the questions alike
  abbrev pub AgreeOn : List Q → V → V → Type 0
  AgreeOn asked v w = AllByRecursion (λ r. ask.answer v r ≡ ask.answer w r) asked

  -- the questions settle the truth of the diagram
  abbrev pub Settle : List Q → Diagram Q → Type 0
  Settle asked d = (v w : V) → AgreeOn asked v w → truth_by ask d v ≡ truth_by ask d w

  -- none of the questions is this one
  abbrev pub Lack : List Q → Q → Type 0
  Lack asked q = AllByRecursion (λ r. ask.cmp q r ≡ Equal → ⊥) asked

  -- the valuation with the question answered by no
  abbrev pub denied : Q → V → V
  denied q v = cond (ask.answer v q) (ask.at_place v q) v

  -- a valuation that answers the question by yes, and each of these as at the question's place
  abbrev pub Sooner : List Q → Q → V → Type 0
  Sooner asked q v =
      (u : V) × DiffersAt ask q v u × (ask.answer u q ≡ true) × AgreeOn asked u (ask.at_place v q)

module _ {Q V : Type 0} {ask : Asking Q V} (laws : IsAsking ask) where
  shares_itself : (q : Q) → ask.shares q q ≡ true
  shares_itself q = laws.equal_share q q (tied_itself laws.total q)

  greater_turned : (q r : Q) → ask.cmp q r ≡ Greater → ask.cmp r q ≡ Less
  greater_turned q r more = laws.total.antisymm r q ∙ rw more refl

  -- ---- the first branch

  below_alike : (asked : List Q) (q : Q) (v w : V) → AgreeOn ask asked v w →
      AgreeOn ask asked (ask.below_all v q) (ask.below_all w q)
  below_alike asked q v w alike =
      all_weaker (λ r. ask.answer v r ≡ ask.answer w r)
      (λ r. ask.answer (ask.below_all v q) r ≡ ask.answer (ask.below_all w q) r)
      (λ r e. laws.moved_below v q r ∙ ap (λ b. cond (ask.shares q r) true b) e
      ∙ sym (laws.moved_below w q r)) asked alike

  pub low_settled : (asked : List Q) (q : Q) (l h : Diagram Q) → IsCanonicalBy ask (Test q l h) →
      Settle ask asked (Test q l h) → Settle ask asked l
  low_settled asked q l h c settled v w alike =
      sym (at_low laws q q l h v (shares_itself q) c.0 c.2)
      ∙ settled (ask.below_all v q) (ask.below_all w q) (below_alike asked q v w alike)
      ∙ at_low laws q q l h w (shares_itself q) c.0 c.2

  -- ---- the second branch

  -- where the question is answered by no, so is each that doesn't come later
  no_sooner : (q r : Q) (v : V) → ask.shares q r ≡ true → ask.answer v q ≡ false →
      is_lt (ask.cmp q r) ≡ false → ask.answer v r ≡ false
  no_sooner q r v shared over sooner = elim (three_ways (ask.cmp q r)) [
    | inl less ↦ absurd (true≢false (sym (ap is_lt less) ∙ sooner))
    | inr (inl same) ↦ sym (laws.answers_equal v q r same) ∙ over
    | inr (inr more) ↦ elim (cases_Bool (ask.answer v r)) [
      | inl below ↦
          let turned : ask.shares r q ≡ true = laws.shares_turned r q ∙ shared in
          absurd (true≢false (sym (laws.below_later v r q turned (greater_turned q r more) below) ∙ over))
      | inr too ↦ too
    ]
  ]

  yes_later : (q r : Q) (v : V) → ask.shares q r ≡ true → ask.answer v q ≡ true →
      is_lt (ask.cmp q r) ≡ true → ask.answer v r ≡ true
  yes_later q r v shared below later = laws.below_later v q r shared (is_less (ask.cmp q r) later) below

  denied_yes : (q r : Q) (v : V) → ask.shares q r ≡ true → ask.answer v q ≡ true →
      is_lt (ask.cmp q r) ≡ (ask.answer v r && is_lt (ask.cmp q r))
  denied_yes q r v shared below = elim (cases_Bool (is_lt (ask.cmp q r))) [
    | inl later ↦ rw (yes_later q r v shared below later, later) refl
    | inr sooner ↦ rw sooner (and_false (ask.answer v r))
  ]

  denied_no : (q r : Q) (v : V) → ask.shares q r ≡ true → ask.answer v q ≡ false →
      ask.answer v r ≡ (ask.answer v r && is_lt (ask.cmp q r))
  denied_no q r v shared over = elim (cases_Bool (is_lt (ask.cmp q r))) [
    | inl later ↦ rw later (and_true (ask.answer v r))
    | inr sooner ↦ rw (no_sooner q r v shared over sooner) refl
  ]

  denied_shared : (q r : Q) (v : V) → ask.shares q r ≡ true →
      ask.answer (denied ask q v) r ≡ (ask.answer v r && is_lt (ask.cmp q r))
  denied_shared q r v shared = elim (cases_Bool (ask.answer v q)) [
    | inl below ↦
        ap (λ b. ask.answer (cond b (ask.at_place v q) v) r) below ∙ at_answer laws q r v shared
        ∙ denied_yes q r v shared below
    | inr over ↦
        ap (λ b. ask.answer (cond b (ask.at_place v q) v) r) over ∙ denied_no q r v shared over
  ]

  denied_free : (q r : Q) (v : V) → ask.shares q r ≡ false → ask.answer (denied ask q v) r ≡ ask.answer v r
  denied_free q r v free = elim (cases_Bool (ask.answer v q)) [
    | inl below ↦ rw below (at_differs laws q v r free)
    | inr over ↦ rw over refl
  ]

  denied_same : (q r : Q) (v w : V) → ask.answer v r ≡ ask.answer w r →
      ask.answer (denied ask q v) r ≡ ask.answer (denied ask q w) r
  denied_same q r v w e = elim (cases_Bool (ask.shares q r)) [
    | inl shared ↦
        denied_shared q r v shared ∙ ap (λ b. b && is_lt (ask.cmp q r)) e ∙ sym (denied_shared q r w shared)
    | inr free ↦ denied_free q r v free ∙ e ∙ sym (denied_free q r w free)
  ]

  -- there the second branch speaks
  denied_high : (q : Q) (l h : Diagram Q) (v : V) → IsCanonicalBy ask (Test q l h) →
      truth_by ask (Test q l h) (denied ask q v) ≡ truth_by ask h v
  denied_high q l h v c = elim (cases_Bool (ask.answer v q)) [
    | inl below ↦
        ap (λ b. truth_by ask (Test q l h) (cond b (ask.at_place v q) v)) below
        ∙ at_high laws q q l h v (tied_itself laws.total q) c.1 c.3
        ∙ sym (front_where_yes laws h q v below c.1 c.3)
    | inr over ↦
        ap (λ b. truth_by ask (Test q l h) (cond b (ask.at_place v q) v)) over
        ∙ ap (λ b. cond b (truth_by ask l v) (truth_by ask h v)) over
  ]

  pub high_settled : (asked : List Q) (q : Q) (l h : Diagram Q) → IsCanonicalBy ask (Test q l h) →
      Settle ask asked (Test q l h) → Settle ask asked h
  high_settled asked q l h c settled v w alike =
      sym (denied_high q l h v c)
      ∙ settled (denied ask q v) (denied ask q w)
      (all_weaker (λ r. ask.answer v r ≡ ask.answer w r)
      (λ r. ask.answer (denied ask q v) r ≡ ask.answer (denied ask q w) r)
      (λ r e. denied_same q r v w e) asked alike)
      ∙ denied_high q l h w c

  -- ---- the question itself

  -- the variable at the place of an earlier question `r`, which `u` answers by yes: where `u` answered the
  -- questions as at the place of `q`, so does this
  module _ (q r : Q) (v u : V) (shared : ask.shares q r ≡ true) (more : ask.cmp q r ≡ Greater)
      (below : ask.answer u r ≡ true) where
    free_too : (t : Q) → ask.shares q t ≡ false → ask.shares r t ≡ false
    free_too t free = sym (laws.shares_on q r t shared) ∙ free

    later_same : (t : Q) → ask.shares q t ≡ true → ask.answer u t ≡ is_lt (ask.cmp q t) →
        is_lt (ask.cmp r t) ≡ is_lt (ask.cmp q t)
    later_same t on e = elim (cases_Bool (is_lt (ask.cmp q t))) [
      | inl later ↦
          let less : ask.cmp r t ≡ Less =
          laws.total.trans r q t (greater_turned q r more) (is_less (ask.cmp q t) later) in
          ap is_lt less ∙ sym later
      | inr sooner ↦ elim (cases_Bool (is_lt (ask.cmp r t))) [
        | inl too ↦
            let there : ask.shares r t ≡ true = sym (laws.shares_on q r t shared) ∙ on in
            absurd (true≢false (sym (yes_later r t u there below too) ∙ e ∙ sooner))
        | inr not_too ↦ not_too ∙ sym sooner
      ]
    ]

    moved_same : (t : Q) → ask.answer u t ≡ ask.answer (ask.at_place v q) t →
        ask.answer (ask.at_place v r) t ≡ ask.answer (ask.at_place v q) t
    moved_same t e = elim (cases_Bool (ask.shares q t)) [
      | inl on ↦
          let there : ask.shares r t ≡ true = sym (laws.shares_on q r t shared) ∙ on in
          at_answer laws r t v there ∙ later_same t on (e ∙ at_answer laws q t v on)
          ∙ sym (at_answer laws q t v on)
      | inr free ↦ at_differs laws r v t (free_too t free) ∙ sym (at_differs laws q v t free)
    ]

    moved_sooner : (asked : List Q) → AgreeOn ask asked u (ask.at_place v q) → Sooner ask (r ∷ asked) q v
    moved_sooner asked agree = (
      ask.at_place v r,
      λ t free. at_differs laws r v t (free_too t free),
      at_answer laws r q v (laws.shares_turned r q ∙ shared) ∙ ap is_lt (greater_turned q r more),
      (
        at_answer laws r r v (shares_itself r) ∙ ap is_lt (tied_itself laws.total r)
            ∙ sym (at_answer laws q r v shared ∙ ap is_lt more),
        all_weaker (λ t. ask.answer u t ≡ ask.answer (ask.at_place v q) t)
            (λ t. ask.answer (ask.at_place v r) t ≡ ask.answer (ask.at_place v q) t)
            (λ t e. moved_same t e) asked agree,
      ),
    )

  shared_sooner : (asked : List Q) (q r : Q) (v : V) → ask.shares q r ≡ true → (ask.cmp q r ≡ Equal → ⊥) →
      Sooner ask asked q v → Sooner ask (r ∷ asked) q v
  shared_sooner asked q r v shared apart s = elim (three_ways (ask.cmp q r)) [
    | inl less ↦
        let yes_both : ask.answer s.0 r ≡ ask.answer (ask.at_place v q) r =
        laws.below_later s.0 q r shared less s.2 ∙ sym (at_below laws q v r shared less) in
        (s.0, s.1, s.2, (yes_both, s.3))
    | inr (inl same) ↦ absurd (apart same)
    | inr (inr more) ↦ elim (cases_Bool (ask.answer s.0 r)) [
      | inl below ↦ moved_sooner q r v s.0 shared more below asked s.3
      | inr over ↦
          let no_both : ask.answer s.0 r ≡ ask.answer (ask.at_place v q) r =
          over ∙ sym (at_answer laws q r v shared ∙ ap is_lt more) in
          (s.0, s.1, s.2, (no_both, s.3))
    ]
  ]

  one_sooner : (asked : List Q) (q r : Q) (v : V) → (ask.cmp q r ≡ Equal → ⊥) → Sooner ask asked q v →
      Sooner ask (r ∷ asked) q v
  one_sooner asked q r v apart s = elim (cases_Bool (ask.shares q r)) [
    | inl shared ↦ shared_sooner asked q r v shared apart s
    | inr free ↦ (s.0, s.1, s.2, (s.1 r free ∙ sym (at_differs laws q v r free), s.3))
  ]

  pub sooner : (asked : List Q) (q : Q) (v : V) → Lack ask asked q → Sooner ask asked q v
  sooner [] q v none = (
    ask.below_all v q,
    below_differs laws q v,
    laws.moved_below v q q ∙ ap (λ b. cond b true (ask.answer v q)) (shares_itself q),
    tt,
  )
  sooner (r ∷ asked) q v none = one_sooner asked q r v none.0 (sooner asked q v none.1)

  -- a diagram that is settled by others asks its first question in vain
  low_is_front : (asked : List Q) (q : Q) (l h : Diagram Q) → IsCanonicalBy ask (Test q l h) →
      Settle ask asked (Test q l h) → Lack ask asked q → (v : V) →
      truth_by ask l v ≡ truth_by ask (front_by ask q h) v
  low_is_front asked q l h c settled none v =
      let s : Sooner ask asked q v = sooner asked q v none in
      sym (skip laws l q v s.0 s.1 c.0 c.2)
      ∙ sym (ap (λ b. cond b (truth_by ask l s.0) (truth_by ask h s.0)) s.2)
      ∙ settled s.0 (ask.at_place v q) s.3
      ∙ at_high laws q q l h v (tied_itself laws.total q) c.1 c.3

  pub root_asked : V → (asked : List Q) (q : Q) (l h : Diagram Q) → IsCanonicalBy ask (Test q l h) →
      Settle ask asked (Test q l h) → Lack ask asked q → ⊥
  root_asked some asked q l h c settled none =
      c.4 (one_diagram Q V ask laws some l (front_by ask q h) c.0 (front_canonical laws q h c.1)
      (low_is_front asked q l h c settled none))

-- ---- diagrams of markers

among_or_not : (asked : List Question) (q : Question) → IsAmong asked q ⊎ Lack marker asked q
among_or_not [] q = inr tt
among_or_not (r ∷ asked) q = elim (among_or_not asked q) [
  | inl among ↦ inl (inr among)
  | inr none ↦ elim (three_ways (question_cmp q r)) [
    | inl less ↦ inr (λ same. true≢false (sym (ap is_lt less) ∙ ap is_lt same), none)
    | inr (inl same) ↦ inl (inl same)
    | inr (inr more) ↦ inr (λ same. true≢false (sym (ap is_gt more) ∙ ap is_gt same), none)
  ]
]

pub asks_these_alone : (asked : List Question) (d : Diagram Question) → IsCanonical d →
    ((v w : Valuation) → AnswerAlike asked v w → truth d v ≡ truth d w) → AllQuestions (IsAmong asked) d
asks_these_alone asked (Leaf b) c settled = tt
asks_these_alone asked (Test q l h) c settled = (
  elim (among_or_not asked q) [
    | inl among ↦ among
    | inr none ↦ absurd (root_asked asks lowest asked q l h c settled none)
  ],
  asks_these_alone asked l c.0 (low_settled asks asked q l h c settled),
  asks_these_alone asked h c.1 (high_settled asks asked q l h c settled),
)

-- ---- what holds of the questions that settle a diagram

-- what goes over to each equal question whose version is short
module _ (P : Question → Type 0)
    (equal_too : (q r : Question) → AsksOfShort q → question_cmp q r ≡ Equal → P r → P q) where
  among_holds : (asked : List Question) (q : Question) → AsksOfShort q → AllByRecursion P asked →
      IsAmong asked q → P q
  among_holds [] q short each among = absurd among
  among_holds (r ∷ asked) q short each (inl same) = equal_too q r short same each.0
  among_holds (r ∷ asked) q short each (inr among) = among_holds asked q short each.1 among

  pub all_hold : (asked : List Question) (d : Diagram Question) → HasShortVersions d →
      AllByRecursion P asked → AllQuestions (IsAmong asked) d → AllQuestions P d
  all_hold asked (Leaf b) short each among = tt
  all_hold asked (Test q l h) short each among = (
    among_holds asked q short.0 each among.0,
    all_hold asked l short.1 each among.1,
    all_hold asked h short.2 each among.2,
  )
