use Rattle.std.proofs.Common.{◌∙◌, inl, inr, subst, sym}
use Rattle.reqs_json.specs.declared.format.Format.TheVariants.{Json}
use Rattle.reqs_json.specs.Lines.{line_of}
use Rattle.reqs_lists.specs.Covered.{IsCoversAnswer, IsToldUncovered, uncovered_value}
use Rattle.reqs_lists.specs.Lists.{two_lists}
use Rattle.reqs_lists.proofs.Given.{read_once}
use Rattle.reqs_lists.proofs.OneDifference.{never_uncovered, one_uncovered_name}
use Rattle.reqs_lists.proofs.OneDifference.{one_uncovered_diagram, one_uncovered_numbers}
use Rattle.reqs_lists.proofs.laws.both_formats_of_covers_say_the_same.Goals as goal

pub returns : goal.returns
returns c = λ limit vars inputs ended other text object a b.
    let read = read_once (two_lists vars inputs) b.0 a.0 b.1 a.1 in
    let also = subst (λ l. IsCoversAnswer Json limit l other object) read b.2 in
    elim a.2.1 [
      | inl one ↦ elim also.1 [
        | inl two ↦ (one.0 ∙ sym two.0, (a.0, a.1, (a.2.0, inl (one.2, one.1, two.1))))
        | inr two ↦ absurd (never_uncovered a.0 two.1.0 two.1.1 two.1.2 one.2 two.1.3)
      ]
      | inr one ↦ elim also.1 [
        | inl two ↦ absurd (never_uncovered a.0 one.1.0 one.1.1 one.1.2 two.2 one.1.3)
        | inr two ↦
            let name = one_uncovered_name a.0 two.1.0 one.1.0 two.1.1 one.1.1 two.1.2 one.1.2 two.1.3 one.1.3 in
            let told = subst (λ n. IsToldUncovered a.0 n two.1.1 two.1.2) name two.1.3 in
            let diagram = one_uncovered_diagram a.0 one.1.0 two.1.1 one.1.1 two.1.2 one.1.2 told one.1.3 in
            let numbers = one_uncovered_numbers a.0 one.1.0 two.1.1 one.1.1 two.1.2 one.1.2 told one.1.3 in (
              one.0 ∙ sym two.0,
              (
                a.0,
                a.1,
                (
                  a.2.0,
                  inr (
                    one.1.0,
                    one.1.1,
                    one.1.2,
                    one.1.3,
                    one.1.4,
                    two.1.4 ∙ (λ i. line_of (uncovered_value (name i) (diagram i) (numbers i))),
                  ),
                ),
              ),
            )
      ]
    ]
