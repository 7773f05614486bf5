use Rattle.std.proofs.Common.{◌≡◌, ◌∙◌, ◌+◌, ◌++◌, ◌∷◌, List, [], map, take, ap, subst, sym, arith, rules}
use Rattle.std.proofs.lemmas.List.{take_all, take_more}
use Rattle.std.specs.List.{AllZip}
use Rattle.pep508_evaluation.specs.Valuations.{valuation_of}
use Rattle.pep508_environment.specs.Environment.{EnvironmentRecord}
use Rattle.reqtable_candidates.specs.declared.candidates.Candidate.{Candidate}
use Rattle.reqtable_answer.specs.Answer.{IsAnswer}
use Rattle.reqtable_answer.specs.Rows.{row_seen}
use Rattle.reqtable_answer.specs.declared.answer.Answer.{Answer}
use Rattle.reqtable_requirements.specs.Asks.{asks_of}
use Rattle.reqtable_tests.proofs.again.answers_among.Goals as goal

-- pairs and one pair more
push_zip : {A B : Type 0} (R : A → B → Type 0) (xs : List A) (ys : List B) (x : A) (y : B) →
    AllZip R xs ys → R x y → AllZip R (xs ++ x ∷ []) (ys ++ y ∷ [])
push_zip R [] [] x y h r = (r, tt)
push_zip R [] (b ∷ ys) x y h r = absurd h
push_zip R (a ∷ xs) [] x y h r = absurd h
push_zip R (a ∷ xs) (b ∷ ys) x y h r = (h.0, push_zip R xs ys x y h.1 r)

zip_pushed : {A B : Type 0} (R : A → B → Type 0) (xs more : List A) (ys longer : List B) (x : A) (y : B) →
    more ≡ xs ++ x ∷ [] → longer ≡ ys ++ y ∷ [] → AllZip R xs ys → R x y → AllZip R more longer
zip_pushed R xs more ys longer x y e f h r =
    subst (λ l. AllZip R l longer) (sym e) (subst (λ l. AllZip R (xs ++ x ∷ []) l) (sym f) (push_zip R xs ys x y h r))

pub loop-environment-init : goal.loop-environment-init
loop-environment-init g c = record {
  serves = record {
    cases = c.requires.cases;
    packages = search rules;
    lines = λ said k. k;
    runs = λ all are. are;
  };
  are = c.in_ok-runs.ensures.are;
  told = c.what_is_told_lasts.ensures.first c.in_ok-runs.runs c.args.table.now c.in_ok-runs.ensures.are c.in_ok-runs.ensures.untold;
  candidates = c.in_ok-runs.ensures.candidates ∙ c.in_ok-ordered.ensures;
  answers = λ said admits k by. subst (λ (xs : List Answer). AllZip {A = EnvironmentRecord} (λ environment answer.
      IsAnswer admits (asks_of (valuation_of environment c.args.extras.now) said) c.args.candidates.now (map row_seen answer.rows.items)) [] xs) (sym c.new-answers.ensures.items) tt;
}

pub loop-environment-preserved : goal.loop-environment-preserved
loop-environment-preserved g c =
    let before = c.loop-environment.invariant.serves in
    let step = c.answer_among.ensures.serves in
    let environment = c.environment-item.result in
    let answer = c.in_ok-answer.answer in
    let upto : take (c.loop-environment.environment-index + 1) c.args.environments.now ≡
    take c.loop-environment.environment-index c.args.environments.now ++ environment ∷ [] =
    take_more c.args.environments.now c.loop-environment.environment-index environment c.loop-environment-test.true
    ∙ ap (λ y. take c.loop-environment.environment-index c.args.environments.now ++ y ∷ []) (sym c.environment-item.is) in
    record {
      serves = record {
        cases = step.cases;
        packages = step.packages ∙ before.packages;
        lines = λ said k. step.lines said (before.lines said k);
        runs = λ all are. step.runs all (before.runs all are);
      };
      are = c.answer_among.ensures.runs;
      told = c.answer_among.ensures.told;
      candidates = c.answer_among.ensures.candidates ∙ c.loop-environment.invariant.candidates;
      answers = λ said admits k by.
          zip_pushed _ (take c.loop-environment.environment-index c.args.environments.now) _
          c.loop-environment.answers.items _ environment answer upto c.in_ok-push.ensures.items
          (c.loop-environment.invariant.answers said admits k by)
          (subst
          (λ (cs : List Candidate). IsAnswer admits (asks_of (valuation_of environment c.args.extras.now) said) cs (map row_seen answer.rows.items))
          c.loop-environment.invariant.candidates
          (c.in_ok-answer.ensures.answered said admits (before.lines said k) by));
    }

pub returns : goal.returns
returns g c = λ said admits k by.
    let all : take c.loop-environment.environment-index c.args.environments.now ≡ c.args.environments.now =
    take_all c.loop-environment.environment-index c.args.environments.now (omega (arith, c.loop-environment-test.false)) in
    subst
    (λ (es : List EnvironmentRecord). AllZip (λ environment (answer : Answer).
    IsAnswer admits (asks_of (valuation_of environment c.args.extras.now) said) c.args.candidates.now (map row_seen answer.rows.items))
    es c.loop-environment.answers.items) all
    (c.loop-environment.invariant.answers said admits k by)
