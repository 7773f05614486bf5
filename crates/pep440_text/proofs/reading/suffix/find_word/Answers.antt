use Rattle.std.proofs.Common.{◌≡◌, [], ◌∙◌, drop, arith}
use Rattle.std.proofs.lemmas.Grind.{common_steps}
use Rattle.pep440_text.proofs.Words.{word_stands, word_lacks, no_word}
use Rattle.pep440_text.proofs.reading.suffix.find_word.Goals as goal

pub returns-in-Some : goal.returns-in-Some
returns-in-Some g c =
    word_stands c.args.words.now c.loop-word.word-index c.loop-word-item.result _ c.args.bytes.now c.in-Some.rest.now c.loop-word-test.true c.loop-word-item.is c.as_bytes.ensures.value c.in-Some.ensures
    ∙ c.loop-word.invariant

pub loop-word-preserved : goal.loop-word-preserved
loop-word-preserved g c =
    word_lacks c.args.words.now c.loop-word.word-index c.loop-word-item.result _ c.args.bytes.now c.loop-word-test.true c.loop-word-item.is c.as_bytes.ensures.value c.in_default.ensures
    ∙ c.loop-word.invariant

pub returns : goal.returns
returns g c =
    let none : drop c.loop-word.word-index c.args.words.now ≡ [] = grind (arith, common_steps) in
    no_word (drop c.loop-word.word-index c.args.words.now) c.args.bytes.now none ∙ c.loop-word.invariant
