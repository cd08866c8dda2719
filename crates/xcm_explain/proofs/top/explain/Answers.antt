use Rattle.std.proofs.Common.{◌≡◌, ◌<◌, length, arith}
use Rattle.std.proofs.lemmas.Bool.Decides.{nat_tests}
use Rattle.xcm_explain.proofs.Headline.{served_first, answer_words, answer_usage}
use Rattle.xcm_explain.proofs.top.explain.Goals as goal

pub returns-then-is_empty-clause-answer : goal.returns-then-is_empty-clause-answer
returns-then-is_empty-clause-answer g c =
    let none : length c.args.words.now ≡ 0 = grind (arith, nat_tests) in
    answer_words _ _ _ _ _ _ none (served_first c.new.result _ _ _ _ _ c.new.ensures.lines c.new.ensures.taken c.serve.ensures.run)

pub returns-then-is_empty-clause-front : goal.returns-then-is_empty-clause-front
returns-then-is_empty-clause-front g c none = served_first c.new.result _ _ _ _ _ c.new.ensures.lines c.new.ensures.taken c.serve.ensures.run

pub returns-clause-answer : goal.returns-clause-answer
returns-clause-answer g c =
    let some : 0 < length c.args.words.now = grind (arith, nat_tests) in
    answer_usage _ _ _ _ _ some c.write_reply.ensures.run
