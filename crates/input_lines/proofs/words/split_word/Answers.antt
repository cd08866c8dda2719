use Rattle.std.proofs.Common.{arith, eq-eqb}
use Rattle.std.proofs.lemmas.Bool.{eqb-true}
use Rattle.input_lines.proofs.FirstWord.{split_at, no_split}
use Rattle.input_lines.proofs.words.split_word.Goals as goal

pub returns-in-Some : goal.returns-in-Some
returns-in-Some c =
    split_at c.args.words.now c.in-Some.at c.in-Some.ensures.0.high (eqb-true _ _ c.in-Some.ensures.1)
    (λ k h e. c.in-Some.ensures.0.before k (omega arith) h (eq-eqb _ _ e))

pub returns-in-None : goal.returns-in-None
returns-in-None c = no_split c.args.words.now (λ k h e. c.in-None.ensures k (omega arith) h (eq-eqb _ _ e))
