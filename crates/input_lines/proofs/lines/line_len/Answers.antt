use Rattle.std.proofs.Common.{arith, eq-eqb}
use Rattle.std.proofs.lemmas.Bool.{eqb-true}
use Rattle.input_lines.proofs.Lemmas.{only_line}
use Rattle.input_lines.proofs.FirstLine.{first_line}
use Rattle.input_lines.proofs.lines.line_len.Goals as goal

pub returns-in-Some-clause-line : goal.returns-in-Some-clause-line
returns-in-Some-clause-line c more =
    first_line c.args.bytes.now more c.in-Some.at c.in-Some.ensures.0.high (eqb-true _ _ c.in-Some.ensures.1) (λ k h e. c.in-Some.ensures.0.before k (omega arith) h (eq-eqb _ _ e))

pub returns-in-None-clause-none : goal.returns-in-None-clause-none
returns-in-None-clause-none c l = only_line c.args.bytes.now l (λ k h e. c.in-None.ensures k (omega arith) h (eq-eqb _ _ e))
