use Rattle.std.proofs.Common.{◌≡◌, ℕ, ◌^◌, ◌<◌, ◌≤◌, List, Result, Ok, arith}
use Rattle.std.specs.Prelude.{decimal}
use Rattle.std.specs.Str.Parse.{ParsesUnsigned}
use Rattle.std.proofs.lemmas.Fmt.{parse-decimal_wide}
use Rattle.tree_reading.proofs.numbers.number_of.Goals as goal

parsed : {E : Type 0} (n most : ℕ) (text : List ℕ) (r : Result ℕ E) → ParsesUnsigned 64 10 text r → n ≤ most → most < 2 ^ 64 → text ≡ decimal n → r ≡ Ok n
parsed n most text r p few small e = parse-decimal_wide 64 n text r (omega (arith, few, small)) (omega (arith, few, small)) e p

pub returns-in-Ok : goal.returns-in-Ok
returns-in-Ok c = λ n few e. let h = parsed n c.args.most c.args.text.now c.parse.result c.parse.ensures.value.0 few (omega arith) e in cc (h, c.in-Ok.is)

pub returns-in_default : goal.returns-in_default
returns-in_default c = λ n few e.
    let h = parsed n c.args.most c.args.text.now c.parse.result c.parse.ensures.value.0 few (omega arith) e in
    let same : c.in-Ok.number ≡ n = cc (h, c.in-Ok.is) in
    absurd (omega (arith, same, few, c.if-number-most.false))

pub returns-in_default-2 : goal.returns-in_default-2
returns-in_default-2 c = λ n few e.
    let h = parsed n c.args.most c.args.text.now c.parse.result c.parse.ensures.value.0 few (omega arith) e in
    absurd (cc (h, c.in_default.is))
