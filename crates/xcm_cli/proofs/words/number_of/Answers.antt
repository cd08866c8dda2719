use Rattle.std.proofs.Common.{◌∙◌, ◌<◌, ◌^◌, sym, rules}
use Rattle.xcm_cli.proofs.Numbers.{number_is, unparsed, other_decimal, unlike, alike}
use Rattle.xcm_cli.proofs.words.number_of.Goals as goal

pub returns-in_default : goal.returns-in_default
returns-in_default c = sym (unparsed c.args.word.now c.parse.result _ c.parse.ensures.value.0 c.in_default.is)

pub returns-then-ne : goal.returns-then-ne
returns-then-ne c =
    sym (other_decimal c.args.word.now c.parse.result c.in-Ok.number c.parse.ensures.value.0 c.in-Ok.is
    (λ e. unlike c.as_str.result.now c.args.word.now c.if-ne.ensures (c.as_str.ensures.value ∙ c.in_ok-text.ensures.ok ∙ sym e)))

pub returns : goal.returns
returns c =
    let small : c.in-Ok.number < 2 ^ 64 = search rules in
    sym (number_is c.args.word.now c.in-Ok.number small (sym (alike c.as_str.result.now c.args.word.now c.if-ne.ensures) ∙ c.as_str.ensures.value ∙ c.in_ok-text.ensures.ok))
