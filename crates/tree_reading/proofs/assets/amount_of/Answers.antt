use Rattle.std.proofs.Common.{◌∙◌, ap, arith}
use Rattle.std.specs.Result.{result_ok}
use Rattle.std.proofs.lemmas.Fmt.{parse-decimal_wide}
use Rattle.tree_reading.proofs.assets.amount_of.Goals as goal

pub returns : goal.returns
returns c = λ n few e. c.ok.ensures.value ∙ ap result_ok (parse-decimal_wide 128 n c.args.text.now c.parse.result few (omega (arith, few)) e c.parse.ensures.value.0)
