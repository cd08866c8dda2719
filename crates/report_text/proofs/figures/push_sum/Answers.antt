use Rattle.std.proofs.Common.{◌∙◌, ◌++◌, ◌<◌, ◌^◌, ap, rules}
use Rattle.std.specs.Prelude.{string_bytes}
use Rattle.std.proofs.lemmas.Result.{on_ok_weaker}
use Rattle.report_text.proofs.Totals.{total_text_is}
use Rattle.report_text.proofs.figures.push_sum.Goals as goal

pub returns : goal.returns
returns c =
    let low : c.args.total.low < 2 ^ 128 = search rules in
    on_ok_weaker c.push_total.result
    (λ adds n is. adds ∙ ap (λ t. string_bytes c.args.text.now ++ t) (total_text_is c.args.total n low is))
    c.push_total.ensures
