use Rattle.std.proofs.Common.{ap, ◌∙◌}
use Rattle.std.proofs.Math.ListN.{set}
use Rattle.operands.specs.declared.weight.WeightLimit.TheVariants.{Limited}
use Rattle.barriers.proofs.Purchases.{limit_set}
use Rattle.barriers.proofs.paid.set_limit.Goals as goal

pub returns : goal.returns
returns c =
    c.replace.ensures.list
    ∙ ap (λ p. set p c.args.index c.with_limit.result) c.replace-bought.ensures.list
    ∙ limit_set (Limited c.args.weight) c.args.program.now c.args.index c.replace-bought.result _ c.with_limit.result c.replace-bought.ensures.old c.with_limit.ensures
