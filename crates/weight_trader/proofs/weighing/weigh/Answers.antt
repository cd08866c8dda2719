use Rattle.std.proofs.Common.{ap, sym, ◌∙◌}
use Rattle.xcm_program.specs.Weights.{weight_of}
use Rattle.weight_trader.proofs.Computed.{weighed, too_many, too_long, too_large}
use Rattle.weight_trader.proofs.weighing.weigh.Goals as goal

pub returns-then-sums-rule : goal.returns-then-sums-rule
returns-then-sums-rule c = ap (weight_of c.args.rule.now) (sym c.items.ensures) ∙ too_many c.args.rule.now _ _ _ _ c.sum_up-sums.ensures c.if-sums-rule.true

pub returns-in_default : goal.returns-in_default
returns-in_default c = ap (weight_of c.args.rule.now) (sym c.items.ensures) ∙ too_long c.args.rule.now _ _ _ _ c.sum_up-sums.ensures c.in_default.ensures

pub returns-in_default-try_from : goal.returns-in_default-try_from
returns-in_default-try_from c = ap (weight_of c.args.rule.now) (sym c.items.ensures) ∙ too_large c.args.rule.now _ _ _ _ c.sum_up-sums.ensures c.in_default-try_from.ensures

pub returns : goal.returns
returns c =
    ap (weight_of c.args.rule.now) (sym c.items.ensures) ∙ weighed c.args.rule.now _ _ _ _ c.sum_up-sums.ensures c.in-Ok.ref_time c.in-Ok-try_from.proof_size c.if-sums-rule.false
    c.in-Ok.ensures.0 c.in-Ok-try_from.ensures.0 c.in-Ok.ensures.1 c.in-Ok-try_from.ensures.1
