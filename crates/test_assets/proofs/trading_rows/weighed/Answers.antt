use Rattle.std.proofs.Common.{arith, ap}
use Rattle.operands.specs.declared.weight.Weight.{Weight}
use Rattle.test_assets.proofs.trading_rows.weighed.Goals as goal

pub weigh_rest-requires-clause-short : goal.weigh_rest-requires-clause-short
weigh_rest-requires-clause-short c =
    rw c.items.ensures (omega (arith, (c.requires.light (record { unit = c.weight.result; max_instructions = 1 })).0, ap (λ (w : Weight). w.ref_time) c.weight.ensures))

pub weigh_rest-requires-clause-small : goal.weigh_rest-requires-clause-small
weigh_rest-requires-clause-small c =
    rw c.items.ensures (omega (arith, (c.requires.light (record { unit = c.weight.result; max_instructions = 1 })).1, ap (λ (w : Weight). w.proof_size) c.weight.ensures))
