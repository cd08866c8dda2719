use Rattle.std.proofs.Common.{◌∙◌, ◌+◌, ap, arith}
use Rattle.locations.specs.Chains.{path_of}
use Rattle.asset_bundles.specs.Totals.{wide_value}
use Rattle.law_coherence.specs.UniversalAssets.{every}
use Rattle.network_coherence.specs.Balances.{is_held_unit_of}
use Rattle.network_coherence.proofs.Totals.{sum_passed}
use Rattle.network_coherence.proofs.balances.sum_of.Goals as goal

pub loop-balance-preserved : goal.loop-balance-preserved
loop-balance-preserved c = record {
  value = sum_passed (is_held_unit_of c.args.who c.args.context.now (path_of c.args.home.now c.args.row.now.id, c.args.row.now.kind) every) c.args.balances.now c.loop-balance.balance-index c.balance-item.result
      (wide_value c.loop-balance.sum) _ c.loop-balance-test.true c.balance-item.is c.loop-balance.invariant.value (c.plus-sum.ensures ∙ ap (λ n. wide_value c.loop-balance.sum + n) c.share.ensures);
  few = let so_far = c.loop-balance.invariant.few in let small = c.share.type_inv in let more = c.plus-sum.ensures in omega (arith, so_far, small, more);
}

pub plus-sum-requires : goal.plus-sum-requires
plus-sum-requires c =
    let few = c.loop-balance.invariant.few in
    let within = c.loop-balance-test.true in
    let small = c.share.type_inv in
    omega (arith, few, within, small)
