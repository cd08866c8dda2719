use Rattle.asset_bundles.specs.Books.{most_burned}
use Rattle.asset_bundles.specs.Totals.{total_value}
use Rattle.exec_base.specs.Part.{ChainPart}
use Rattle.locations.specs.Chains.{path_of}
use Rattle.chain_state.specs.PartOf.{part_of}
use Rattle.supply_audit.specs.Places.{over_rows, figure}
use Rattle.supply_audit.specs.Supply.{if_home}
use Rattle.supply_audit.proofs.Saturating.{more}
use Rattle.supply_audit.proofs.audit.at_homes.Goals as goal

pub loop-chain-preserved : goal.loop-chain-preserved
loop-chain-preserved c =
    more part_of (if_home (λ (p : ChainPart). over_rows p (path_of c.args.home.now c.args.id.now, c.args.kind) (figure c.args.which p)) (path_of c.args.home.now c.args.id.now, c.args.kind))
    c.args.chains.now c.loop-chain.chain-index c.chain-item.result most_burned (total_value c.loop-chain.total) (total_value c.if_home.result) _
    c.loop-chain-test.true c.chain-item.is c.loop-chain.invariant c.if_home.ensures c.sum-total.ensures
