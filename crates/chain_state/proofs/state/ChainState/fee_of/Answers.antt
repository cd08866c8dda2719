use Rattle.std.proofs.Common.{◌≡◌, sym, ap, ◌∙◌}
use Rattle.std.specs.Prelude.{Some}
use Rattle.std.specs.Option.{option_copied, option_map}
use Rattle.asset_lists.specs.declared.units.Asset.{Asset}
use Rattle.exec_base.specs.Sending.{leads_to_location, channel_to_location}
use Rattle.exec_base.specs.Host.{is_price}
use Rattle.chain_queues.specs.Queues.{outgoing_of}
use Rattle.network_steps.specs.Tests.{fee_is_price, has_price}
use Rattle.chain_state.specs.PartOf.{part_of}
use Rattle.chain_state.proofs.Found.{all_found}
use Rattle.chain_state.specs.Known.{prices_there}
use Rattle.chain_state.proofs.state.ChainState.fee_of.Goals as goal

pub returns-in-Some-clause-price : goal.returns-in-Some-clause-price
returns-in-Some-clause-price c =
    let f = c.args.self.now in
    let p = part_of f in
    let found : channel_to_location p c.args.dest.now ≡ Some (outgoing_of c.in_ok-queue.queue.now) = sym c.queue_to.ensures ∙ ap (λ r. option_map outgoing_of (option_copied r)) c.in_ok-queue.was in
    let priced = all_found has_price (leads_to_location p c.args.dest.now) p.channels (outgoing_of c.in_ok-queue.queue.now) (prices_there f) found in
    ap (λ (a : Asset). is_price a.fun) c.copy.ensures ∙ ap fee_is_price (sym c.in-Some.is) ∙ priced
