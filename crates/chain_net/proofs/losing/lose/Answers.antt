use Rattle.std.proofs.Common.{◌∙◌, ap, sym}
use Rattle.chain_state.specs.PartOf.{part_of}
use Rattle.network_steps.specs.Acting.{lost_of, booking_lost}
use Rattle.chain_net.proofs.Losses.{lost_shipment, only_away}
use Rattle.chain_net.proofs.losing.lose.Goals as goal

pub returns-in-Away : goal.returns-in-Away
returns-in-Away c =
    c.lose.ensures.lost ∙ lost_shipment (part_of c.args.sender.now) c.in-Away.shipment.way c.in-Away.shipment.units
    ∙ ap (λ left. booking_lost (lost_of left) (part_of c.args.sender.now)) (sym c.in-Away.is)

pub returns : goal.returns
returns c = only_away (part_of c.args.sender.now) c.args.left c.in_default.not-Away
