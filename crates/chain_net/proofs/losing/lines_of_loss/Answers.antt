use Rattle.std.proofs.Common.{◌∙◌, ap, sym}
use Rattle.asset_bundles.specs.declared.shipment.Way.{Way}
use Rattle.chain_state.specs.PartOf.{part_of}
use Rattle.network_steps.specs.Acting.{lost_by, lost_of, lost_lines}
use Rattle.chain_net.proofs.Losses.{nothing_told, only_away_told}
use Rattle.chain_net.proofs.losing.lines_of_loss.Goals as goal

pub returns-in-Withdrawal : goal.returns-in-Withdrawal
returns-in-Withdrawal c =
    let p = part_of c.args.sender.now in
    c.new.ensures.items ∙ nothing_told p
    ∙ ap (λ (way : Way). lost_lines (lost_by way c.in-Away.shipment.units) p) (sym c.in-Withdrawal.is ∙ c.way.ensures)
    ∙ ap (λ left. lost_lines (lost_of left) p) (sym c.in-Away.is)

pub returns-in_default : goal.returns-in_default
returns-in_default c = c.new-in_default.ensures.items ∙ only_away_told (part_of c.args.sender.now) c.args.left.now c.in_default.not-Away
