use Rattle.std.proofs.Common.{◌∙◌, Some, ap}
use Rattle.std.specs.List.{list_all}
use Rattle.law_coherence.specs.Networks.{asset_of_row}
use Rattle.chain_state.specs.PartOf.{part_of}
use Rattle.supply_audit.specs.Places.{is_idle, chain_table}
use Rattle.supply_audit.proofs.Idle.{nothing_sent}
use Rattle.supply_audit.proofs.audit.sent_of_row.Goals as goal

pub returns-then-are_idle : goal.returns-then-are_idle
returns-then-are_idle c =
    c.none.ensures
    ∙ nothing_sent (part_of c.args.at.now) (asset_of_row (chain_table (part_of c.args.here.now)) c.args.row.now) c.args.what (Some c.args.to) c.are_idle.result
    (c.are_idle.ensures ∙ ap (list_all (is_idle (Some c.args.to))) c.queues.ensures.channels) c.if-are_idle.true
