use Rattle.std.proofs.Common.{◌≡◌, ◌∙◌, ap, sym, true}
use Rattle.std.specs.List.{list_all}
use Rattle.chain_state.specs.PartOf.{part_of}
use Rattle.supply_audit.specs.Places.{is_idle}
use Rattle.supply_audit.proofs.Found.{none_sent_to}
use Rattle.supply_audit.proofs.row_sums.row_sums.Goals as goal

pub returns-then-are_idle : goal.returns-then-are_idle
returns-then-are_idle c =
    let p = part_of c.args.chain.now in
    let idle : list_all (is_idle c.args.to) p.channels ≡ true = sym (ap (list_all (is_idle c.args.to)) c.queues.ensures.channels) ∙ sym c.are_idle.ensures ∙ c.if-are_idle.true in
    none_sent_to c.args.what c.args.to p c.new.result.items c.new.ensures.items idle
