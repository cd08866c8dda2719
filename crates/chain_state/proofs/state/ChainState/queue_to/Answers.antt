use Rattle.std.proofs.Common.{sym, ap, ◌∙◌}
use Rattle.std.specs.Prelude.{find}
use Rattle.std.specs.Option.{option_map}
use Rattle.exec_base.specs.Sending.{leads_to_location}
use Rattle.chain_queues.specs.Queues.{outgoing_of}
use Rattle.chain_state.specs.PartOf.{part_of}
use Rattle.chain_state.proofs.state.ChainState.queue_to.Goals as goal
use Rattle.plain_lists.proofs.Lemmas.Facts.{find_mapped as find_map}

pub returns : goal.returns
returns c =
    let p = part_of c.args.self.now in
    ap (option_map outgoing_of) c.queue_at.ensures ∙ sym (find_map outgoing_of (leads_to_location p c.args.dest.now) c.channels.result.now) ∙ ap (find (leads_to_location p c.args.dest.now)) c.channels.ensures
