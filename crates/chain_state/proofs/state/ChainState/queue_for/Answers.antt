use Rattle.std.proofs.Common.{sym, ap, ◌∙◌}
use Rattle.std.specs.Prelude.{find}
use Rattle.std.specs.Option.{option_map}
use Rattle.chain_queues.specs.Queues.{leads_to, outgoing_of}
use Rattle.chain_state.proofs.state.ChainState.queue_for.Goals as goal
use Rattle.plain_lists.proofs.Lemmas.Facts.{find_mapped as find_map}

pub returns : goal.returns
returns c =
    ap (option_map outgoing_of) c.queue_named.ensures ∙ sym (find_map outgoing_of (leads_to c.args.to) c.channels.result.now) ∙ ap (find (leads_to c.args.to)) c.channels.ensures
