use Rattle.std.proofs.Common.{◌≡◌, ◌∙◌, Some, None}
use Rattle.chain_queues.specs.Queues.{outgoing_of}
use Rattle.chain_state.specs.PartOf.{part_of}
use Rattle.report_text.proofs.Links.{queue_is, text_is, text_at, lines_are}
use Rattle.report_text.proofs.queues.queue_between.Goals as goal

pub returns-in-None : goal.returns-in-None
returns-in-None c = text_is part_of c.args.chains.now c.args.from c.args.to None c.in-None.ensures

pub returns-in-Some : goal.returns-in-Some
returns-in-Some c =
    let chain = c.in-Some.chain.now in
    lines_are _ _ c.law_of_queue_lines.ensures ∙ text_at part_of c.args.chains.now c.args.from c.args.to chain _ c.in-Some.ensures (queue_is c.channels.result.now (part_of chain).channels c.args.to _ (c.channels.ensures ∙ c.queues.ensures.channels) c.queue_named.ensures)
