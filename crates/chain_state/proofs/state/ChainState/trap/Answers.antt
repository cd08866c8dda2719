use Rattle.std.proofs.Common.{◌++◌, sym, ap, ◌∙◌}
use Rattle.amounts.specs.Amounts.{rows}
use Rattle.exec_base.specs.Host.{trapped}
use Rattle.chain_state.specs.PartOf.{part_of}
use Rattle.chain_state.specs.Lines.{trap_events_from}
use Rattle.chain_state.proofs.BurnedLines.{lines_numbered}
use Rattle.chain_state.proofs.state.ChainState.trap.Goals as goal

pub returns : goal.returns
unfolding trapped
returns c =
    let p = part_of c.args.self.now in
    let events = c.push_traps.ensures ∙ (λ i. c.reserve.ensures.items i ++ trap_events_from (c.pieces-count.ensures i) (c.in_ok-first.ensures.0 i))
    ∙ ap (λ ls. p.events ++ ls) (sym (lines_numbered _ p.traps.next c.args.origin.now (rows c.args.goods))) in
    record { step = λ i. record p { traps = c.in_ok-first.ensures.1 i; events = events i } }
