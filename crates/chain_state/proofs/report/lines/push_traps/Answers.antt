use Rattle.std.proofs.Common.{◌-◌, ◌+◌, ◌++◌, [], ◌∷◌, append_assoc, sym, ap, ◌∙◌, arith}
use Rattle.asset_bundles.specs.Traps.{number_after}
use Rattle.exec_base.specs.declared.event.Event.{Event}
use Rattle.chain_state.specs.Lines.{trap_events_from}
use Rattle.chain_state.proofs.BurnedLines.{numbered_step}
use Rattle.chain_state.proofs.report.lines.push_traps.Goals as goal

pub loop-preserved : goal.loop-preserved
loop-preserved c =
    let n = c.args.count in
    let i = c.loop.counter in
    let x = c.loop.number in
    let test = c.loop-test.true in
    let inv = c.loop.invariant in
    let room = inv.room in
    let len = c.push_reserved.ensures.len in
    let capacity = c.push_reserved.ensures.capacity in
    record {
      within = omega (arith, test);
      room = omega (arith, test, room, len, capacity);
      told = (λ j. c.push_reserved.ensures.items j ++ trap_events_from (n - (i + 1)) (c.saturating_add-number.ensures j))
          ∙ append_assoc c.loop.events.items (Event.Trapped x ∷ []) (trap_events_from (n - (i + 1)) (number_after x))
          ∙ ap (λ ys. c.loop.events.items ++ ys) (sym (numbered_step n i x test)) ∙ inv.told;
    }
