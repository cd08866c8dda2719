use Rattle.std.specs.Prelude.{[]}
use Rattle.chain_net.specs.Nets.{world_of}
use Rattle.report_blocks.proofs.Listed.{KeepsSettings}
use Rattle.report_blocks.proofs.Keeping.{KeepsOthers, kept_deliver, whatever}
use Rattle.report_blocks.proofs.marked_steps.deliver_step.Goals as goal

pub returns-clause-kept : goal.returns-clause-kept
returns-clause-kept c =
    let says = c.law_of_constant_settings.ensures in
    let keeps : KeepsSettings = record { exec = says.exec; deliver = says.deliver; claim = says.claim } in
    let still = c.law_of_no_change_elsewhere.ensures in
    let others : KeepsOthers = record { exec = still.exec_elsewhere; deliver = still.deliver_elsewhere; claim = still.claim_elsewhere } in
    let w = world_of c.args.net.now in
    whatever c.step_text.result
    (kept_deliver keeps others [] c.mark-2.new.kept w (world_of c.deliver.new.self) (c.mark-2.ensures.kept w (c.mark.ensures.kept w c.requires.kept)) c.args.from c.args.to c.in_ok-answer.ensures.world
    (c.mark-2.ensures.others _ c.mark.ensures.marked) c.mark-2.ensures.marked)
