use Rattle.std.proofs.lemmas.Result.{on_ok_weaker}
use Rattle.network_steps.specs.Genesis.{order_of}
use Rattle.chain_net.specs.Nets.{world_of, spec_of}
use Rattle.report_blocks.proofs.Listed.{KeepsSettings}
use Rattle.report_blocks.proofs.Keeping.{kept_drain}
use Rattle.report_blocks.proofs.marked_steps.drain_step.Goals as goal

pub returns-clause-kept : goal.returns-clause-kept
returns-clause-kept c =
    let says = c.law_of_constant_settings.ensures in
    let keeps : KeepsSettings = record { exec = says.exec; deliver = says.deliver; claim = says.claim } in
    let w = world_of c.args.net.now in
    on_ok_weaker c.drained.result
    (λ is. kept_drain keeps (order_of (spec_of c.args.net.now)) c.mark_all.new.kept w (world_of c.drained.new.net) (c.mark_all.ensures.kept w c.requires.kept) is c.mark_all.ensures.marked)
    c.drained.ensures.world
