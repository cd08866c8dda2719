use Rattle.exec_rules.specs.Machine.{machine}
use Rattle.exec_assets.proofs.Joining.{received_joinable}
use Rattle.exec_assets.proofs.arriving.receive.Goals as goal

pub hold-requires : goal.hold-requires
hold-requires g c = record {
  joinable = received_joinable (machine c.args.r.now (g.H.Host.part c.args.h.now)) (g.H.Host.part c.receive.new.self) c.args.assets.now c.in-Some.who c.args.teleport c.in-Ok.goods c.requires.ready.steady
      c.in-Ok.ensures.step.0 c.in-Ok.ensures.step.1 c.in-Ok.ensures.step.2;
}
