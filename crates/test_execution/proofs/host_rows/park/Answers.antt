use Rattle.std.proofs.Common.{◌≡◌, length, ap, ◌∙◌, arith}
use Rattle.exec_base.specs.Part.{ChainPart}
use Rattle.exec_base.specs.Host.{withdrawn}
use Rattle.test_execution.proofs.host_rows.park.Goals as goal

pub park-requires : goal.park-requires
unfolding withdrawn
park-requires c =
    let none : length c.withdraw.new.self.parked.items ≡ 0 = ap (λ (p : ChainPart). length p.parked) c.in_ok-goods.ensures.step.2 ∙ ap length c.requires in
    record { few = omega (arith, none) }
