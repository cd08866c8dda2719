use Rattle.std.proofs.Common.{ap}
use Rattle.exec_base.specs.Part.{ChainPart}
use Rattle.exec_base.specs.Host.{fee_kept}
use Rattle.test_execution.proofs.host_rows.fees.Goals as goal

pub charge-requires-2 : goal.charge-requires-2
unfolding fee_kept
charge-requires-2 c = ap (λ (p : ChainPart). p.fee_slot) c.keep_fee.ensures.step
