use Rattle.std.proofs.Common.{sym, ap, ◌∙◌, inr}
use Rattle.exec_base.specs.Part.{ChainPart}
use Rattle.exec_base.specs.Host.{fee_to, fee_drawn}
use Rattle.test_execution.proofs.host_rows.charge.Goals as goal

pub hold_fee-requires-clause-slot : goal.hold_fee-requires-clause-slot
unfolding fee_drawn
hold_fee-requires-clause-slot c = ap (λ (p : ChainPart). p.fee_slot) c.in_ok-goods.ensures.step.2 ∙ c.requires

pub hold_fee-requires-clause-fee : goal.hold_fee-requires-clause-fee
unfolding fee_drawn
hold_fee-requires-clause-fee c =
    inr (c.para.result, c.in-Some.fee, ap (λ (p : ChainPart). fee_to p c.para.result) c.in_ok-goods.ensures.step.2 ∙ sym c.fee_of.ensures.fee ∙ c.in-Some.is, c.in_ok-goods.ensures.step.1)
