-- Lemmas on the definitions of `specs/Reasons.antt`: what proofs cite.
use Rattle.std.specs.Prelude.{⊤}
use Rattle.exec_rules.specs.HostCalls.{MachineCall}

-- what the end of a run may ask: its last refund, the line that tells of it, settlement, and what is held is trapped or put aside; no account
-- is charged, and nothing is sent
abbrev pub ComesAtEnd : MachineCall → Type 0
ComesAtEnd (MachineCall.Check ok e) = ⊤
ComesAtEnd (MachineCall.Take filter) = ⊤
ComesAtEnd MachineCall.Join = ⊤
ComesAtEnd (MachineCall.Refund w) = ⊤
ComesAtEnd (MachineCall.Answer from query) = ⊤
ComesAtEnd MachineCall.TakeFee = ⊤
ComesAtEnd MachineCall.KeepFee = ⊤
ComesAtEnd MachineCall.Park = ⊤
ComesAtEnd MachineCall.Empty = ⊤
ComesAtEnd (MachineCall.Tell e) = ⊤
ComesAtEnd MachineCall.Settle = ⊤
ComesAtEnd (MachineCall.Trap who) = ⊤
ComesAtEnd _ = ⊥
