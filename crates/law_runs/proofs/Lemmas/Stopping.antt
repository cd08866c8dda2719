-- Lemmas: where a run is abandoned, what is held is parked. A reader may skip this file.
use Rattle.exec_rules.specs.Machine.{Machine}
use Rattle.exec_rules.specs.Outcome.{abandoned}
use Rattle.law_runs.specs.Sums.{none}
use Rattle.law_runs.proofs.Lemmas.Sums.{nobody, Call}
use Rattle.law_runs.proofs.Lemmas.Calls.{parking_goods}
use Rattle.law_runs.specs.Safety.{hold}

-- the holding is parked where a run is abandoned
pub abandoned_call : (m : Machine) → Call nobody (hold m) none m.part (abandoned m.regs m.part)
abandoned_call m = parking_goods m.part m.regs.holding
