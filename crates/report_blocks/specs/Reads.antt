-- What is read of a network for its report. This project's own rule.
use Rattle.std.specs.Prelude.{ℕ, List, flat_map}
use Rattle.std.specs.Option.{option_map}
use Rattle.law_coherence.specs.Causes as causes
use Rattle.law_coherence.specs.Causes.{Cause, first_cause}
use Rattle.network_spec.specs.declared.network.NetworkSpec.{NetworkSpec}
use Rattle.network_steps.specs.Worlds.{World, parts_of}
use Rattle.network_steps.specs.Steps.{Link}
use Rattle.network_steps.specs.Genesis.{entries_of}
use Rattle.network_coherence.specs.declared.faults.Incoherent.{Incoherent}
use Rattle.network_coherence.specs.declared.faults.IncoherentCause.{IncoherentCause}
use Rattle.network_coherence.specs.declared.faults.IncoherentCause.TheVariants.{PathTwice, IdNotNormal, PartnerUnlisted, ReserveUnlisted, InstanceTwice, NotBacked, CheckingShort}
use Rattle.step_text.specs.Lines.{opening_line}
use Rattle.step_text.specs.Blocks.{balances_of, chain_traps_text, queues_of}
use Rattle.report_text.specs.Block as supply

-- the name of a cause
abbrev pub incoherent_cause : Cause → IncoherentCause
incoherent_cause Cause.PathTwice = PathTwice
incoherent_cause Cause.IdNotNormal = IdNotNormal
incoherent_cause Cause.PartnerUnlisted = PartnerUnlisted
incoherent_cause Cause.ReserveUnlisted = ReserveUnlisted
incoherent_cause Cause.InstanceTwice = InstanceTwice
incoherent_cause Cause.NotBacked = NotBacked
incoherent_cause Cause.CheckingShort = CheckingShort

abbrev pub told_of : causes.Incoherent → Incoherent
told_of found = record { cause = incoherent_cause found.0; first = found.1; second = found.2 }

-- whether the network is coherent when it opens, or else the first cause
unfoldable pub coherence_line : NetworkSpec → List ℕ
coherence_line spec = opening_line (option_map told_of (first_cause (entries_of spec)))

-- chain by chain, what accounts hold, the checking accounts, and the locks
unfoldable pub balances_block : World → List ℕ
balances_block w = flat_map balances_of (parts_of w)

-- chain by chain, what is trapped
unfoldable pub traps_block : World → List ℕ
traps_block w = flat_map chain_traps_text (parts_of w)

-- channel by channel in the document's order, what waits
unfoldable pub queues_block : List Link → World → List ℕ
queues_block order w = queues_of order (parts_of w)

-- what the world has of each asset that is native somewhere, and what backs each derivative
unfoldable pub world_supply_block : World → List ℕ
world_supply_block w = supply.supply_block (parts_of w)
