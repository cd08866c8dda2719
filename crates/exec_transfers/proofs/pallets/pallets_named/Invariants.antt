use Rattle.std.proofs.Common.{◌≡◌, take}
use Rattle.exec_transfers.specs.Naming.{pallets_named}
use Rattle.exec_transfers.proofs.pallets.pallets_named.Given as goal

abbrev pub invariant-loop-pallet : goal.invariant-loop-pallet
invariant-loop-pallet l = l.found.items ≡ pallets_named (take l.pallet-index l.pallets) l.name
