use Rattle.std.proofs.Common.{◌≡◌, take}
use Rattle.chain_state.proofs.opening.copies.copied_pallets.Given as goal

abbrev pub invariant-loop-pallet : goal.invariant-loop-pallet
invariant-loop-pallet l = l.copy.items ≡ take l.pallet-index l.pallets
