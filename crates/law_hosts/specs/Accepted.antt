-- What an accepted instruction conserves: what is on the chain, burned and held together, but for what it makes. This project's own
-- vocabulary.
use Rattle.std.specs.Prelude.{◌≡◌, ◌⊎◌, ℕ, ◌+◌, ◌≤◌, Bool, [], ◌∷◌, Some, ⊤}
use Rattle.std.specs.Ordering.{eq_by_cmp}
use Rattle.amounts.specs.Amounts.{total, empty}
use Rattle.locations.specs.declared.relative.Location.{Location}
use Rattle.asset_lists.specs.declared.units.Asset.{Asset}
use Rattle.asset_lists.specs.Listed.{Listed, listed_cmp}
use Rattle.asset_lists.specs.Lists.{IsAssetList}
use Rattle.asset_bundles.specs.Bundles.{Bundle, bundle_of}
use Rattle.asset_bundles.specs.Books.{is_unit_where, is_unit_of, most_burned}
use Rattle.xcm_program.specs.declared.instruction.Instruction.{Instruction}
use Rattle.xcm_program.specs.declared.instruction.Instruction.TheOpen.{Instruction-F}
use Rattle.exec_base.specs.Part.{ChainPart}
use Rattle.exec_base.specs.Host.{fee_to}
use Rattle.exec_rules.specs.Machine.{Machine}
use Rattle.law_hosts.specs.Wholes.{whole}

-- with what is held
abbrev pub whole_of : (Listed → Bool) → Machine → ℕ
whole_of test m = whole test m.part + total (is_unit_where test) m.regs.holding

-- what an instruction makes: only two make anything
abbrev pub made_bundle : Instruction-F Instruction → Bundle
made_bundle (Instruction-F.ReserveAssetDeposited list) = bundle_of list
made_bundle (Instruction-F.ReceiveTeleportedAsset list) = bundle_of list
made_bundle _ = empty

-- what was made is there too, or nothing was made yet
abbrev pub IsMadeOrNothing : Bundle → ℕ → ℕ → (Listed → Bool) → Type 0
IsMadeOrNothing goods before now test = (now ≡ before) ⊎ (now ≡ before + total (is_unit_where test) goods)

-- the lists that leave accounts are in their order, as the type of lists says
abbrev pub HasWithdrawalList : Instruction-F Instruction → Type 0
HasWithdrawalList (Instruction-F.WithdrawAsset list) = IsAssetList list
HasWithdrawalList (Instruction-F.TransferAsset list who) = IsAssetList list
HasWithdrawalList (Instruction-F.TransferReserveAsset list dest xcm) = IsAssetList list
HasWithdrawalList _ = ⊤

-- the same of each delivery fee
abbrev pub HasFeeLists : ChainPart → Type 0
HasFeeLists p = (dest : Location) (fee : Asset) → fee_to p dest ≡ Some fee → IsAssetList (fee ∷ [])

-- of no listed asset is there more than a sum of burns may have
abbrev pub HasRoomFor : Bundle → Machine → Type 0
HasRoomFor goods m = (k : Listed) → whole_of (eq_by_cmp listed_cmp k) m + total (is_unit_of k) goods ≤ most_burned
