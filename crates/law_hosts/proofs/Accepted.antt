-- What an accepted instruction conserves, instruction by instruction.
use Rattle.std.proofs.Common.{◌≡◌, ◌⊎◌, inl, inr, ℕ, ◌+◌, Bool, true, false, List, Option, Some, None, refl, ap, ◌∙◌, arith}
use Rattle.amounts.specs.Amounts.{total, empty}
use Rattle.amounts.proofs.Lemmas.AmountLaws.{total-empty}
use Rattle.locations.specs.declared.relative.Location.{Location}
use Rattle.asset_lists.specs.declared.units.Asset.{Asset}
use Rattle.asset_lists.specs.Listed.{Listed}
use Rattle.asset_lists.specs.Units.{unit_cmp}
use Rattle.asset_bundles.specs.Bundles.{Bundle, bundle_of}
use Rattle.asset_bundles.proofs.Lemmas.Bundles.{unit_keys}
use Rattle.asset_bundles.specs.Books.{is_unit_where}
use Rattle.weight_trader.specs.Laws.{MovesAreKept}
use Rattle.xcm_program.specs.declared.instruction.Instruction.{Instruction, out-Instruction}
use Rattle.xcm_program.specs.declared.instruction.Instruction.TheOpen.{Instruction-F}
use Rattle.exec_base.specs.Part.{ChainPart}
use Rattle.exec_base.specs.Host.{received}
use Rattle.exec_rules.specs.Machine.{Machine}
use Rattle.exec_rules.specs.Instructions.{refused, done, refusal_of, xcm}
use Rattle.exec_rules.specs.Holdings.{at_origin}
use Rattle.exec_rules.specs.Readiness.{IsSteady}
use Rattle.exec_rules.specs.Stopping.{parking, UnjoinedOnOom, LeftOnOom, leaves_on_oom}
use Rattle.exec_rules.specs.Reasons.{IsLedTo}
use Rattle.law_hosts.specs.Wholes.{whole}
use Rattle.law_hosts.specs.Accepted.{whole_of, made_bundle, IsMadeOrNothing, HasWithdrawalList, HasFeeLists, HasRoomFor}
use Rattle.law_hosts.proofs.Moving.{Withdraws, received_whole}
use Rattle.law_hosts.proofs.Booking.{conserves_park}
use Rattle.law_hosts.proofs.Accepting.{more_whole, whole_done, whole_stopped}

-- where nothing is made
plain : (before now : ℕ) (test : Listed → Bool) → now ≡ before → now ≡ before + total {R = unit_cmp} (is_unit_where test) empty
plain before now test h = let none = total-empty unit_keys (is_unit_where test) in omega (arith, h, none)

received_moves : (m : Machine) (list : List Asset) (teleport : Bool) (test : Listed → Bool) → whole test (received m.part list teleport) + total (is_unit_where test) (bundle_of list) ≡ whole test m.part + total (is_unit_where test) (bundle_of list)
received_moves m list teleport test = ap (λ (n : ℕ). n + total (is_unit_where test) (bundle_of list)) (received_whole m.part list teleport test)

module _ (withdraws : Withdraws) (moves : MovesAreKept) where
  conserved : (l : Instruction-F Instruction) (m : Machine) (test : Listed → Bool) → IsSteady m → HasWithdrawalList l → HasFeeLists m.part → HasRoomFor (made_bundle l) m → refused l m ≡ None → whole_of test (done l m) ≡ whole_of test m + total (is_unit_where test) (made_bundle l)
  conserved (Instruction-F.ReserveAssetDeposited list) m test steady in_order fees room ok = more_whole m (received m.part list false) (bundle_of list) (bundle_of list) (received_moves m list false) room test
  conserved (Instruction-F.ReceiveTeleportedAsset list) m test steady in_order fees room ok = more_whole m (received m.part list true) (bundle_of list) (bundle_of list) (received_moves m list true) room test
  conserved l m test steady in_order fees room ok = plain _ _ test (whole_done withdraws moves l m steady in_order fees room refl ok test)

  pub conserves_accepted : (x : Instruction) (m : Machine) (test : Listed → Bool) → IsSteady m → HasWithdrawalList (out-Instruction x) → HasFeeLists m.part → HasRoomFor (made_bundle (out-Instruction x)) m → refusal_of x m ≡ None
      → whole_of test (xcm.done x m) ≡ whole_of test m + total (is_unit_where test) (made_bundle (out-Instruction x))
  conserves_accepted x m test steady in_order fees room ok = conserved (out-Instruction x) m test steady in_order fees room ok

-- ---- where memory stops an instruction
parked_whole : (m : Machine) (p : ChainPart) (goods : Bundle) (test : Listed → Bool) → whole test p ≡ whole test m.part → whole_of test (parking m p goods) ≡ whole_of test m + total (is_unit_where test) goods
parked_whole m p goods test same =
    let moved = conserves_park p goods test in
    let none = total-empty unit_keys (is_unit_where test) in
    omega (arith, moved, none, same)

arrived_stops : (l : Instruction-F Instruction) (m now : Machine) (list : List Asset) (teleport : Bool) (o : Option Location) (test : Listed → Bool)
    → now ≡ at_origin o (λ who. parking m (received m.part list teleport) (bundle_of list)) m → IsMadeOrNothing (bundle_of list) (whole_of test m) (whole_of test now) test
arrived_stops l m now list teleport None test e = inl (ap (whole_of test) e)
arrived_stops l m now list teleport (Some who) test e = inr (ap (whole_of test) e ∙ parked_whole m (received m.part list teleport) (bundle_of list) test (received_whole m.part list teleport test))

receiving_stops : (l : Instruction-F Instruction) (m now : Machine) (list : List Asset) (teleport : Bool) (test : Listed → Bool)
    → (now ≡ m) ⊎ UnjoinedOnOom l m (λ who. received m.part list teleport) (bundle_of list) now → IsMadeOrNothing (bundle_of list) (whole_of test m) (whole_of test now) test
receiving_stops l m now list teleport test (inl e) = inl (ap (whole_of test) e)
receiving_stops l m now list teleport test (inr stops) = arrived_stops l m now list teleport m.regs.origin test stops.1

module _ (withdraws : Withdraws) (moves : MovesAreKept) (lead : (l : Instruction-F Instruction) (m now : Machine) → LeftOnOom l m now → IsLedTo l m now) where
  spilt : (l : Instruction-F Instruction) (m now : Machine) (test : Listed → Bool) → IsSteady m → HasWithdrawalList l → HasFeeLists m.part → HasRoomFor (made_bundle l) m → LeftOnOom l m now
      → IsMadeOrNothing (made_bundle l) (whole_of test m) (whole_of test now) test
  spilt (Instruction-F.ReserveAssetDeposited list) m now test steady in_order fees room s = receiving_stops (Instruction-F.ReserveAssetDeposited list) m now list false test s
  spilt (Instruction-F.ReceiveTeleportedAsset list) m now test steady in_order fees room s = receiving_stops (Instruction-F.ReceiveTeleportedAsset list) m now list true test s
  spilt l m now test steady in_order fees room s = inl (whole_stopped withdraws moves l m steady in_order fees room refl now (lead l m now s) test)

  pub conserves_spilt : (x : Instruction) (m now : Machine) (test : Listed → Bool) → IsSteady m → HasWithdrawalList (out-Instruction x) → HasFeeLists m.part → HasRoomFor (made_bundle (out-Instruction x)) m → leaves_on_oom x m now
      → IsMadeOrNothing (made_bundle (out-Instruction x)) (whole_of test m) (whole_of test now) test
  conserves_spilt x m now test steady in_order fees room s = spilt (out-Instruction x) m now test steady in_order fees room s
