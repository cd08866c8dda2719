-- That an account takes in whatever is held or given: no sum passes 2^128-1, and no instance has another owner. This project's own rule.
use Rattle.std.specs.Prelude.{◌≡◌, ℕ, List, Some, None}
use Rattle.amounts.specs.Amounts.{IsWithin}
use Rattle.locations.specs.declared.relative.Location.{Location}
use Rattle.asset_lists.specs.declared.units.Asset.{Asset}
use Rattle.asset_lists.specs.Lists.{IsAssetList}
use Rattle.asset_bundles.specs.Bundles.{Bundle, held_assets}
use Rattle.trust_tables.specs.Accounts.{account_of}
use Rattle.ledgers.specs.Ledgers.{barred}
use Rattle.exec_base.specs.Host.{given, withdraw_refusal, deposit_refusal, transfer_refusal}
use Rattle.xcm_program.specs.declared.instruction.Instruction.{Instruction}
use Rattle.exec_rules.specs.Machine.{Machine}
use Rattle.exec_rules.specs.Run.{Stage, machine_of, Reaches}
use Rattle.exec_rules.specs.Instructions.{xcm}
use Rattle.exec_rules.specs.declared.admission.Admitted.{Admitted}
use Rattle.network_steps.specs.Worlds.{World}
use Rattle.network_steps.specs.Steps.{Link, Step}
use Rattle.law_steps.specs.Worlds.{IsExecution, IsDelivery, AdmitsExecution, AdmitsDelivery, first_of_execution, first_of_delivery}
use Rattle.exec_rules.specs.Fees.{after_fee}

-- what every account can take in
pub record TakesAll (m : Machine) : Type 0 where
  -- what is held or a part of it, and what another account gives
  pub held : (who : List ℕ) (goods : Bundle) → IsWithin goods m.regs.holding → barred m.part.held who (held_assets goods) ≡ None
  pub given : (who : List ℕ) (list : List Asset) (from : Location) → IsAssetList list → withdraw_refusal m.part list from ≡ None → barred (given m.part list from).held who list ≡ None
  -- so where the location has an account a deposit isn't refused, and a transfer only where the giver can't give
  pub deposits : (who : Location) (account : List ℕ) (goods : Bundle) → account_of who m.part.site ≡ Some account → IsWithin goods m.regs.holding → deposit_refusal m.part goods who ≡ None
  pub transfers : (from to : Location) (account : List ℕ) (list : List Asset) → account_of to m.part.site ≡ Some account → IsAssetList list → transfer_refusal m.part list from to ≡ withdraw_refusal m.part list from

-- as an instruction begins, and once it has set a delivery fee aside
pub record NothingBarred (m : Machine) : Type 0 where
  pub now : TakesAll m
  pub behind_fee : (fee : Asset) → TakesAll (after_fee m fee)

-- whatever the steps, so it is wherever the run of a local execution or of a delivered message is
pub record NeverBarred (order : List Link) (w : World) (steps : List Step) : Type 0 where
  pub executions : (account : List ℕ) (program : List Instruction) (x : IsExecution order w steps account program)
      (a : Admitted) (g : Stage) → AdmitsExecution x.member account program a
      → Reaches xcm (first_of_execution x.member account a) g → NothingBarred (machine_of g)
  pub deliveries : (d : IsDelivery order w steps) (a : Admitted) (g : Stage)
      → AdmitsDelivery d.sender d.receiver d.message a
      → Reaches xcm (first_of_delivery d.sender d.receiver d.message a) g → NothingBarred (machine_of g)
