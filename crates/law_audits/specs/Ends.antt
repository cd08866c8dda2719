-- Checking accounts and their maximum. This project's own rule.
use Rattle.std.specs.Prelude.{◌≡◌, ◌≢◌, ℕ, ◌+◌, ◌-◌, ◌^◌, ◌<◌, Bool, List, Some, slice_get}
use Rattle.std.specs.List.{AllByRecursion}
use Rattle.std.specs.Ordering.{eq_by_cmp}
use Rattle.operands.specs.declared.error.XcmError.TheVariants as error
use Rattle.asset_lists.specs.Listed.{listed_cmp, listed_of}
use Rattle.asset_lists.specs.Units.{Unit}
use Rattle.trust_tables.specs.declared.rows.AssetRow.{AssetRow}
use Rattle.trust_tables.specs.Trust.{listed_row}
use Rattle.xcm_program.specs.declared.instruction.Instruction.{Instruction}
use Rattle.exec_base.specs.Part.{ChainPart}
use Rattle.exec_rules.specs.Machine.{Machine}
use Rattle.exec_rules.specs.Run.{Stage, machine_of, Reaches}
use Rattle.exec_rules.specs.Instructions.{refusal_of, xcm}
use Rattle.exec_rules.specs.declared.admission.Admitted.{Admitted}
use Rattle.exec_rules.specs.Execution.{IsAbandoned}
use Rattle.network_steps.specs.Worlds.{Member, World}
use Rattle.network_steps.specs.Acting.{caller}
use Rattle.network_steps.specs.Steps.{Link, Step, worlds}
use Rattle.law_runs.specs.Sums.{Sum, none, in_places}
use Rattle.law_runs.specs.Safety.{hold}
use Rattle.law_steps.specs.Worlds.{IsExecution, begins, first_of_execution, AdmitsExecution, IsDelivery, StopsAt, first_of_delivery, AdmitsDelivery}

-- ---- one chain

-- a unit of the asset that the row lists
abbrev pub is_of_row : AssetRow → Unit → Bool
is_of_row row unit = eq_by_cmp listed_cmp (listed_of unit) (listed_row row)

-- each checking account, with all that its chain has of the asset and with what is held, is below
-- the maximum of an account, which is 2^128-1
abbrev pub AreBelowEnd : Sum → ChainPart → Type 0
AreBelowEnd held p =
    (place : ℕ) (row : AssetRow) (amount : ℕ)
    → slice_get p.rows place ≡ Some row → slice_get p.checking place ≡ Some (Some amount)
    → amount + (in_places (is_of_row row) p + held (is_of_row row)) < 2 ^ 128 - 1

-- no instruction is refused because a checking account would pass its maximum
abbrev pub IsNeverTooFull : Machine → Type 0
IsNeverTooFull m = (x : Instruction) → refusal_of x m ≢ Some error.NotDepositable

-- where a run is, with what it holds
pub record MayTeleport (m : Machine) : Type 0 where
  pub below : AreBelowEnd (hold m) m.part
  pub never : IsNeverTooFull m

-- ---- a network

abbrev pub AllBelowEnd : World → Type 0
AllBelowEnd w = AllByRecursion (λ (m : Member). AreBelowEnd none m.part) w

-- whatever the steps: in every world, wherever the run of a local execution or of a delivered message
-- is, and where memory is refused to it
pub record StayBelowEnd (order : List Link) (w : World) (steps : List Step) : Type 0 where
  pub in_worlds : AllByRecursion AllBelowEnd (worlds order w steps)
  pub executions : (account : List ℕ) (program : List Instruction)
      (x : IsExecution order w steps account program) (a : Admitted) (g : Stage)
      → AdmitsExecution x.member account program a
      → Reaches xcm (first_of_execution x.member account a) g → MayTeleport (machine_of g)
  pub deliveries : (d : IsDelivery order w steps) (a : Admitted) (g : Stage)
      → AdmitsDelivery d.sender d.receiver d.message a
      → Reaches xcm (first_of_delivery d.sender d.receiver d.message a) g → MayTeleport (machine_of g)
  pub stopped_executions : (account : List ℕ) (program : List Instruction)
      (x : IsExecution order w steps account program) (now : ChainPart)
      → IsAbandoned x.member.rules (caller account) x.member.rules.limit program (begins x.member) now
      → AreBelowEnd none now
  pub stopped_deliveries : (d : IsDelivery order w steps) (now : ChainPart)
      → StopsAt d.sender d.receiver d.message now → AreBelowEnd none now
