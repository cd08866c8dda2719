-- What every instruction may rely on, and every instruction keeps. This project's own vocabulary.
use Rattle.std.specs.Prelude.{◌≡◌, List, [], ◌∷◌}
use Rattle.std.specs.List.{AllByRecursion}
use Rattle.amounts.specs.Amounts.{empty}
use Rattle.asset_lists.specs.Listed.{Listed}
use Rattle.asset_bundles.specs.Books.{AreListed}
use Rattle.trust_tables.specs.Trust.{listing}
use Rattle.asset_bundles.specs.declared.trap.Trap.{Trap}
use Rattle.asset_pools.specs.Spending.{ArePoolsListed}
use Rattle.weight_trader.specs.Purchases.{AreRatesListed, AreWithinEnd}
use Rattle.xcm_program.specs.declared.instruction.Instruction.{Instruction}
use Rattle.exec_base.specs.Part.{ChainPart}
use Rattle.exec_base.specs.Sending.{IsForwardable}
use Rattle.exec_rules.specs.Machine.{Machine}
use Rattle.exec_rules.specs.Accounts.{IsAffordable}

-- what is in each trap is listed
abbrev pub AreTrapsListed : List Listed → List Trap → Type 0
AreTrapsListed listed traps = AllByRecursion (λ (t : Trap). AreListed listed t.goods) traps

-- a chain on which a run may go on: it lists what is trapped, what its rates are paid in and what its pools exchange; what is paid is below its
-- end; and nothing is parked
pub record IsInOrder (p : ChainPart) : Type 0 where
  pub traps : AreTrapsListed (listing p.rows) p.traps.traps
  pub rates : AreRatesListed (listing p.rows) p.lines
  pub paid : AreWithinEnd p.lines
  pub pools : ArePoolsListed (listing p.rows) p.pools
  pub unparked : p.parked ≡ []

-- and no fee is set aside: so it is between runs
pub record IsAtRest (p : ChainPart) : Type 0 where
  pub order : IsInOrder p
  pub slot : p.fee_slot ≡ empty

-- before and after each instruction
pub record IsSteady (m : Machine) : Type 0 where
  pub rest : IsAtRest m.part
  pub holding : AreListed (listing m.part.rows) m.regs.holding

-- the instruction, with what is inside it, has no id by bytes and no amount 0, and isn't too large to be counted
abbrev pub IsSoundInstruction : Instruction → Type 0
IsSoundInstruction x = IsForwardable (x ∷ [])

-- what every instruction may rely on
pub record IsReady (x : Instruction) (m : Machine) : Type 0 where
  pub steady : IsSteady m
  pub sound : IsSoundInstruction x
  pub affordable : IsAffordable x m.regs
