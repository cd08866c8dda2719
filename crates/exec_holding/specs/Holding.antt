-- What the functions of instructions share around the holding register. This project's own vocabulary.
use Rattle.std.specs.Prelude.{◌≡◌, ◌<◌, true, false, nat_le, length, Option, Some, None, Result, Ok, Err, alloc_error}
use Rattle.std.specs.declared.alloc.AllocError.{AllocError}
use Rattle.amounts.specs.Amounts.{amount, merge, difference}
use Rattle.operands.specs.declared.error.XcmError.{XcmError}
use Rattle.asset_lists.specs.declared.units.Asset.{Asset}
use Rattle.asset_lists.specs.Units.{unit_of, amount_of}
use Rattle.asset_bundles.specs.Bundles.{Bundle}
use Rattle.asset_bundles.specs.Books.{AreListed}
use Rattle.asset_bundles.specs.Joins.{Excess, IsWithinMost}
use Rattle.trust_tables.specs.Trust.{listing}
use Rattle.exec_base.specs.declared.faults.HostFault.{HostFault}
use Rattle.exec_base.specs.declared.faults.HostFault.TheVariants.{Xcm, Memory}
use Rattle.exec_base.specs.Part.{ChainPart}
use Rattle.exec_rules.specs.Machine.{Machine}
use Rattle.exec_rules.specs.Holdings.{payment_of}

-- what an instruction answers to a call of the host that is refused
abbrev pub IsAnswerTo : HostFault → Result (Result (Unit {0}) XcmError) AllocError → Type 0
IsAnswerTo (Xcm e) answer = answer ≡ Ok (Err e)
IsAnswerTo Memory answer = answer ≡ Err alloc_error

-- it ran by a rule: refused as the rule says, or with what the rule leaves
abbrev pub RanTo : Option XcmError → Machine → Machine → Result (Unit {0}) XcmError → Machine → Type 0
RanTo refusal after before (Ok _) now = (refusal ≡ None) × (now ≡ after)
RanTo refusal after before (Err e) now = (refusal ≡ Some e) × (now ≡ before)

-- goods may be joined to what is held: what would be given up is listed, and there is room to park them
pub record IsJoinable (holding : Bundle) (p : ChainPart) (goods : Bundle) : Type 0 where
  pub listed : AreListed (listing p.rows) (Excess holding goods)
  pub few : length p.parked < 4

-- goods go back to what is held: nothing is above the most of a bundle, and there is room to park them
pub record IsReturnable (holding : Bundle) (p : ChainPart) (goods : Bundle) : Type 0 where
  pub fits : IsWithinMost (merge holding goods)
  pub few : length p.parked < 4

-- one asset was taken out in full, and fits back
pub record IsPaymentTaken (a : Asset) (old taken new : Bundle) : Type 0 where
  pub held : nat_le (amount_of a) (amount old (unit_of a)) ≡ true
  pub goods : taken ≡ payment_of a
  pub left : new ≡ difference old (payment_of a)
  pub whole : merge new taken ≡ old
  pub fits : IsWithinMost (merge new taken)

-- it was, or isn't held
abbrev pub TakesAsset : Asset → Bundle → Option Bundle → Bundle → Type 0
TakesAsset a old None new = (nat_le (amount_of a) (amount old (unit_of a)) ≡ false) × (new ≡ old)
TakesAsset a old (Some goods) new = IsPaymentTaken a old goods new
