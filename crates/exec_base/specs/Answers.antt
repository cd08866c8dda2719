-- The shapes of a host's answers. `refusal` is why the rule refuses, or none; `after` is the part that an accepted call leaves. Out of
-- memory may come from any call, and changes nothing.
use Rattle.std.specs.Prelude.{◌≡◌, Option, Some, None, Result, Ok, Err}
use Rattle.std.specs.declared.alloc.AllocError.{AllocError}
use Rattle.operands.specs.declared.error.XcmError.{XcmError}
use Rattle.asset_bundles.specs.Bundles.{Bundle}
use Rattle.asset_bundles.specs.Joins.{Joined}
use Rattle.exec_base.specs.declared.faults.HostFault.{HostFault}
use Rattle.exec_base.specs.declared.faults.HostFault.TheVariants.{Xcm, Memory}
use Rattle.exec_base.specs.Part.{ChainPart}

-- an answer, or a refusal
abbrev pub AnswersOrRefuses : {A : Type 0} → Option XcmError → A → ChainPart → ChainPart → Result A HostFault → ChainPart → Type 0
AnswersOrRefuses refusal answer after before (Ok out) now = (refusal ≡ None) × (out ≡ answer) × (now ≡ after)
AnswersOrRefuses refusal answer after before (Err (Xcm e)) now = (refusal ≡ Some e) × (now ≡ before)
AnswersOrRefuses refusal answer after before (Err Memory) now = now ≡ before

-- goods are taken in, and handed back with a refusal
abbrev pub TakesGoodsOrRefuses : {A : Type 0} → Option XcmError → Bundle → A → ChainPart → ChainPart → Result A (Bundle × HostFault) → ChainPart → Type 0
TakesGoodsOrRefuses refusal goods answer after before (Ok out) now = (refusal ≡ None) × (out ≡ answer) × (now ≡ after)
TakesGoodsOrRefuses refusal goods answer after before (Err (back, Xcm e)) now = (back ≡ goods) × (refusal ≡ Some e) × (now ≡ before)
TakesGoodsOrRefuses refusal goods answer after before (Err (back, Memory)) now = (back ≡ goods) × (now ≡ before)

-- goods are taken in, and handed back where memory is refused, and only then
abbrev pub Keeps : Bundle → ChainPart → ChainPart → Result (Unit {0}) Bundle → ChainPart → Type 0
Keeps goods after before (Ok _) now = now ≡ after
Keeps goods after before (Err back) now = (back ≡ goods) × (now ≡ before)

-- an answer, or out of memory
abbrev pub AnswersWithinMemory : {A : Type 0} → A → ChainPart → ChainPart → Result A AllocError → ChainPart → Type 0
AnswersWithinMemory answer after before (Ok out) now = (out ≡ answer) × (now ≡ after)
AnswersWithinMemory answer after before (Err _) now = now ≡ before

-- the bundle that goods were joined into
abbrev pub JoinedInto : Bundle → Bundle → Result (Unit {0}) Bundle → Bundle → Type 0
JoinedInto goods old (Ok _) new = new ≡ Joined old goods
JoinedInto goods old (Err _) new = new ≡ old
