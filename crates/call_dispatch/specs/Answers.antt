-- Why bytes aren't read as a call.
use Rattle.std.specs.Prelude.{ℕ, List, ⊤}
use Rattle.scale_codec.specs.Spelling.{Spells}
use Rattle.call_dispatch.specs.declared.faults.CallFault.{CallFault}
use Rattle.call_dispatch.specs.declared.faults.CallFault.TheVariants.{NotACall, Memory}
use Rattle.call_dispatch.specs.Spelling.{AnyCall, call, FitsCall}

-- no call is spelled so
abbrev pub IsCallCause : List ℕ → CallFault → Type 0
IsCallCause bytes NotACall = (c : AnyCall) → Spells call FitsCall c bytes → ⊥
IsCallCause bytes Memory = ⊤
