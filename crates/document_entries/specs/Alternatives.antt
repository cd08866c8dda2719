-- What a reader of two alternative fields answers where both are there.
use Rattle.std.specs.Prelude.{◌≡◌, ⊤, Result}
use Rattle.document_entries.specs.declared.fault.NetworkFault.{NetworkFault}
use Rattle.document_entries.specs.declared.stop.Stop.{Stop}
use Rattle.document_entries.specs.declared.stop.Stop.TheVariants.{Fault, Memory}
use Rattle.document_entries.specs.Entries.{refused_for, is_wrong_kind, is_limit_passed}
use Rattle.document_entries.specs.declared.alternatives.Causes.{Causes}

-- this fault; out of memory says nothing
abbrev pub IsFaultOf : Stop → NetworkFault → Type 0
IsFaultOf (Fault fault) given = given ≡ fault
IsFaultOf Memory given = ⊤

-- the causes of what a definition gives
abbrev pub AreCausesOf : {X : Type 0} → Causes → Result X NetworkFault → Type 0
AreCausesOf causes given = (causes.wrong_kind ≡ refused_for is_wrong_kind given) × (causes.limit_passed ≡ refused_for is_limit_passed given)
