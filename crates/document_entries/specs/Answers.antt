-- What a reader answers, beside the value or first fault that a definition gives.
use Rattle.std.specs.Prelude.{◌≡◌, Result, Ok, Err, ⊤}
use Rattle.document_entries.specs.declared.fault.NetworkFault.{NetworkFault}
use Rattle.document_entries.specs.declared.stop.Stop.{Stop}
use Rattle.document_entries.specs.declared.stop.Stop.TheVariants.{Fault, Memory}

-- the definition's fault; out of memory says nothing
abbrev pub FailsWith : {Y : Type 0} → Stop → Result Y NetworkFault → Type 0
FailsWith (Fault fault) given = given ≡ Err fault
FailsWith Memory given = ⊤

-- the value that the definition gives, as `view` sees it, or its fault
abbrev pub AnswersAs : {X Y : Type 0} → (X → Y) → Result X Stop → Result Y NetworkFault → Type 0
AnswersAs view (Ok x) given = given ≡ Ok (view x)
AnswersAs view (Err stop) given = FailsWith stop given

abbrev pub Answers : {X : Type 0} → Result X Stop → Result X NetworkFault → Type 0
Answers (Ok x) given = given ≡ Ok x
Answers (Err stop) given = FailsWith stop given
