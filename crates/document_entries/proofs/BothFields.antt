-- Two fields that are both there.
use Rattle.std.proofs.Common.{◌≡◌, ◌∙◌, ℕ, List, ap, refl, Some, Result, Ok, Err}
use Rattle.serde_json.specs.Data.{Data}
use Rattle.serde_json.specs.Find.{get}
use Rattle.document_entries.specs.declared.fault.NetworkFault.{NetworkFault}
use Rattle.document_entries.specs.declared.fault.Place.{Place}
use Rattle.document_entries.specs.declared.stop.Stop.{Stop}
use Rattle.document_entries.specs.declared.stop.Stop.TheVariants.{Fault, Memory}
use Rattle.document_entries.specs.Answers.{FailsWith}
use Rattle.document_entries.specs.Forms.{Form, ◌>>=◌}
use Rattle.document_entries.specs.Entries.{both_fault, either, made}
use Rattle.document_entries.specs.Alternatives.{IsFaultOf}

both_made : {X Y Z : Type 0} (place : Place) (f : X → Z) (g : Y → Z) (r : Result X NetworkFault) (s : Result Y NetworkFault)
    → both_fault {X = Z} {Y = Z} place (r >>= λ x. Ok (f x)) (s >>= λ y. Ok (g y)) ≡ both_fault place r s
both_made place f g (Ok x) (Ok y) = refl
both_made place f g (Ok x) (Err b) = refl
both_made place f g (Err a) (Ok y) = refl
both_made place f g (Err a) (Err b) = refl

refused : {Z : Type 0} (stop : Stop) (fault : NetworkFault) (given : Result Z NetworkFault) → given ≡ Err fault → IsFaultOf stop fault → FailsWith stop given
refused (Fault f) fault given e r = e ∙ ap Err r
refused Memory fault given e r = tt

pub both : {X Y Z : Type 0} (place : Place) (f : X → Z) (g : Y → Z) (one : Form X) (other : Form Y) (name other_name : List ℕ) (value d e : Data) (stop : Stop)
    → Some d ≡ get name value → Some e ≡ get other_name value → IsFaultOf stop (both_fault place (one place d) (other place e))
    → FailsWith stop (either name (made f one) other_name (made g other) place value)
both {X = X} {Y = Y} {Z = Z} place f g one other name other_name value d e stop a b r =
    refused stop (both_fault place (one place d) (other place e)) (either name (made f one) other_name (made g other) place value)
    (rw (← a, ← b) (ap Err (both_made place f g (one place d) (other place e)))) r
