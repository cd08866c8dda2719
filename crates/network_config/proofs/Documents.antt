-- The network of the value that bytes are.
use Rattle.std.proofs.Common.{◌≡◌, ◌∙◌, ℕ, List, Bool, true, false, refl, ap, Some, None, Err}
use Rattle.std.proofs.lemmas.Bool.{cond-true, cond-false}
use Rattle.std.proofs.lemmas.Str.{IsUtf8-from_is_utf8, is_utf8-from_IsUtf8}
use Rattle.std.specs.Str.{is_utf8, IsUtf8}
use Rattle.serde_json.specs.Data.{Data}
use Rattle.serde_json.specs.Read.{read}
use Rattle.document_entries.specs.declared.fault.NetworkFault.TheVariants.{NotJson}
use Rattle.network_config.specs.Chains.{top}
use Rattle.network_config.specs.Network.{network_of, json_of, of_value, network_of_value}

pub read_value : (bytes : List ℕ) (d : Data) → IsUtf8 bytes → read bytes ≡ Some d → network_of bytes ≡ network_of_value d
unfolding network_of json_of
read_value bytes d u e = ap of_value (cond-true (is_utf8 bytes) (read bytes) None (is_utf8-from_IsUtf8 bytes u) ∙ e)

no_value : (bytes : List ℕ) (b : Bool) → is_utf8 bytes ≡ b → (IsUtf8 bytes → read bytes ≡ None) → network_of bytes ≡ Err (NotJson top)
unfolding network_of json_of
no_value bytes true e n = ap of_value (cond-true (is_utf8 bytes) (read bytes) None e ∙ n (IsUtf8-from_is_utf8 bytes e))
no_value bytes false e n = ap of_value (cond-false (is_utf8 bytes) (read bytes) None e)

pub not_json : (bytes : List ℕ) → (IsUtf8 bytes → read bytes ≡ None) → network_of bytes ≡ Err (NotJson top)
not_json bytes n = no_value bytes (is_utf8 bytes) refl n
