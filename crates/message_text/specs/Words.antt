-- The values of fields that are on one line. Locations, amounts and errors are written as a report writes them; bytes are lower-case hex
-- after `0x`. This project's own rule; the names are the XCM format's.
use Rattle.std.specs.Prelude.{ℕ, Bool, true, false, List, [], ◌∷◌, ◌++◌, Option, Some, None, codes, decimal}
use Rattle.locations.specs.declared.grammar.NetworkId.{NetworkId}
use Rattle.locations.specs.declared.grammar.Junction.{Junction}
use Rattle.locations.specs.declared.grammar.Junction.TheVariants.{GlobalConsensus}
use Rattle.locations.specs.declared.relative.Location.{Location}
use Rattle.location_wire.specs.Texts.{hex_text, location_text, path_text}
use Rattle.asset_lists.specs.declared.units.AssetId.{AssetId}
use Rattle.asset_lists.specs.declared.units.AssetId.TheVariants.{Concrete, Abstract}
use Rattle.asset_lists.specs.declared.units.Asset.{Asset}
use Rattle.asset_lists.specs.declared.units.Fun.{Fun}
use Rattle.asset_lists.specs.declared.units.Fun.TheVariants as funs
use Rattle.asset_lists.specs.declared.filters.WildFun.{WildFun}
use Rattle.asset_lists.specs.declared.filters.WildFun.TheVariants as kinds
use Rattle.asset_wire.specs.Spelling.{instance}
use Rattle.operands.specs.Texts.{error_text, weight_text}
use Rattle.operands.specs.declared.error.XcmError.{XcmError}
use Rattle.operands.specs.declared.origin.OriginKind.{OriginKind}
use Rattle.operands.specs.declared.origin.OriginKind.TheVariants.{Native, SovereignAccount, Superuser, Xcm}
use Rattle.operands.specs.declared.status.MaybeError.{MaybeError}
use Rattle.operands.specs.declared.status.MaybeError.TheVariants as statuses
use Rattle.operands.specs.declared.weight.WeightLimit.{WeightLimit}
use Rattle.operands.specs.declared.weight.WeightLimit.TheVariants.{Unlimited, Limited}

unfoldable pub flag_text : Bool → List ℕ
flag_text true = codes "true"
flag_text false = codes "false"

unfoldable pub origin_kind_text : OriginKind → List ℕ
origin_kind_text Native = codes "Native"
origin_kind_text SovereignAccount = codes "SovereignAccount"
origin_kind_text Superuser = codes "Superuser"
origin_kind_text Xcm = codes "Xcm"

-- with the weight in both dimensions: ref_time in picoseconds, proof_size in bytes
unfoldable pub limit_text : WeightLimit → List ℕ
limit_text Unlimited = codes "Unlimited"
limit_text (Limited w) = codes "Limited " ++ weight_text w

-- how a dispatched call ended, with the bytes of its error
unfoldable pub status_text : MaybeError → List ℕ
status_text statuses.Success = codes "Success"
status_text (statuses.Error bytes) = codes "Error " ++ hex_text bytes
status_text (statuses.TruncatedError bytes) = codes "TruncatedError " ++ hex_text bytes

unfoldable pub place_text : Option Location → List ℕ
place_text None = codes "none"
place_text (Some l) = location_text l

-- an instruction's index and its error
unfoldable pub failure_text : Option (ℕ × XcmError) → List ℕ
failure_text None = codes "none"
failure_text (Some failed) = decimal failed.0 ++ (codes " " ++ error_text failed.1)

-- a junction as the path that it is alone
abbrev pub junction_path_text : Junction → List ℕ
junction_path_text j = path_text (j ∷ [])

abbrev pub network_text : NetworkId → List ℕ
network_text net = junction_path_text (GlobalConsensus net)

-- ---- assets

unfoldable pub id_text : AssetId → List ℕ
id_text (Concrete l) = location_text l
id_text (Abstract bytes) = hex_text bytes

-- the amount in the asset's smallest unit, or the hex of the instance's spelling
unfoldable pub fun_text : Fun → List ℕ
fun_text (funs.Fungible amount) = decimal amount
fun_text (funs.NonFungible which) = codes "instance " ++ hex_text (instance which)

abbrev pub asset_text : Asset → List ℕ
asset_text a = id_text a.id ++ codes " " ++ fun_text a.fun

unfoldable pub wild_fun_text : WildFun → List ℕ
wild_fun_text kinds.Fungible = codes "Fungible"
wild_fun_text kinds.NonFungible = codes "NonFungible"
