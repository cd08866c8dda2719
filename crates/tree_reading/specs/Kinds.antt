-- What the words of a row are the text of, by their kind, and how that is spelled. Source: this project's own rule; the spellings are those of the
-- XCM format.
use Rattle.std.specs.Prelude.{◌≡◌, ◌≤◌, ℕ, Bool, List, length, Option, IfSome, decimal, ⊤}
use Rattle.scale_codec.specs.Spelling.{compact, flag, optional}
use Rattle.locations.specs.declared.relative.Location.{Location}
use Rattle.location_wire.specs.Spelling.{network, FitsNetwork, junction, FitsJunction, junctions, FitsJunctions, location, FitsLocation}
use Rattle.location_wire.specs.Texts.{hex_text, path_text, location_text}
use Rattle.asset_wire.specs.Spelling.{asset, wild}
use Rattle.operands.specs.Texts.{weight_text}
use Rattle.operands.specs.declared.error.XcmError.{XcmError}
use Rattle.operands.specs.declared.origin.OriginKind.{OriginKind}
use Rattle.operands.specs.declared.version.Version.{Version}
use Rattle.xcm_format.specs.Parts.{weight, FitsWeight, weight_limit, FitsLimit, origin_kind, failure, FitsFailure, bytes, maybe_error, FitsMaybeError, pallet_info, FitsPallet, response}
use Rattle.message_text.specs.Words.{flag_text, origin_kind_text, limit_text, status_text, place_text, failure_text, junction_path_text, network_text, asset_text}
use Rattle.message_text.specs.Fields.{wild_text, pallet_text}
use Rattle.tree_reading.specs.Assets.{FitsPlaceAsset, FitsPlaceWild}
use Rattle.tree_reading.specs.Responses.{FitsValued, valued_text}
use Rattle.tree_reading.specs.declared.kinds.Words.{Words}
use Rattle.tree_reading.specs.declared.kinds.Words.TheVariants as kinds
use Rattle.tree_reading.specs.Puts.{AreBytes}

-- the words are the text of a value that fits, and the bytes its spelling
pub record SaysOne {X : Type 0} (Fits : X → Type 0) (text spelling : X → List ℕ) (words said : List ℕ) : Type 0 where
  pub value : X
  pub fits : Fits value
  pub all : AreBytes (spelling value)
  pub is : words ≡ text value
  pub spelled : said ≡ spelling value

abbrev pub Says : Version → Words → List ℕ → List ℕ → Type 0
Says v kinds.Asset words said = SaysOne (FitsPlaceAsset v) asset_text (asset v) words said
Says v kinds.Wild words said = SaysOne (FitsPlaceWild v) wild_text (wild v) words said
Says v kinds.Location words said = SaysOne FitsLocation location_text location words said
Says v kinds.LocationOrNone words said = SaysOne (λ (o : Option Location). IfSome o FitsLocation) place_text (optional location) words said
Says v kinds.Path words said = SaysOne FitsJunctions path_text junctions words said
Says v kinds.Junction words said = SaysOne FitsJunction junction_path_text junction words said
Says v kinds.Network words said = SaysOne FitsNetwork network_text network words said
Says v kinds.Number32 words said = SaysOne (λ n. n ≤ 4294967295) decimal compact words said
Says v kinds.Number64 words said = SaysOne (λ n. n ≤ 18446744073709551615) decimal compact words said
Says v kinds.Weight words said = SaysOne FitsWeight weight_text weight words said
Says v kinds.Limit words said = SaysOne FitsLimit limit_text weight_limit words said
Says v kinds.OriginKind words said = SaysOne (λ (k : OriginKind). ⊤) origin_kind_text origin_kind words said
Says v kinds.Bytes words said = SaysOne (λ (b : List ℕ). ⊤) hex_text bytes words said
Says v kinds.Topic words said = SaysOne (λ (b : List ℕ). length b ≡ 32) hex_text (λ b. b) words said
Says v kinds.Flag words said = SaysOne (λ (b : Bool). ⊤) flag_text flag words said
Says v kinds.Failure words said = SaysOne (λ (o : Option (ℕ × XcmError)). IfSome o FitsFailure) failure_text (optional failure) words said
Says v kinds.Status words said = SaysOne FitsMaybeError status_text maybe_error words said
Says v kinds.Valued words said = SaysOne FitsValued valued_text (response v) words said
Says v kinds.Pallet words said = SaysOne FitsPallet pallet_text pallet_info words said
