use Rattle.std.specs.Prelude.{IfOk, Result, Ok, Err, true, ◌++◌, ◌≡◌, ◌≤◌, ℕ, Bool, List, length, Option, IfSome, decimal, ⊤}
use Rattle.scale_codec.specs.Spelling.{compact, flag, optional}
use Rattle.locations.specs.declared.relative.Location.{Location}
use Rattle.location_wire.specs.Spelling.{network, FitsNetwork, junction, FitsJunction, junctions, FitsJunctions, location, FitsLocation}
use Rattle.location_wire.specs.Texts.{hex_text, path_text, location_text}
use Rattle.asset_wire.specs.Spelling.{asset, wild}
use Rattle.operands.specs.Texts.{weight_text}
use Rattle.operands.specs.declared.error.XcmError.{XcmError}
use Rattle.operands.specs.declared.origin.OriginKind.{OriginKind}
use Rattle.xcm_format.specs.Parts.{weight, FitsWeight, weight_limit, FitsLimit, origin_kind, failure, FitsFailure, bytes, maybe_error, FitsMaybeError, pallet_info, FitsPallet, response}
use Rattle.message_text.specs.Words.{flag_text, origin_kind_text, limit_text, status_text, place_text, failure_text, junction_path_text, network_text, asset_text}
use Rattle.message_text.specs.Fields.{wild_text, pallet_text}
use Rattle.tree_reading.specs.Assets.{FitsPlaceAsset, FitsPlaceWild}
use Rattle.tree_reading.specs.Responses.{FitsValued, valued_text}
use Rattle.std.proofs.Common.{◌∙◌, sym, ap}
use Rattle.tree_reading.specs.Puts.{PutsWords}
use Rattle.tree_reading.specs.Kinds.{SaysOne, Says}
use Rattle.tree_reading.proofs.kinds.put_words.Goals as goal

said : {X E : Type 0} (Fits : X → Type 0) (text spelling : X → List ℕ) (Saying : List ℕ → Type 0) (words : List ℕ) (result : Result Bool E) (old new : List ℕ)
    → ((b : List ℕ) → Saying b → SaysOne Fits text spelling words b) → PutsWords Fits text spelling words result old new → IfOk result (λ done. (b : List ℕ) → Saying b → (done ≡ true) × (new ≡ old ++ b))
said Fits text spelling Saying words (Ok done) old new is h = λ b s.
    let x = is b s in
    let k = h x.value x.fits x.all x.is in
    (k.0, k.1 ∙ ap (λ t. old ++ t) (sym x.spelled))
said Fits text spelling Saying words (Err e) old new is h = tt

pub returns-in-Asset : goal.returns-in-Asset
returns-in-Asset c = let v = c.args.version in said (FitsPlaceAsset v) asset_text (asset v) (Says v c.args.kind c.args.text.now) c.args.text.now c.put_asset.result c.args.out.now c.put_asset.new.out (λ b s. rw c.in-Asset.is at s) c.put_asset.ensures

pub returns-in-Wild : goal.returns-in-Wild
returns-in-Wild c = let v = c.args.version in said (FitsPlaceWild v) wild_text (wild v) (Says v c.args.kind c.args.text.now) c.args.text.now c.put_wild.result c.args.out.now c.put_wild.new.out (λ b s. rw c.in-Wild.is at s) c.put_wild.ensures

pub returns-in-Location : goal.returns-in-Location
returns-in-Location c = let v = c.args.version in said FitsLocation location_text location (Says v c.args.kind c.args.text.now) c.args.text.now c.put_location.result c.args.out.now c.put_location.new.out (λ b s. rw c.in-Location.is at s) c.put_location.ensures

pub returns-in-LocationOrNone : goal.returns-in-LocationOrNone
returns-in-LocationOrNone c = let v = c.args.version in said (λ (o : Option Location). IfSome o FitsLocation) place_text (optional location) (Says v c.args.kind c.args.text.now) c.args.text.now c.put_place.result c.args.out.now c.put_place.new.out (λ b s. rw c.in-LocationOrNone.is at s) c.put_place.ensures

pub returns-in-Path : goal.returns-in-Path
returns-in-Path c = let v = c.args.version in said FitsJunctions path_text junctions (Says v c.args.kind c.args.text.now) c.args.text.now c.put_path.result c.args.out.now c.put_path.new.out (λ b s. rw c.in-Path.is at s) c.put_path.ensures

pub returns-in-Junction : goal.returns-in-Junction
returns-in-Junction c = let v = c.args.version in said FitsJunction junction_path_text junction (Says v c.args.kind c.args.text.now) c.args.text.now c.put_junction.result c.args.out.now c.put_junction.new.out (λ b s. rw c.in-Junction.is at s) c.put_junction.ensures

pub returns-in-Network : goal.returns-in-Network
returns-in-Network c = let v = c.args.version in said FitsNetwork network_text network (Says v c.args.kind c.args.text.now) c.args.text.now c.put_network.result c.args.out.now c.put_network.new.out (λ b s. rw c.in-Network.is at s) c.put_network.ensures

pub returns-in-Number32 : goal.returns-in-Number32
returns-in-Number32 c = let v = c.args.version in said (λ n. n ≤ 4294967295) decimal compact (Says v c.args.kind c.args.text.now) c.args.text.now c.put_number.result c.args.out.now c.put_number.new.out (λ b s. rw c.in-Number32.is at s) c.put_number.ensures

pub returns-in-Number64 : goal.returns-in-Number64
returns-in-Number64 c = let v = c.args.version in said (λ n. n ≤ 18446744073709551615) decimal compact (Says v c.args.kind c.args.text.now) c.args.text.now c.put_number-in-Number64.result c.args.out.now c.put_number-in-Number64.new.out (λ b s. rw c.in-Number64.is at s) c.put_number-in-Number64.ensures

pub returns-in-Weight : goal.returns-in-Weight
returns-in-Weight c = let v = c.args.version in said FitsWeight weight_text weight (Says v c.args.kind c.args.text.now) c.args.text.now c.put_weight.result c.args.out.now c.put_weight.new.out (λ b s. rw c.in-Weight.is at s) c.put_weight.ensures

pub returns-in-Limit : goal.returns-in-Limit
returns-in-Limit c = let v = c.args.version in said FitsLimit limit_text weight_limit (Says v c.args.kind c.args.text.now) c.args.text.now c.put_limit.result c.args.out.now c.put_limit.new.out (λ b s. rw c.in-Limit.is at s) c.put_limit.ensures

pub returns-in-OriginKind : goal.returns-in-OriginKind
returns-in-OriginKind c = let v = c.args.version in said (λ (k : OriginKind). ⊤) origin_kind_text origin_kind (Says v c.args.kind c.args.text.now) c.args.text.now c.put_origin_kind.result c.args.out.now c.put_origin_kind.new.out (λ b s. rw c.in-OriginKind.is at s) c.put_origin_kind.ensures

pub returns-in-Bytes : goal.returns-in-Bytes
returns-in-Bytes c = let v = c.args.version in said (λ (b : List ℕ). ⊤) hex_text bytes (Says v c.args.kind c.args.text.now) c.args.text.now c.put_hex.result c.args.out.now c.put_hex.new.out (λ b s. rw c.in-Bytes.is at s) c.put_hex.ensures

pub returns-in-Topic : goal.returns-in-Topic
returns-in-Topic c = let v = c.args.version in said (λ (b : List ℕ). length b ≡ 32) hex_text (λ b. b) (Says v c.args.kind c.args.text.now) c.args.text.now c.put_topic.result c.args.out.now c.put_topic.new.out (λ b s. rw c.in-Topic.is at s) c.put_topic.ensures

pub returns-in-Flag : goal.returns-in-Flag
returns-in-Flag c = let v = c.args.version in said (λ (b : Bool). ⊤) flag_text flag (Says v c.args.kind c.args.text.now) c.args.text.now c.put_flag.result c.args.out.now c.put_flag.new.out (λ b s. rw c.in-Flag.is at s) c.put_flag.ensures

pub returns-in-Failure : goal.returns-in-Failure
returns-in-Failure c = let v = c.args.version in said (λ (o : Option (ℕ × XcmError)). IfSome o FitsFailure) failure_text (optional failure) (Says v c.args.kind c.args.text.now) c.args.text.now c.put_failure.result c.args.out.now c.put_failure.new.out (λ b s. rw c.in-Failure.is at s) c.put_failure.ensures

pub returns-in-Status : goal.returns-in-Status
returns-in-Status c = let v = c.args.version in said FitsMaybeError status_text maybe_error (Says v c.args.kind c.args.text.now) c.args.text.now c.put_status.result c.args.out.now c.put_status.new.out (λ b s. rw c.in-Status.is at s) c.put_status.ensures

pub returns-in-Valued : goal.returns-in-Valued
returns-in-Valued c = let v = c.args.version in said FitsValued valued_text (response v) (Says v c.args.kind c.args.text.now) c.args.text.now c.put_valued.result c.args.out.now c.put_valued.new.out (λ b s. rw c.in-Valued.is at s) (c.put_valued.ensures v)

pub returns-in-Pallet : goal.returns-in-Pallet
returns-in-Pallet c = let v = c.args.version in said FitsPallet pallet_text pallet_info (Says v c.args.kind c.args.text.now) c.args.text.now c.put_pallet.result c.args.out.now c.put_pallet.new.out (λ b s. rw c.in-Pallet.is at s) c.put_pallet.ensures
