use Rattle.std.proofs.Common.{sym}
use Rattle.std.proofs.lemmas.List.{append-nil}
use Rattle.location_wire.specs.Spelling.{location, FitsLocation}
use Rattle.location_wire.specs.Texts.{location_text}
use Rattle.asset_wire.specs.Spelling.{asset_id}
use Rattle.message_text.specs.Words.{id_text}
use Rattle.tree_reading.specs.Assets.{FitsPlaceId}
use Rattle.tree_reading.proofs.Behind.{put_behind}
use Rattle.tree_reading.proofs.AssetParts.{id_in_3, id_in_4}
use Rattle.tree_reading.proofs.assets.put_id.Goals as goal

pub returns-in_ok-put_u8-in-V3 : goal.returns-in_ok-put_u8-in-V3
returns-in_ok-put_u8-in-V3 c =
    put_behind (FitsPlaceId c.args.version) id_text (asset_id c.args.version) FitsLocation location_text location c.args.text.now c.args.text.now c.put_location.result c.args.out.now c.put_u8.new.self c.put_location.new.out
    (id_in_3 c.args.version c.args.text.now c.args.out.now c.put_u8.new.self c.in-V3.is c.in_ok-put_u8-in-V3.ensures.ok)
    c.put_location.ensures

pub returns-in-V4 : goal.returns-in-V4
returns-in-V4 c =
    put_behind (FitsPlaceId c.args.version) id_text (asset_id c.args.version) FitsLocation location_text location c.args.text.now c.args.text.now c.put_location-in-V4.result c.args.out.now c.args.out.now c.put_location-in-V4.new.out
    (id_in_4 c.args.version c.args.text.now c.args.out.now c.args.out.now c.in-V4.is (sym (append-nil c.args.out.now)))
    c.put_location-in-V4.ensures
