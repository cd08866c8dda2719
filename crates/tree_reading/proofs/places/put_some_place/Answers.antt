use Rattle.std.proofs.Common.{[], ◌∷◌, refl}
use Rattle.location_wire.specs.Spelling.{location, FitsLocation}
use Rattle.location_wire.specs.Texts.{location_text}
use Rattle.tree_reading.proofs.Behind.{put_behind}
use Rattle.tree_reading.proofs.places.put_some_place.Goals as goal

pub returns : goal.returns
returns c =
    put_behind FitsLocation location_text (λ l. 1 ∷ location l) FitsLocation location_text location c.args.text.now c.args.text.now c.put_location.result c.args.out.now c.put_u8.new.self c.put_location.new.out
    (λ l fits bytes e. record { value = l; fits = fits; bytes = bytes.1; words = e; front = 1 ∷ []; put = c.in_ok-put_u8.ensures.ok; spelled = refl })
    c.put_location.ensures
