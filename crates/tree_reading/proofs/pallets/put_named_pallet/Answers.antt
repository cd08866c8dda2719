use Rattle.std.proofs.Common.{length, refl}
use Rattle.scale_codec.specs.Spelling.{compact}
use Rattle.location_wire.specs.Texts.{hex_text}
use Rattle.xcm_format.specs.Parts.{bytes, FitsPallet}
use Rattle.tree_reading.specs.Pallets.{module_text, module_pallet, named_text, named_pallet}
use Rattle.tree_reading.proofs.Bytes.{bytes_front, bytes_back}
use Rattle.tree_reading.proofs.SolidPaths.{solid_hex}
use Rattle.tree_reading.proofs.Behind.{put_behind}
use Rattle.tree_reading.proofs.pallets.put_named_pallet.Goals as goal

pub returns-in_default : goal.returns-in_default
returns-in_default c = λ p fits all e. absurd (rw c.in_default.is at (c.at_space.ensures (hex_text p.name) (module_text p) (solid_hex p.name (bytes_back (compact (length p.name)) p.name (bytes_front (bytes p.name) (module_pallet p) all))) e))

pub returns-then-not-done : goal.returns-then-not-done
returns-then-not-done c = λ p fits all e.
    let cut = rw c.in-Some.is at (c.at_space.ensures (hex_text p.name) (module_text p) (solid_hex p.name (bytes_back (compact (length p.name)) p.name (bytes_front (bytes p.name) (module_pallet p) all))) e) in
    let put = c.in_ok-done.ensures p.name (tt) (bytes_front (bytes p.name) (module_pallet p) all) cut.0 in
    absurd (cc (put.0, c.if-not-done.true))

pub returns : goal.returns
returns c =
    put_behind FitsPallet named_text named_pallet FitsPallet module_text module_pallet c.args.text.now c.in-Some.module.now c.put_module.result c.args.out.now c.put_hex.new.out c.put_module.new.out
    (λ p fits all e.
    let cut = rw c.in-Some.is at (c.at_space.ensures (hex_text p.name) (module_text p) (solid_hex p.name (bytes_back (compact (length p.name)) p.name (bytes_front (bytes p.name) (module_pallet p) all))) e) in
    let put = c.in_ok-done.ensures p.name (tt) (bytes_front (bytes p.name) (module_pallet p) all) cut.0 in
    record { value = p; fits = fits; bytes = bytes_back (bytes p.name) (module_pallet p) all; words = cut.1; front = bytes p.name; put = put.1; spelled = refl })
    c.put_module.ensures
