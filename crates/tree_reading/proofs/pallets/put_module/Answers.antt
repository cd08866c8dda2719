use Rattle.std.proofs.Common.{◌∙◌, ◌++◌, length, refl, sym, subst, arith}
use Rattle.std.specs.Prelude.{codes, decimal}
use Rattle.scale_codec.specs.Spelling.{compact}
use Rattle.location_wire.specs.Texts.{hex_text}
use Rattle.operands.specs.declared.pallet.PalletInfo.{PalletInfo}
use Rattle.xcm_format.specs.Parts.{bytes, FitsPallet}
use Rattle.tree_reading.specs.Puts.{AreBytes}
use Rattle.tree_reading.specs.Pallets.{minor_text, crate_text, crate_version, module_text, module_pallet}
use Rattle.tree_reading.proofs.Bytes.{bytes_front, bytes_back}
use Rattle.tree_reading.proofs.Solid.{solid_decimal}
use Rattle.tree_reading.proofs.SolidPaths.{solid_hex}
use Rattle.tree_reading.proofs.Behind.{put_behind}
use Rattle.tree_reading.specs.Rows.{is_solid, IsSolid}
use Rattle.tree_reading.proofs.Solid.{all-append}
use Rattle.tree_reading.proofs.pallets.put_module.Goals as goal

name_bytes : (p : PalletInfo) → AreBytes (module_pallet p) → AreBytes p.module_name
name_bytes p all = bytes_back (compact (length p.module_name)) p.module_name (bytes_front (bytes p.module_name) (crate_version p) all)

solid_crate : (p : PalletInfo) → FitsPallet p → IsSolid (crate_text p)
solid_crate p fits =
    all-append is_solid (decimal p.major) (codes "." ++ minor_text p) (solid_decimal p.major (omega (arith, fits.3)))
    (all-append is_solid (codes ".") (minor_text p) refl
    (all-append is_solid (decimal p.minor) (codes "." ++ decimal p.patch) (solid_decimal p.minor (omega (arith, fits.4)))
    (all-append is_solid (codes ".") (decimal p.patch) refl (solid_decimal p.patch (omega (arith, fits.5))))))

pub returns-in_default : goal.returns-in_default
returns-in_default c = λ p fits all e. absurd (rw c.in_default.is at (c.at_space.ensures (hex_text p.module_name) (crate_text p) (solid_hex p.module_name (name_bytes p all)) e))

pub returns-then-not-done : goal.returns-then-not-done
returns-then-not-done c = λ p fits all e.
    let cut = rw c.in-Some.is at (c.at_space.ensures (hex_text p.module_name) (crate_text p) (solid_hex p.module_name (name_bytes p all)) e) in
    let put = c.in_ok-done.ensures p.module_name (tt) (bytes_front (bytes p.module_name) (crate_version p) all) cut.0 in
    absurd (cc (put.0, c.if-not-done.true))

pub returns : goal.returns
returns c =
    put_behind FitsPallet module_text module_pallet FitsPallet crate_text crate_version c.args.text.now c.word_of.result.now c.put_crate.result c.args.out.now c.put_hex.new.out c.put_crate.new.out
    (λ p fits all e.
    let cut = rw c.in-Some.is at (c.at_space.ensures (hex_text p.module_name) (crate_text p) (solid_hex p.module_name (name_bytes p all)) e) in
    let put = c.in_ok-done.ensures p.module_name (tt) (bytes_front (bytes p.module_name) (crate_version p) all) cut.0 in
    record { value = p; fits = fits; bytes = bytes_back (bytes p.module_name) (crate_version p) all; words = c.word_of.ensures (subst IsSolid (sym cut.1) (solid_crate p fits)) ∙ cut.1; front = bytes p.module_name; put = put.1; spelled = refl })
    c.put_crate.ensures
