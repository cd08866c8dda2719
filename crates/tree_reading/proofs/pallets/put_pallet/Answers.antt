use Rattle.std.proofs.Common.{◌≡◌, ◌∙◌, ℕ, List, ◌∷◌, ◌++◌, subst, arith, append_assoc}
use Rattle.std.specs.Prelude.{decimal}
use Rattle.scale_codec.specs.Spelling.{compact}
use Rattle.operands.specs.declared.pallet.PalletInfo.{PalletInfo}
use Rattle.xcm_format.specs.Parts.{bytes, pallet_info, FitsPallet}
use Rattle.message_text.specs.Fields.{pallet_text}
use Rattle.tree_reading.specs.Puts.{AreBytes}
use Rattle.tree_reading.specs.Pallets.{minor_version, crate_version, module_pallet, named_text, named_pallet}
use Rattle.tree_reading.proofs.Bytes.{bytes_front, bytes_back}
use Rattle.tree_reading.proofs.Solid.{solid_decimal}
use Rattle.tree_reading.proofs.Behind.{put_behind}
use Rattle.tree_reading.proofs.pallets.put_pallet.Goals as goal

regrouped : (p : PalletInfo) → pallet_info p ≡ compact p.index ++ named_pallet p
unfolding pallet_info
regrouped p =
    append_assoc (compact p.index ++ bytes p.name ++ bytes p.module_name ++ compact p.major) (compact p.minor) (compact p.patch)
    ∙ append_assoc (compact p.index ++ bytes p.name ++ bytes p.module_name) (compact p.major) (minor_version p)
    ∙ append_assoc (compact p.index ++ bytes p.name) (bytes p.module_name) (crate_version p)
    ∙ append_assoc (compact p.index) (bytes p.name) (module_pallet p)

parts : (p : PalletInfo) (text : List ℕ) → text ≡ pallet_text p → text ≡ decimal p.index ++ 32 ∷ named_text p
unfolding pallet_text
parts p text e = e

first : (p : PalletInfo) → AreBytes (pallet_info p) → AreBytes (compact p.index)
first p all = bytes_front (compact p.index) (named_pallet p) (subst AreBytes (regrouped p) all)

second : (p : PalletInfo) → AreBytes (pallet_info p) → AreBytes (named_pallet p)
second p all = bytes_back (compact p.index) (named_pallet p) (subst AreBytes (regrouped p) all)

pub returns-in_default : goal.returns-in_default
returns-in_default c = λ p fits all e. absurd (rw c.in_default.is at (c.at_space.ensures (decimal p.index) (named_text p) (solid_decimal p.index (omega (arith, fits.0))) (parts p c.args.text.now e)))

pub returns-then-not-done : goal.returns-then-not-done
returns-then-not-done c = λ p fits all e.
    let cut = rw c.in-Some.is at (c.at_space.ensures (decimal p.index) (named_text p) (solid_decimal p.index (omega (arith, fits.0))) (parts p c.args.text.now e)) in
    let put = c.in_ok-done.ensures p.index (omega (arith, fits.0)) (first p all) cut.0 in
    absurd (cc (put.0, c.if-not-done.true))

pub returns : goal.returns
returns c =
    put_behind FitsPallet pallet_text pallet_info FitsPallet named_text named_pallet c.args.text.now c.in-Some.named.now c.put_named_pallet.result c.args.out.now c.put_number.new.out c.put_named_pallet.new.out
    (λ p fits all e.
    let cut = rw c.in-Some.is at (c.at_space.ensures (decimal p.index) (named_text p) (solid_decimal p.index (omega (arith, fits.0))) (parts p c.args.text.now e)) in
    let put = c.in_ok-done.ensures p.index (omega (arith, fits.0)) (first p all) cut.0 in
    record { value = p; fits = fits; bytes = second p all; words = cut.1; front = compact p.index; put = put.1; spelled = regrouped p })
    c.put_named_pallet.ensures
