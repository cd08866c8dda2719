use Rattle.std.proofs.Common.{◌≡◌, ◌∙◌, ℕ, List, ◌∷◌, ◌++◌, refl, append_assoc}
use Rattle.std.specs.Prelude.{codes}
use Rattle.asset_lists.specs.declared.units.Asset.{Asset}
use Rattle.asset_wire.specs.Spelling.{asset_id, fun, FitsFun, asset}
use Rattle.operands.specs.declared.version.Version.{Version}
use Rattle.message_text.specs.Words.{id_text, fun_text, asset_text}
use Rattle.tree_reading.specs.Puts.{AreBytes}
use Rattle.tree_reading.specs.Assets.{FitsPlaceAsset}
use Rattle.tree_reading.proofs.Bytes.{bytes_front, bytes_back}
use Rattle.tree_reading.proofs.Behind.{put_behind}
use Rattle.tree_reading.proofs.AssetParts.{solid_id}
use Rattle.tree_reading.proofs.assets.put_asset.Goals as goal

parts : (a : Asset) (text : List ℕ) → text ≡ asset_text a → text ≡ id_text a.id ++ 32 ∷ fun_text a.fun
parts a text e = e ∙ append_assoc (id_text a.id) (codes " ") (fun_text a.fun)

first : (v : Version) (a : Asset) → AreBytes (asset v a) → AreBytes (asset_id v a.id)
unfolding asset
first v a h = bytes_front (asset_id v a.id) (fun a.fun) h

second : (v : Version) (a : Asset) → AreBytes (asset v a) → AreBytes (fun a.fun)
unfolding asset
second v a h = bytes_back (asset_id v a.id) (fun a.fun) h

spelled : (v : Version) (a : Asset) → asset v a ≡ asset_id v a.id ++ fun a.fun
unfolding asset
spelled v a = refl

pub returns-in_default : goal.returns-in_default
returns-in_default c = λ a fits bytes e.
    let v = c.args.version in
    absurd (rw c.in_default.is at (c.at_space.ensures (id_text a.id) (fun_text a.fun) (solid_id v a.id (fits.0, fits.1.0) (first v a bytes)) (parts a c.args.text.now e)))

pub returns-then-not-done : goal.returns-then-not-done
returns-then-not-done c = λ a fits bytes e.
    let v = c.args.version in
    let cut = rw c.in-Some.is at (c.at_space.ensures (id_text a.id) (fun_text a.fun) (solid_id v a.id (fits.0, fits.1.0) (first v a bytes)) (parts a c.args.text.now e)) in
    let put = c.in_ok-done.ensures a.id (fits.0, fits.1.0) (first v a bytes) cut.0 in
    absurd (cc (put.0, c.if-not-done.true))

pub returns : goal.returns
returns c =
    let v = c.args.version in
    put_behind (FitsPlaceAsset v) asset_text (asset v) FitsFun fun_text fun c.args.text.now c.in-Some.fun.now c.put_fun.result c.args.out.now c.put_id.new.out c.put_fun.new.out
    (λ a fits bytes e.
    let cut = rw c.in-Some.is at (c.at_space.ensures (id_text a.id) (fun_text a.fun) (solid_id v a.id (fits.0, fits.1.0) (first v a bytes)) (parts a c.args.text.now e)) in
    let put = c.in_ok-done.ensures a.id (fits.0, fits.1.0) (first v a bytes) cut.0 in
    record { value = a.fun; fits = fits.1.1; bytes = second v a bytes; words = cut.1; front = asset_id v a.id; put = put.1; spelled = spelled v a })
    c.put_fun.ensures
