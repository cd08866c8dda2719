use Rattle.std.proofs.Common.{refl, arith}
use Rattle.std.specs.Prelude.{decimal}
use Rattle.scale_codec.specs.Spelling.{compact}
use Rattle.xcm_format.specs.Parts.{FitsPallet}
use Rattle.tree_reading.specs.Pallets.{minor_text, minor_version, crate_text, crate_version}
use Rattle.tree_reading.proofs.Bytes.{bytes_front, bytes_back}
use Rattle.tree_reading.proofs.Solid.{dotless_decimal}
use Rattle.tree_reading.proofs.Behind.{put_behind}
use Rattle.tree_reading.proofs.pallets.put_crate.Goals as goal

pub returns-in_default : goal.returns-in_default
returns-in_default c = λ p fits all e. absurd (rw c.in_default.is at (c.at_dot.ensures (decimal p.major) (minor_text p) (dotless_decimal p.major (omega (arith, fits.3))) e))

pub returns-then-not-done : goal.returns-then-not-done
returns-then-not-done c = λ p fits all e.
    let cut = rw c.in-Some.is at (c.at_dot.ensures (decimal p.major) (minor_text p) (dotless_decimal p.major (omega (arith, fits.3))) e) in
    let put = c.in_ok-done.ensures p.major (omega (arith, fits.3)) (bytes_front (compact p.major) (minor_version p) all) cut.0 in
    absurd (cc (put.0, c.if-not-done.true))

pub returns : goal.returns
returns c =
    put_behind FitsPallet crate_text crate_version FitsPallet minor_text minor_version c.args.text.now c.in-Some.minor.now c.put_minor.result c.args.out.now c.put_number.new.out c.put_minor.new.out
    (λ p fits all e.
    let cut = rw c.in-Some.is at (c.at_dot.ensures (decimal p.major) (minor_text p) (dotless_decimal p.major (omega (arith, fits.3))) e) in
    let put = c.in_ok-done.ensures p.major (omega (arith, fits.3)) (bytes_front (compact p.major) (minor_version p) all) cut.0 in
    record { value = p; fits = fits; bytes = bytes_back (compact p.major) (minor_version p) all; words = cut.1; front = compact p.major; put = put.1; spelled = refl })
    c.put_minor.ensures
