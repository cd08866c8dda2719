use Rattle.std.proofs.Common.{◌∙◌, ◌≤◌, refl, sym, subst, arith}
use Rattle.std.specs.Prelude.{decimal}
use Rattle.scale_codec.specs.Spelling.{compact}
use Rattle.xcm_format.specs.Parts.{FitsPallet}
use Rattle.tree_reading.specs.Pallets.{minor_text, minor_version}
use Rattle.tree_reading.proofs.Bytes.{bytes_front, bytes_back}
use Rattle.tree_reading.proofs.Solid.{dotless_decimal}
use Rattle.tree_reading.proofs.Behind.{put_behind}
use Rattle.tree_reading.specs.Rows.{IsDotless}
use Rattle.tree_reading.proofs.pallets.put_minor.Goals as goal

pub returns-in_default : goal.returns-in_default
returns-in_default c = λ p fits all e. absurd (rw c.in_default.is at (c.at_dot.ensures (decimal p.minor) (decimal p.patch) (dotless_decimal p.minor (omega (arith, fits.4))) e))

pub returns-then-not-done : goal.returns-then-not-done
returns-then-not-done c = λ p fits all e.
    let cut = rw c.in-Some.is at (c.at_dot.ensures (decimal p.minor) (decimal p.patch) (dotless_decimal p.minor (omega (arith, fits.4))) e) in
    let put = c.in_ok-done.ensures p.minor (omega (arith, fits.4)) (bytes_front (compact p.minor) (compact p.patch) all) cut.0 in
    absurd (cc (put.0, c.if-not-done.true))

pub returns : goal.returns
returns c =
    put_behind FitsPallet minor_text minor_version (λ n. n ≤ 4294967295) decimal compact c.args.text.now c.part_of.result.now c.put_number-2.result c.args.out.now c.put_number.new.out c.put_number-2.new.out
    (λ p fits all e.
    let cut = rw c.in-Some.is at (c.at_dot.ensures (decimal p.minor) (decimal p.patch) (dotless_decimal p.minor (omega (arith, fits.4))) e) in
    let put = c.in_ok-done.ensures p.minor (omega (arith, fits.4)) (bytes_front (compact p.minor) (compact p.patch) all) cut.0 in
    record { value = p.patch; fits = omega (arith, fits.5); bytes = bytes_back (compact p.minor) (compact p.patch) all; words = c.part_of.ensures (subst IsDotless (sym cut.1) (dotless_decimal p.patch (omega (arith, fits.5)))) ∙ cut.1; front = compact p.minor; put = put.1; spelled = refl })
    c.put_number-2.ensures
