use Rattle.std.proofs.Common.{◌≡◌, ◌∙◌, ℕ, ◌≤◌, List, ◌∷◌, ◌++◌, refl, append_assoc, arith}
use Rattle.std.specs.Prelude.{codes, decimal}
use Rattle.scale_codec.specs.Spelling.{compact}
use Rattle.operands.specs.Texts.{weight_text}
use Rattle.operands.specs.declared.weight.Weight.{Weight}
use Rattle.xcm_format.specs.Parts.{weight, FitsWeight}
use Rattle.tree_reading.specs.Puts.{AreBytes}
use Rattle.tree_reading.proofs.Bytes.{bytes_front, bytes_back}
use Rattle.tree_reading.proofs.Solid.{solid_decimal}
use Rattle.tree_reading.proofs.Behind.{put_behind}
use Rattle.tree_reading.proofs.numbers.put_weight.Goals as goal

parts : (w : Weight) (text : List ℕ) → text ≡ weight_text w → text ≡ decimal w.ref_time ++ 32 ∷ decimal w.proof_size
parts w text e = e ∙ append_assoc (decimal w.ref_time) (codes " ") (decimal w.proof_size)

first : (w : Weight) → AreBytes (weight w) → AreBytes (compact w.ref_time)
unfolding weight
first w h = bytes_front (compact w.ref_time) (compact w.proof_size) h

second : (w : Weight) → AreBytes (weight w) → AreBytes (compact w.proof_size)
unfolding weight
second w h = bytes_back (compact w.ref_time) (compact w.proof_size) h

spelled : (w : Weight) → weight w ≡ compact w.ref_time ++ compact w.proof_size
unfolding weight
spelled w = refl

pub returns-in_default : goal.returns-in_default
returns-in_default c = λ w fits bytes e.
    absurd (rw c.in_default.is at (c.at_space.ensures (decimal w.ref_time) (decimal w.proof_size) (solid_decimal w.ref_time (omega (arith, fits.0))) (parts w c.args.text.now e)))

pub returns-then-not-done : goal.returns-then-not-done
returns-then-not-done c = λ w fits bytes e.
    let cut = rw c.in-Some.is at (c.at_space.ensures (decimal w.ref_time) (decimal w.proof_size) (solid_decimal w.ref_time (omega (arith, fits.0))) (parts w c.args.text.now e)) in
    let put = c.in_ok-done.ensures w.ref_time (omega (arith, fits.0)) (first w bytes) cut.0 in
    absurd (cc (put.0, c.if-not-done.true))

pub returns : goal.returns
returns c =
    put_behind FitsWeight weight_text weight (λ n. n ≤ 18446744073709551615) decimal compact c.args.text.now c.in-Some.proof_size.now c.put_number-2.result c.args.out.now c.put_number.new.out c.put_number-2.new.out
    (λ w fits bytes e.
    let cut = rw c.in-Some.is at (c.at_space.ensures (decimal w.ref_time) (decimal w.proof_size) (solid_decimal w.ref_time (omega (arith, fits.0))) (parts w c.args.text.now e)) in
    let put = c.in_ok-done.ensures w.ref_time (omega (arith, fits.0)) (first w bytes) cut.0 in
    record { value = w.proof_size; fits = omega (arith, fits.1); bytes = second w bytes; words = cut.1; front = compact w.ref_time; put = put.1; spelled = spelled w })
    c.put_number-2.ensures
