use Rattle.std.proofs.Common.{◌≡◌, ◌∙◌, ℕ, List, ap, Ok, inl, inr}
use Rattle.hex.specs.Hex.{encode_lower, decode_of}
use Rattle.hex.proofs.HexLemmas.{decode_of-encode_lower}
use Rattle.tree_reading.specs.Puts.{AreBytes}
use Rattle.tree_reading.proofs.Bytes.{bytes_at}
use Rattle.tree_reading.proofs.hexes.decoded.Goals as goal

again : (b digits : List ℕ) → AreBytes b → digits ≡ encode_lower b → decode_of digits ≡ Ok b
again b digits bytes e = ap decode_of e ∙ decode_of-encode_lower b (bytes_at b bytes)

pub returns-in-Ok : goal.returns-in-Ok
returns-in-Ok c = λ b bytes e. let f = c.in-Ok.ensures.ok in let g = again b c.args.digits.now bytes e in cc (f, g)

pub returns-in_default : goal.returns-in_default
returns-in_default c = λ b bytes e.
    let back = again b c.args.digits.now bytes e in
    elim c.in-Err.ensures.err [ inl m ↦ absurd (c.in_default.not-OutOfMemory m) | inr d ↦ absurd (cc (d, back)) ]
