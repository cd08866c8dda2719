use Rattle.std.proofs.Common.{◌∙◌, ◌++◌, refl, ap, length}
use Rattle.scale_codec.specs.Spelling.{compact}
use Rattle.xcm_format.specs.Parts.{bytes}
use Rattle.tree_reading.proofs.Bytes.{bytes_back}
use Rattle.tree_reading.proofs.hexes.put_hex.Goals as goal

pub returns-in_default : goal.returns-in_default
returns-in_default c = λ b fits all e. absurd (rw c.in_default.is at (c.in_ok-bytes.ensures b (bytes_back (compact (length b)) b all) e))

pub returns : goal.returns
returns c = λ b fits all e.
    let same = rw c.in-Some.is at (c.in_ok-bytes.ensures b (bytes_back (compact (length b)) b all) e) in
    (refl, c.in_ok-put_counted.ensures ∙ ap (λ t. c.args.out.now ++ bytes t) (c.as_slice.ensures.value ∙ same))
