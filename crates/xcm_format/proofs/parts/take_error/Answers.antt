use Rattle.std.proofs.Common.{◌≤◌, arith}
use Rattle.xcm_format.specs.Reading.{error_at, error_forms}
use Rattle.xcm_format.proofs.Forms.{chosen_past}
use Rattle.xcm_format.proofs.parts.take_error.Goals as goal

pub returns-in_default : goal.returns-in_default
unfolding error_at
returns-in_default c =
    let past : 35 ≤ c.in_ok-u8.field-0 = omega arith in
    rw c.in_ok-u8.ensures.read (chosen_past error_forms c.in_ok-u8.field-0 _ past)
