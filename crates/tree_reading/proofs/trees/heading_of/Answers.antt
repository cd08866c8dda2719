use Rattle.std.proofs.Common.{◌≡◌, ℕ, ◌^◌, ◌<◌, Some, arith}
use Rattle.std.specs.Prelude.{decimal}
use Rattle.xcm_format.specs.Messages.{version_byte}
use Rattle.tree_reading.specs.Trees.{version_words}
use Rattle.tree_reading.proofs.Solid.{solid_decimal}
use Rattle.tree_reading.proofs.Headings.{behind_message, behind_version}
use Rattle.tree_reading.proofs.trees.heading_of.Goals as goal

pub returns-in_err-number : goal.returns-in_err-number
returns-in_err-number c = λ n v lt e.
    absurd (c.in_err-number.ensures (decimal n) (version_words v) (solid_decimal n (omega (arith, lt))) (behind_message c.args.words.now c.in_ok-after.field-0.now n v c.in_ok-after.ensures e))

pub returns-in_err-number-2 : goal.returns-in_err-number-2
returns-in_err-number-2 c = λ n v lt e.
    let p = c.in_ok-number.ensures (decimal n) (version_words v) (solid_decimal n (omega (arith, lt))) (behind_message c.args.words.now c.in_ok-after.field-0.now n v c.in_ok-after.ensures e) in
    absurd (cc (c.in_err-number-2.ensures n (omega (arith, lt)) p.0))

pub returns-in_err-after-2 : goal.returns-in_err-after-2
returns-in_err-after-2 c = λ n v lt e.
    let p = c.in_ok-number.ensures (decimal n) (version_words v) (solid_decimal n (omega (arith, lt))) (behind_message c.args.words.now c.in_ok-after.field-0.now n v c.in_ok-after.ensures e) in
    absurd (c.in_err-after-2.ensures (decimal (version_byte v)) p.1)

pub returns-in_err-version : goal.returns-in_err-version
returns-in_err-version c = λ n v lt e.
    let p = c.in_ok-number.ensures (decimal n) (version_words v) (solid_decimal n (omega (arith, lt))) (behind_message c.args.words.now c.in_ok-after.field-0.now n v c.in_ok-after.ensures e) in
    absurd (cc (c.in_err-version.ensures v (behind_version c.in_ok-number.behind.now c.in_ok-after-2.field-0.now v c.in_ok-after-2.ensures p.1)))

pub returns : goal.returns
returns c = λ n v lt e.
    let p = c.in_ok-number.ensures (decimal n) (version_words v) (solid_decimal n (omega (arith, lt))) (behind_message c.args.words.now c.in_ok-after.field-0.now n v c.in_ok-after.ensures e) in
    let number = c.in_ok-number-2.ensures n (omega (arith, lt)) p.0 in
    let version = c.in_ok-version.ensures v (behind_version c.in_ok-number.behind.now c.in_ok-after-2.field-0.now v c.in_ok-after-2.ensures p.1) in
    cc (number, version)
