use Rattle.std.proofs.Common.{◌<◌, ◌^◌, arith}
use Rattle.exec_control.proofs.Spellings.{failure_then, failure_else}
use Rattle.exec_control.proofs.comparing.is_same_failure.Goals as goal

pub returns-then-a-b : goal.returns-then-a-b
returns-then-a-b c =
    let low : c.args.a.now.0 < 2 ^ 32 = omega arith in
    let high : c.args.b.now.0 < 2 ^ 32 = omega arith in
    let errors = c.is_same_error-is_same.ensures in
    failure_then c.is_same_error-is_same.result c.args.a.now c.args.b.now (low, errors.fits.0) (high, errors.fits.1) errors.told errors.same c.if-a-b.true

pub returns-else-a-b : goal.returns-else-a-b
returns-else-a-b c =
    let low : c.args.a.now.0 < 2 ^ 32 = omega arith in
    let high : c.args.b.now.0 < 2 ^ 32 = omega arith in
    let errors = c.is_same_error-is_same.ensures in
    failure_else c.is_same_error-is_same.result c.args.a.now c.args.b.now (low, errors.fits.0) (high, errors.fits.1) errors.told errors.same c.if-a-b.false
